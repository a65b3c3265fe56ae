-- How long the lines of answers are at most.
use Prim.Native.Nat.{ℕ, ◌+◌, ◌-◌, ◌*◌, ◌≤◌}
use native.Mathlib.Omega.{arith}
use mathlib.Core.Bool.{Bool, true, false, cond}
use mathlib.Core.List.{List}
use lib.Dec.{eqb, ltb}
use lib.ListN.{length}
use Rattle.meaning.specs.Answers.{answered, no_variable}
use Rattle.desk_format.specs.Decimal.{max_digits}
use Rattle.desk_format.specs.Words.{word, numbered}
use Rattle.desk_format.proofs.Texts.{three_length}
use Rattle.desk_format.proofs.Pairs.{length_pairs}
use Rattle.desk_format.proofs.Labels.{numbered_fits}
use Rattle.desk_answers.specs.Answers.{refused_text, begun_text, settled_text, named_text, goals_text, offered_text}
use Rattle.desk_answers.proofs.Answering.{goals_pieces}

-- one of two texts
pub either_fits : (b : Bool) (xs ys : List ℕ) (n : ℕ) → length xs ≤ n → length ys ≤ n → length (cond b xs ys) ≤ n
either_fits true xs ys n x y = x
either_fits false xs ys n x y = y

-- The lines without goals
abbrev pub max_short : ℕ
max_short = 8 + max_digits + 1

pub refused_short : (n : ℕ) → length (refused_text n) ≤ max_short
refused_short n = numbered_fits (word "refused ") n

pub begun_short : (n : ℕ) → length (begun_text n) ≤ max_short
unfolding begun_text
begun_short n = either_fits (eqb n 0) (word "begun\n") (refused_text n) max_short (omega arith) (refused_short n)

pub settled_short : (n : ℕ) → length (settled_text n) ≤ max_short
unfolding settled_text
settled_short n =
    either_fits (ltb n answered) (refused_text n) (cond (eqb n answered) (word "running\n") (word "finished\n")) max_short (refused_short n)
    (either_fits (eqb n answered) (word "running\n") (word "finished\n") max_short (omega arith) (omega arith))

-- The line with the goals
named_fits : (v : ℕ) → length (named_text v) ≤ 7 + max_digits + 1
unfolding named_text
named_fits v = either_fits (eqb v no_variable) (word " named none\n") (numbered (word " named ") v) (7 + max_digits + 1) (omega arith) (numbered_fits (word " named ") v)

goals_fits : (goals : List ℕ) (v : ℕ) → length (goals_text goals v) ≤ 5 + 3 * length goals + (7 + max_digits + 1)
goals_fits goals v = omega (arith, three_length (goals_pieces goals v), length_pairs goals, named_fits v)

pub offered_long : (n : ℕ) (goals : List ℕ) → length (offered_text n goals) ≤ 5 + 3 * length goals + (7 + max_digits + 1)
unfolding offered_text
offered_long n goals = either_fits (ltb n answered) (refused_text n) (goals_text goals (n - answered)) (5 + 3 * length goals + (7 + max_digits + 1)) (omega (arith, refused_short n)) (goals_fits goals (n - answered))
