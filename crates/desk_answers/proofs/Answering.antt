-- Laws of the lines of answers: which line each answer gets, and how those of several pieces are written.
use Prim.Native.Nat.{ℕ, ◌+◌}
use native.Mathlib.Nat.{add-sub_cancel_left}
use native.Mathlib.Omega.{arith}
use mathlib.Core.Path.{◌≡◌, refl}
use mathlib.Core.List.{List}
use borrow.Author.Tests.{eq-eqb, ne_eqb, lt-ltb, le-ltb}
use Rattle.std.specs.Prelude.{Option, None, Some, Result, Ok, Err, unwrap_or}
use Rattle.meaning.specs.declared.Refusal.{Refusal}
use Rattle.meaning.specs.declared.Progress.{Progress}
use Rattle.meaning.specs.declared.Progress.TheVariants.{Running, Finished}
use Rattle.meaning.specs.Answers.{refusal_number, answer_number, offer_number, settle_number, answered, no_variable}
use Rattle.meaning.proofs.Answers.{refusal_counts}
use Rattle.desk_format.specs.Decimal.{decimal}
use Rattle.desk_format.specs.Hexadecimal.{pairs}
use Rattle.desk_format.specs.Words.{word, numbered}
use Rattle.desk_format.proofs.Texts.{Three}
use Rattle.desk_answers.specs.Answers.{refused_text, begun_text, settled_text, named_text, goals_text, offered_text, line_text}

-- A beginning's line
pub begun_done_text : {a : Result (Unit {0}) Refusal} {u : Unit {0}} → a ≡ Ok u → begun_text (answer_number a) ≡ word "begun\n"
unfolding begun_text
begun_done_text told = rw told

pub begun_refused_text : {a : Result (Unit {0}) Refusal} {r : Refusal} → a ≡ Err r → begun_text (answer_number a) ≡ refused_text (refusal_number r)
unfolding begun_text
begun_refused_text {r = r} told = rw (told, ne_eqb (refusal_number r) 0 (λ z. omega (arith, refusal_counts r)))

-- A settling's line
pub by_progress : {a : Result Progress Refusal} {x y : Progress} → a ≡ Ok x → x ≡ y → a ≡ Ok y
by_progress told x-is = rw (told, x-is)

pub settled_running_text : {a : Result Progress Refusal} → a ≡ Ok Running → settled_text (settle_number a) ≡ word "running\n"
unfolding settled_text
settled_running_text told = rw told

pub settled_finished_text : {a : Result Progress Refusal} → a ≡ Ok Finished → settled_text (settle_number a) ≡ word "finished\n"
unfolding settled_text
settled_finished_text told = rw told

pub settled_refused_text : {a : Result Progress Refusal} {r : Refusal} → a ≡ Err r → settled_text (settle_number a) ≡ refused_text (refusal_number r)
unfolding settled_text
settled_refused_text {r = r} told = rw (told, lt-ltb (refusal_number r) answered (refusal_counts r).1)

-- An offer's line
pub offered_refused : {a : Result (Option ℕ) Refusal} {r : Refusal} (goals : List ℕ) → a ≡ Err r → offered_text (offer_number a) goals ≡ refused_text (refusal_number r)
unfolding offered_text
offered_refused {r = r} goals told = rw (told, lt-ltb (refusal_number r) answered (refusal_counts r).1)

offered_name : (named : Option ℕ) (goals : List ℕ) → offered_text (offer_number (Ok named)) goals ≡ goals_text goals (unwrap_or named no_variable)
unfolding offered_text
offered_name None goals = refl
offered_name (Some v) goals = rw (le-ltb (answered + v) answered (omega arith), add-sub_cancel_left)

pub offered_named : {a : Result (Option ℕ) Refusal} {named : Option ℕ} (goals : List ℕ) → a ≡ Ok named → offered_text (offer_number a) goals ≡ goals_text goals (unwrap_or named no_variable)
offered_named {named = named} goals told = rw (told, offered_name named goals)

pub named_none : {v : ℕ} → v ≡ no_variable → named_text v ≡ word " named none\n"
unfolding named_text
named_none {v} e = rw (eq-eqb v no_variable e)

pub named_one : {v : ℕ} → (v ≡ no_variable → ⊥) → named_text v ≡ numbered (word " named ") v
unfolding named_text
named_one {v} e = rw (ne_eqb v no_variable e)

-- The pieces of the lines that have several
pub goals_pieces : (goals : List ℕ) (v : ℕ) → Three (goals_text goals v) (word "goals") (pairs goals) (named_text v)
unfolding goals_text
goals_pieces goals v = record { made = refl }

pub line_pieces : (n : ℕ) → Three (line_text n) (word "line ") (decimal n) (word ": not a call\n")
unfolding line_text
line_pieces n = record { made = refl }
