-- Laws of the count of cycles: one for each answer.
use Prim.Native.Nat.{ℕ, ◌+◌, ◌^◌, ◌<◌, ◌≤◌, min}
use native.Mathlib.Decide.{dec_lt}
use native.Mathlib.Omega.{arith}
use mathlib.Core.Path.{◌≡◌, refl, ◌∙◌}
use mathlib.Core.Bool.{Bool, true, false, cond}
use mathlib.Core.List.{List}
use lib.Dec.{eqb, leb, ltb}
use borrow.Author.Tests.{ne_eqb, lt-ltb, le-ltb, lt-leb}
use Rattle.base.specs.Lists.{flag}
use Rattle.meaning.specs.declared.Refusal.{Refusal}
use Rattle.std.specs.Prelude.{Result, Ok, Err}
use Rattle.meaning.specs.declared.Progress.{Progress}
use Rattle.meaning.specs.declared.Progress.TheVariants.{Running, Finished}
use Rattle.meaning.specs.Answers.{answered, refusal_number, answer_number, settle_number}
use Rattle.meaning.specs.Cycle.{root_ended, settled_marks, settle_refusal, settle_answer}
use Rattle.meaning.proofs.Answers.{refusal_counts}
use Rattle.agreement.proofs.Operations.{settle_below}
use Rattle.desk_dispatch.specs.Counting.{max_count, more, settled_cycles}

-- the count that saturates
pub more_saturates : (n : ℕ) → n < 2 ^ 64 → min (n + 1) max_count ≡ more n
unfolding more
more_saturates n h = go (dec_lt n max_count)
  where
    go : Dec (n < max_count) → min (n + 1) max_count ≡ cond (ltb n max_count) (n + 1) n
    go (yes l) = rw (lt-ltb n max_count l) (omega arith)
    go (no l) = rw (le-ltb n max_count (omega arith)) (omega arith)

-- after a beginning
module _ (a : Result (Unit {0}) Refusal) (n : ℕ) where
  pub begun_done : a ≡ Ok tt → 0 ≡ cond (eqb (answer_number a) 0) 0 n
  begun_done e = rw e

  pub begun_refused : (r : Refusal) → a ≡ Err r → n ≡ cond (eqb (answer_number a) 0) 0 n
  begun_refused r e = rw (e, ne_eqb (refusal_number r) 0 (λ z. omega (arith, refusal_counts r)))

-- after a settling
module _ (a : Result Progress Refusal) (n : ℕ) where
  pub settle_refused_count : (r : Refusal) → a ≡ Err r → n ≡ cond (leb answered (settle_number a)) (more n) n
  settle_refused_count r e = rw (e, lt-leb answered (refusal_number r) (omega (arith, refusal_counts r)))

  pub settle_counted : (x : Progress) (m : ℕ) → a ≡ Ok x → m ≡ more n → m ≡ cond (leb answered (settle_number a)) (more n) n
  settle_counted x m e h = rw e (go x)
    where
      go : (x : Progress) → m ≡ cond (leb answered (settle_number (Ok x))) (more n) n
      go Running = h
      go Finished = h

-- an answer of 256 or more is that of a settling that is not refused
pub settled_count : (t r est : List ℕ) (answer n m : ℕ) → answer ≡ settle_answer t r est
    → m ≡ cond (leb answered answer) (more n) n → m ≡ settled_cycles t r est n
unfolding settled_cycles
settled_count t r est answer n m a e = e ∙ rw a (go (eqb (settle_refusal t r est) 0) (root_ended (settled_marks t r est)))
  where
    go : (b ends : Bool) → cond (leb answered (cond b (answered + flag ends) (settle_refusal t r est))) (more n) n ≡ cond b (more n) n
    go true true = refl
    go true false = refl
    go false ends = rw (settle_below t r est)
