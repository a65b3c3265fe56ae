-- Each call is made by its operation, and its text is that of the answer.
use Prim.Native.Nat.{ℕ, zero, suc, ◌≤◌}
use native.Mathlib.Omega.{arith}
use mathlib.Core.Path.{◌≡◌, refl, ap, ◌∙◌}
use mathlib.Core.Bool.{false, cond}
use mathlib.Core.List.{List, ◌∷◌}
use lib.Dec.{eqb, leb}
use lib.ListN.{length, take, replicate, length-replicate}
use Rattle.base.specs.Lists.{bytes_at}
use Rattle.std.specs.Prelude.{Option, Result}
use Rattle.meaning.specs.declared.Refusal.{Refusal}
use Rattle.meaning.specs.declared.Progress.{Progress}
use Rattle.meaning.specs.Program.{variables}
use Rattle.meaning.specs.Cycle.{begun_into, offered_into, settled_into}
use Rattle.meaning.specs.Answers.{answered, answer_number, offer_number, settle_number}
use Rattle.meaning.specs.Operations.{Begun, Offered, Settled}
use Rattle.desk_answers.specs.Answers.{begun_text, offered_text, settled_text}
use Rattle.desk_dispatch.specs.Counting.{more, begun_cycles, settled_cycles}
use Rattle.desk_dispatch.specs.Making.{begin_report, offer_report, settle_report}
use Rattle.desk_dispatch.proofs.Counted.{settled_count}

-- a beginning
module _ (t est r r' : List ℕ) (a : Result (Unit {0}) Refusal) (made : Begun t est r (answer_number a) r') where
  pub begin_counted : (n m : ℕ) → m ≡ cond (eqb (answer_number a) 0) 0 n → m ≡ begun_cycles t est r n
  unfolding begun_cycles
  begin_counted n m count = count ∙ rw made.answer_is

  pub begin_told : begin_report t est r ≡ begun_text (answer_number a)
  begin_told = rw made.answer_is

-- a settling
module _ (t r est r' : List ℕ) (a : Result Progress Refusal) (made : Settled t r est (settle_number a) r') where
  pub settle_counted_at : (n m : ℕ) → m ≡ cond (leb answered (settle_number a)) (more n) n → m ≡ settled_cycles t r est n
  settle_counted_at n m count = settled_count t r est (settle_number a) n m made.answer_is count

  pub settle_told : settle_report t r est ≡ settled_text (settle_number a)
  settle_told = rw made.answer_is

-- an offer
module _ (t r : List ℕ) (time : ℕ) (goals r' goals' : List ℕ) (a : Result (Option ℕ) Refusal) (made : Offered t r time goals (offer_number a) r' goals') where
  pub offer_told : (v : ℕ) → v ≡ variables t → offer_report t r time goals ≡ offered_text (offer_number a) (bytes_at goals' 0 v)
  offer_told v v-is = rw (v-is, made.answer_is, made.goals_are)

-- a goal buffer is the beginning of a longer buffer of zeros
zeros_lent : (k n : ℕ) → n ≤ k → take n (replicate {A = ℕ} k 0) ≡ replicate n 0
zeros_lent k zero h = refl
zeros_lent zero (suc n) h = absurd (omega arith)
zeros_lent (suc k) (suc n) h = ap (λ (l : List ℕ). 0 ∷ l) (zeros_lent k n (omega arith))

pub offer_lent : (t r : List ℕ) (time room k : ℕ) → room ≤ k → offer_report t r time (replicate room 0) ≡ offer_report t r time (take room (replicate k 0))
offer_lent t r time room k h = rw (zeros_lent k room h)

pub lent_left : (t r r' : List ℕ) (time room k : ℕ) → room ≤ k → r' ≡ offered_into t r time (length (take room (replicate {A = ℕ} k 0))) → r' ≡ offered_into t r time room
lent_left t r r' time room k h e = rw (zeros_lent k room h, length-replicate) at e
