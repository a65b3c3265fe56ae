-- Initialising, turn by turn: each turn of the loop takes the first of the marks that are still to come.
use Prim.Native.Nat.{ℕ, zero, suc, ◌+◌, ◌-◌, ◌≤◌, ◌<◌}
use native.Mathlib.Numerals.{add-one}
use native.Mathlib.Omega.{arith}
use mathlib.Core.Path.{◌≡◌, refl, ◌∙◌}
use mathlib.Core.Bool.{Bool, true, false, cond}
use mathlib.Core.List.{List, ◌∷◌}
use lib.ListN.{set}
use lib.Seq.{sets}
use Rattle.base.specs.Lists.{flag}
use Rattle.meaning.specs.Program.{parts}
use Rattle.meaning.specs.Table.{end_at, parent_at, inside_of, is_table}
use Rattle.meaning.specs.Cycle.{begins, initial_marks_from, initial_marks}
use Rattle.meaning.proofs.Tables.{inside}
use Rattle.meaning.proofs.Nesting.{inside_root, inside_parent}
use Rattle.run_initialise.specs.Initialising.{step_mark, step_skip, InitialiseStep}

-- the parent of a part other than the root stands in the table
pub parent_there : (t : List ℕ) (p q : ℕ) → is_table t ≡ true → 0 < p → p < parts t → q ≡ parent_at t p → q < parts t
parent_there t p q table some here q-is = omega (arith, (inside_parent t table 0 p (inside_root t table p some here)).0)

-- one part: it is passed over, it begins, or it does not
module _ (t l m : List ℕ) (from p w : ℕ) (w-is : w ≡ p) where
  turned : (skip n x : ℕ) → n ≡ step_skip t p skip → x ≡ step_mark t p skip → m ≡ set l (from + w) x → InitialiseStep t l from p skip m n
  turned skip n x n-is x-is m-is = record { skip_is = n-is; marks_are = m-is ∙ rw (w-is, x-is) }

  pub turn_passed : (skip : ℕ) → 0 < skip → m ≡ set l (from + w) 0 → InitialiseStep t l from p skip m (skip - 1)
  unfolding step_mark step_skip
  turn_passed zero h m-is = absurd (omega arith)
  turn_passed (suc skip) h m-is = turned (suc skip) (suc skip - 1) 0 (omega arith) refl m-is

  module _ (skip : ℕ) (none : skip ≤ 0) (b : Bool) (b-is : b ≡ begins t p) where
    turn_judged : (n : ℕ) → n ≡ cond b 0 (inside_of t p) → m ≡ set l (from + w) (flag b) → InitialiseStep t l from p skip m n
    unfolding step_mark step_skip
    turn_judged n n-is m-is =
        let z : skip ≡ 0 = omega arith in
        rw z (turned 0 n (flag b) (n-is ∙ rw b-is) (rw b-is) m-is)

    pub turn_begins : b ≡ true → m ≡ set l (from + w) 1 → InitialiseStep t l from p skip m 0
    turn_begins e m-is = turn_judged 0 (rw e) (m-is ∙ rw e)

    pub turn_idle : (n : ℕ) → b ≡ false → m ≡ set l (from + w) 0 → n ≡ inside_of t p → InitialiseStep t l from p skip m n
    turn_idle n e m-is n-is = turn_judged n (n-is ∙ rw e) (m-is ∙ rw e)

initial_step : (t : List ℕ) (p n skip : ℕ) → initial_marks_from t p (suc n) skip ≡ step_mark t p skip ∷ initial_marks_from t (suc p) n (step_skip t p skip)
unfolding initial_marks_from step_mark step_skip
initial_step t p n zero = refl
initial_step t p n (suc skip) = refl

-- the parts inside a part stand in the table
pub turn_there : (t : List ℕ) (q : ℕ) → is_table t ≡ true → q < parts t → (p e : ℕ) → e ≡ end_at t q → p < e → p < parts t
turn_there t q table here p e e-is h = omega (arith, (inside t table q here).end_within_lem)

-- the loop: its beginning, its turns and its end
module _ (t : List ℕ) (from : ℕ) where
  pub initial_starts : (l m : List ℕ) (q w e : ℕ) → w ≡ q → e ≡ end_at t q → m ≡ set l (from + w) 1 → sets m (from + (q + 1)) (initial_marks_from t (q + 1) (e - (q + 1)) 0) ≡ sets l (from + q) (initial_marks t q)
  unfolding initial_marks
  initial_starts l m q w e w-is e-is m-is =
      let i : from + (q + 1) ≡ suc (from + q) = omega arith in
      rw (m-is, w-is, i, e-is, add-one)

  pub initial_next : (l m w : List ℕ) (p e skip skip' : ℕ) → p < e → InitialiseStep t l from p skip m skip' → sets l (from + p) (initial_marks_from t p (e - p) skip) ≡ w → sets m (from + (p + 1)) (initial_marks_from t (p + 1) (e - (p + 1)) skip') ≡ w
  initial_next l m w p e skip skip' h turn inv =
      let k : e - p ≡ suc (e - (p + 1)) = omega arith in
      let i : from + (p + 1) ≡ suc (from + p) = omega arith in
      rw (turn.marks_are, turn.skip_is, i, add-one) (rw (k, initial_step t p (e - (p + 1)) skip, add-one) at inv)

  pub initial_ends : (l w : List ℕ) (p e skip : ℕ) → e ≤ p → sets l (from + p) (initial_marks_from t p (e - p) skip) ≡ w → l ≡ w
  unfolding initial_marks_from
  initial_ends l w p e skip h inv = let k : e - p ≡ 0 = omega arith in rw k at inv
