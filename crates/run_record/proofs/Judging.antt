-- What a condition of the program asks for stands in the estimate and in the record, and what the code finds there is its outcome.
use Prim.Native.Nat.{ℕ, ◌+◌, ◌-◌, ◌*◌, ◌<◌, ◌≤◌}
use native.Mathlib.Nat.{zero-add}
use native.Mathlib.Omega.{arith}
use mathlib.Core.Path.{◌≡◌, ◌∙◌}
use mathlib.Core.Bool.{Bool, true, not}
use mathlib.Core.Logic.{◌⊎◌, inl, inr}
use mathlib.Core.List.{List}
use lib.Dec.{eqb, leb, ltb}
use lib.ListN.{length, get_or}
use borrow.Author.Tests.{ltb-true}
use Rattle.base.proofs.Lists.{and_left, get_or-tabulate}
use Rattle.base.proofs.Stores.{get_or_bytes}
use Rattle.meaning.specs.declared.Operand.{Operand}
use Rattle.meaning.specs.declared.Outcome.{Outcome}
use Rattle.meaning.specs.declared.kinds.Test.{Test}
use Rattle.meaning.specs.declared.kinds.Test.TheVariants.{Equals as EQUALS, Differs as DIFFERS, AtLeast as AT-LEAST, Below as BELOW}
use Rattle.meaning.specs.Sizes.{unknown_value, max_value, max_clocks, time_width}
use Rattle.meaning.specs.Kinds.{value, test_of, test_allowed, condition_allowed}
use Rattle.meaning.specs.Program.{variables, clocks}
use Rattle.meaning.specs.Record.{started_place, starts_place, time_at, started_in, starts_in}
use Rattle.meaning.specs.Conditions.{open_unless, outcome}
use Rattle.meaning.specs.Cycle.{situation}

module _ (t : List ℕ) (o : Operand) (allowed : condition_allowed (variables t) (clocks t) o ≡ true) (k : Test) (k-is : k ≡ test_of o.b0) where
  -- tests 1 and 2 ask for a variable of the program, and tests 3 and 4 for a clock of it
  variable_tested : (k ≡ EQUALS) ⊎ (k ≡ DIFFERS) → o.b1 < variables t
  unfolding condition_allowed test_allowed
  variable_tested (inl h) = ltb-true o.b1 (variables t) (and_left (ltb o.b1 (variables t)) (leb (value o) max_value) (rw (← k-is, h) at allowed))
  variable_tested (inr h) = ltb-true o.b1 (variables t) (and_left (ltb o.b1 (variables t)) (leb (value o) max_value) (rw (← k-is, h) at allowed))

  clock_tested : (k ≡ AT-LEAST) ⊎ (k ≡ BELOW) → o.b1 < clocks t
  unfolding condition_allowed test_allowed
  clock_tested (inl h) = ltb-true o.b1 (clocks t) (rw (← k-is, h) at allowed)
  clock_tested (inr h) = ltb-true o.b1 (clocks t) (rw (← k-is, h) at allowed)

  pub variable_inside : (est : List ℕ) → variables t ≤ length est → (k ≡ EQUALS) ⊎ (k ≡ DIFFERS) → o.b1 < length est
  variable_inside est long test = omega (arith, variable_tested test)

  pub clock_inside : clocks t ≤ max_clocks → (k ≡ AT-LEAST) ⊎ (k ≡ BELOW) → o.b1 < max_clocks
  clock_inside fits test = omega (arith, clock_tested test)

  -- tests 3 and 4: what the record holds of a clock of the program is what the situation has of it
  module _ (r est : List ℕ) (time : ℕ) (s b : Bool) (x : Outcome) (s-is : s ≡ not (eqb (get_or r (started_place + o.b1) 0) 0)) (x-is : x ≡ open_unless s b) where
    flag_held : (k ≡ AT-LEAST) ⊎ (k ≡ BELOW) → get_or (started_in t r) o.b1 0 ≡ get_or r (started_place + o.b1) 0
    flag_held test = get_or_bytes r started_place (clocks t) o.b1 (clock_tested test)

    start_held : (k ≡ AT-LEAST) ⊎ (k ≡ BELOW) → get_or (starts_in t r) o.b1 0 ≡ time_at r (starts_place + time_width * o.b1)
    start_held test = get_or-tabulate (λ c. time_at r (starts_place + time_width * c)) 0 (clocks t) o.b1 0 (clock_tested test) ∙ rw zero-add

    pub judged_at_least : k ≡ AT-LEAST → b ≡ leb (value o) (time - time_at r (starts_place + time_width * o.b1)) → x ≡ outcome (situation t r est time) o
    unfolding outcome
    judged_at_least h b-is = rw (← k-is, h, flag_held (inl h), start_held (inl h), ← b-is, ← s-is) x-is

    pub judged_below : k ≡ BELOW → b ≡ ltb (time - time_at r (starts_place + time_width * o.b1)) (value o) → x ≡ outcome (situation t r est time) o
    unfolding outcome
    judged_below h b-is = rw (← k-is, h, flag_held (inr h), start_held (inr h), ← b-is, ← s-is) x-is

-- tests 1 and 2: the situation has the estimate as it is
module _ (t r est : List ℕ) (time : ℕ) (o : Operand) (k b : Bool) (x : Outcome) (k-is : k ≡ not (eqb (get_or est o.b1 0) unknown_value)) (b-is : b ≡ eqb (get_or est o.b1 0) (value o)) where
  pub judged_equals : o.b0 ≡ 1 → x ≡ open_unless k b → x ≡ outcome (situation t r est time) o
  unfolding outcome test_of
  judged_equals h x-is = rw (h, ← b-is, ← k-is) x-is

  pub judged_differs : o.b0 ≡ 2 → x ≡ open_unless k (not b) → x ≡ outcome (situation t r est time) o
  unfolding outcome test_of
  judged_differs h x-is = rw (h, ← b-is, ← k-is) x-is
