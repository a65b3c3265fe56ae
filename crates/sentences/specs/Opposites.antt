-- Conditions and their opposites, and what the papers say of them in every situation.
use Rattle.std.specs.Prelude.{ℕ, ◌+◌, ◌≤◌, ◌<◌, ◌≡◌, ◌↔◌, ◌≢◌, ◌⊎◌, true, false, get_or}
use Rattle.meaning.specs.declared.Operand.{Operand}
use Rattle.meaning.specs.declared.Outcome.TheVariants.{Open}
use Rattle.meaning.specs.Sizes.{unknown_value}
use Rattle.meaning.specs.declared.kinds.Test.{Test}
use Rattle.meaning.specs.declared.kinds.Test.TheVariants.{Untested as UNTESTED, Equals as EQUALS, Differs as DIFFERS, AtLeast as AT-LEAST, Below as BELOW}
use Rattle.meaning.specs.Kinds.{test_of, test_number, value}
use Rattle.meaning.specs.Conditions.{Situation, estimate_of, is_known, is_started, reading, outcome, satisfied, violated}

-- "its opposite (1 against 2, 3 against 4)"
unfoldable pub opposite : Test → Test
opposite UNTESTED = UNTESTED
opposite EQUALS = DIFFERS
opposite DIFFERS = EQUALS
opposite AT-LEAST = BELOW
opposite BELOW = AT-LEAST

-- the opposite of a condition asks the opposite of the same variable or clock, with the same value
abbrev pub opposite_of : Operand → Operand
opposite_of o = record { b0 = test_number (opposite (test_of o.b0)); b1 = o.b1; b2 = o.b2; b3 = o.b3 }

-- "A condition has b0 = 1 (variable equals value), 2 (differs), 3 (clock reads at least value) or 4 (reads below value)"
abbrev pub OverVariable : Operand → Type 0
OverVariable o = (o.b0 ≡ 1) ⊎ (o.b0 ≡ 2)

abbrev pub OverClock : Operand → Type 0
OverClock o = (o.b0 ≡ 3) ⊎ (o.b0 ≡ 4)

pub record Judged (sit : Situation) (o : Operand) : Type 0 where
  -- what each test asks, of a variable that is known and of a clock that is started: "A condition over an unstarted clock is not satisfied"
  pub equals : o.b0 ≡ 1 → (satisfied sit o ≡ true) ↔ ((is_known sit o.b1 ≡ true) × (estimate_of sit o.b1 ≡ value o))
  pub differs : o.b0 ≡ 2 → (satisfied sit o ≡ true) ↔ ((is_known sit o.b1 ≡ true) × (estimate_of sit o.b1 ≢ value o))
  pub at_least : o.b0 ≡ 3 → (satisfied sit o ≡ true) ↔ ((is_started sit o.b1 ≡ true) × (value o ≤ reading sit o.b1))
  pub below : o.b0 ≡ 4 → (satisfied sit o ≡ true) ↔ ((is_started sit o.b1 ≡ true) × (reading sit o.b1 < value o))
  -- "It is violated when its opposite is satisfied", and satisfied when its opposite is violated
  pub violated_is : violated sit o ≡ satisfied sit (opposite_of o)
  pub satisfied_is : satisfied sit o ≡ violated sit (opposite_of o)
  -- "Testing a condition answers one of three: satisfied, violated, or open" (document 02, R-4): never both, and open where it is neither
  pub never_both : satisfied sit o ≡ true → violated sit o ≡ false
  pub open_is : (outcome sit o ≡ Open) ↔ ((satisfied sit o ≡ false) × (violated sit o ≡ false))
  -- "Over an unknown variable it is open, as it already is over an unstarted clock" (document 02, R-4), and over any other it is not
  pub open_variable : OverVariable o → (outcome sit o ≡ Open) ↔ (estimate_of sit o.b1 ≡ unknown_value)
  pub open_clock : OverClock o → (outcome sit o ≡ Open) ↔ (is_started sit o.b1 ≡ false)

-- "A started clock reads the cycle's time minus its start": both together are that time, so that nothing is cut off where the difference is taken
abbrev pub ReadsExactly : Situation → Type 0
ReadsExactly sit = (c : ℕ) → is_started sit c ≡ true → reading sit c + get_or sit.starts c 0 ≡ sit.time
