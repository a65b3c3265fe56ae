-- Conditions: what a test says of an estimate, of clocks and of a time.
use Rattle.std.specs.Prelude.{ℕ, ◌-◌, Bool, true, false, cond, not, ◌&&◌, List, eqb, leb, ltb, get_or}
use Rattle.meaning.specs.declared.Operand.{Operand}
use Rattle.meaning.specs.declared.Outcome.{Outcome}
use Rattle.meaning.specs.declared.Outcome.TheVariants.{Satisfied, Violated, Open}
use Rattle.meaning.specs.Sizes.{unknown_value}
use Rattle.meaning.specs.declared.kinds.Test.{Test}
use Rattle.meaning.specs.declared.kinds.Test.TheVariants.{Untested as UNTESTED, Equals as EQUALS, Differs as DIFFERS, AtLeast as AT-LEAST, Below as BELOW}
use Rattle.meaning.specs.Kinds.{test_of, value}

-- What conditions are judged by: the estimate, each clock's started flag and start, and the cycle's time
pub record Situation : Type 0 where
  pub estimate : List ℕ
  pub started : List ℕ
  pub starts : List ℕ
  pub time : ℕ

abbrev pub estimate_of : Situation → ℕ → ℕ
estimate_of sit v = get_or sit.estimate v 0

abbrev pub is_known : Situation → ℕ → Bool
is_known sit v = not (eqb (estimate_of sit v) unknown_value)

abbrev pub is_started : Situation → ℕ → Bool
is_started sit c = not (eqb (get_or sit.started c 0) 0)

-- "A started clock reads the cycle's time minus its start"
abbrev pub reading : Situation → ℕ → ℕ
reading sit c = sit.time - get_or sit.starts c 0

abbrev pub decided : Bool → Outcome
decided true = Satisfied
decided false = Violated

-- "A condition over an unstarted clock is not satisfied. It is violated when its opposite is satisfied, so over an unstarted clock it is neither";
-- "Testing a condition answers one of three: satisfied, violated, or open. Over an unknown variable it is open, as it already is over an unstarted
-- clock" (document 02, R-4): what it answers where the variable or clock can be tested or cannot, and the test came out as b
abbrev pub open_unless : Bool → Bool → Outcome
open_unless testable b = cond testable (decided b) Open

abbrev pub tested : Situation → Test → ℕ → ℕ → Outcome
tested sit UNTESTED i n = Open
tested sit EQUALS i n = open_unless (is_known sit i) (eqb (estimate_of sit i) n)
tested sit DIFFERS i n = open_unless (is_known sit i) (not (eqb (estimate_of sit i) n))
tested sit AT-LEAST i n = open_unless (is_started sit i) (leb n (reading sit i))
tested sit BELOW i n = open_unless (is_started sit i) (ltb (reading sit i) n)

unfoldable pub outcome : Situation → Operand → Outcome
outcome sit o = tested sit (test_of o.b0) o.b1 (value o)

abbrev pub is_satisfied : Outcome → Bool
is_satisfied Satisfied = true
is_satisfied Violated = false
is_satisfied Open = false

abbrev pub is_violated : Outcome → Bool
is_violated Satisfied = false
is_violated Violated = true
is_violated Open = false

-- "A marked GOAL ends when its variable has its value", and "a GOAL on an unknown variable is not reached" (document 02, R-4)
unfoldable pub reached : Situation → Operand → Bool
reached sit o = is_known sit o.b1 && eqb (estimate_of sit o.b1) (value o)

unfoldable pub satisfied : Situation → Operand → Bool
satisfied sit o = is_satisfied (outcome sit o)

unfoldable pub violated : Situation → Operand → Bool
violated sit o = is_violated (outcome sit o)
