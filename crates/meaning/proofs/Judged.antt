-- Conditions and clocks at their bounds: the last number that satisfies a test, and the first that violates it.
use Prim.Native.Nat.{ℕ}
use mathlib.Core.Path.{refl}
use mathlib.Core.Bool.{true, false}
use mathlib.Core.List.{[], ◌∷◌}
use Rattle.meaning.specs.declared.Operand.{Operand}
use Rattle.meaning.specs.declared.Outcome.{Outcome}
use Rattle.meaning.specs.declared.Outcome.TheVariants.{Satisfied, Violated, Open}
use Rattle.meaning.specs.Kinds.{test_of}
use Rattle.meaning.specs.Conditions.{Situation, outcome, reached}
use Rattle.meaning.proofs.Computed.{◌gets◌, Holds}

-- Variables that have 0, 1 and 250, and one that is unknown; clocks of which the first is started at 0, the second at 70,000 and the third not
abbrev at : ℕ → Situation
at time = record { estimate = 0 ∷ 1 ∷ 250 ∷ 255 ∷ []; started = 1 ∷ 1 ∷ 0 ∷ []; starts = 0 ∷ 70_000 ∷ 0 ∷ []; time = time }

abbrev operand : ℕ → ℕ → ℕ → ℕ → Operand
operand b0 b1 b2 b3 = record { b0 = b0; b1 = b1; b2 = b2; b3 = b3 }

-- a condition over a variable, of which the time says nothing
abbrev variable : ℕ → ℕ → ℕ → ℕ → Outcome
variable b0 b1 b2 b3 = outcome (at 0) (operand b0 b1 b2 b3)

-- "1 (variable equals value), 2 (differs)", "b2–b3 as one 16-bit value"
pub variable_tests : Holds
    (variable 1 0 0 0 gets Satisfied ∷ variable 2 0 0 0 gets Violated
    ∷ variable 1 0 1 0 gets Violated ∷ variable 2 0 1 0 gets Satisfied
    ∷ variable 1 0 0 1 gets Violated ∷ variable 2 0 0 1 gets Satisfied  -- 256, not 0
    ∷ variable 1 1 1 0 gets Satisfied ∷ variable 2 1 1 0 gets Violated
    ∷ variable 1 1 0 1 gets Violated ∷ variable 2 1 0 1 gets Satisfied  -- 256, not 1
    ∷ variable 1 1 1 1 gets Violated ∷ variable 2 1 1 1 gets Satisfied  -- 257, not 1
    ∷ variable 1 2 249 0 gets Violated ∷ variable 2 2 249 0 gets Satisfied
    ∷ variable 1 2 250 0 gets Satisfied ∷ variable 2 2 250 0 gets Violated
    ∷ [])
unfolding test_of outcome
variable_tests = refl

-- "Over an unknown variable it is open" (document 02, R-4), whatever the value: 255 as well, which no condition over a variable names
pub unknown_tests : (b2 b3 : ℕ) → Holds (variable 1 3 b2 b3 gets Open ∷ variable 2 3 b2 b3 gets Open ∷ [])
unfolding test_of outcome
unknown_tests b2 b3 = refl

-- "A marked GOAL ends when its variable has its value"; "a GOAL on an unknown variable is not reached" (document 02, R-4)
pub goal_tests : Holds
    (reached (at 0) (operand 0 0 0 0) gets true
    ∷ reached (at 0) (operand 0 0 1 0) gets false
    ∷ reached (at 0) (operand 0 0 0 1) gets false
    ∷ reached (at 0) (operand 0 2 250 0) gets true
    ∷ reached (at 0) (operand 0 2 249 0) gets false
    ∷ reached (at 0) (operand 0 3 250 0) gets false
    ∷ reached (at 0) (operand 0 3 255 0) gets false
    ∷ [])
unfolding reached
goal_tests = refl

-- conditions over a clock at a time: "3 (clock reads at least value) or 4 (reads below value)"
abbrev at_least : ℕ → ℕ → ℕ → ℕ → Outcome
at_least time clock b2 b3 = outcome (at time) (operand 3 clock b2 b3)

abbrev below : ℕ → ℕ → ℕ → ℕ → Outcome
below time clock b2 b3 = outcome (at time) (operand 4 clock b2 b3)

-- "A started clock reads the cycle's time minus its start", and its test is "violated when its opposite is satisfied"
pub clock_tests : Holds
    (at_least 0 0 0 0 gets Satisfied ∷ below 0 0 0 0 gets Violated  -- 0 against 0
    ∷ at_least 0 0 1 0 gets Violated ∷ below 0 0 1 0 gets Satisfied  -- 0 against 1
    ∷ at_least 255 0 0 1 gets Violated ∷ below 255 0 0 1 gets Satisfied  -- 255 against 256
    ∷ at_least 256 0 0 1 gets Satisfied ∷ below 256 0 0 1 gets Violated  -- 256 against 256
    ∷ at_least 256 0 1 1 gets Violated ∷ below 256 0 1 1 gets Satisfied  -- 256 against 257
    ∷ at_least 65_534 0 0xFF 0xFF gets Violated ∷ below 65_534 0 0xFF 0xFF gets Satisfied  -- 65,534 against 65,535
    ∷ at_least 65_535 0 0xFF 0xFF gets Satisfied ∷ below 65_535 0 0xFF 0xFF gets Violated  -- 65,535 against 65,535
    ∷ at_least 65_536 0 0xFF 0xFF gets Satisfied ∷ below 65_536 0 0xFF 0xFF gets Violated  -- 65,536 against 65,535
    ∷ at_least 65_541 0 6 0 gets Satisfied ∷ below 65_541 0 6 0 gets Violated  -- 65,541 against 6
    ∷ at_least 0x01000005 0 6 0 gets Satisfied ∷ below 0x01000005 0 6 0 gets Violated  -- 2^24 + 5 against 6
    ∷ at_least 0xFFFFFFFF 0 0xFF 0xFF gets Satisfied ∷ below 0xFFFFFFFF 0 0xFF 0xFF gets Violated  -- the latest time
    ∷ at_least 70_000 1 0 0 gets Satisfied ∷ below 70_000 1 0 0 gets Violated  -- 0 against 0
    ∷ at_least 70_000 1 1 0 gets Violated ∷ below 70_000 1 1 0 gets Satisfied  -- 0 against 1
    ∷ at_least 70_005 1 6 0 gets Violated ∷ below 70_005 1 6 0 gets Satisfied  -- 5 against 6
    ∷ at_least 70_006 1 6 0 gets Satisfied ∷ below 70_006 1 6 0 gets Violated  -- 6 against 6
    ∷ at_least 135_534 1 0xFF 0xFF gets Violated ∷ below 135_534 1 0xFF 0xFF gets Satisfied  -- 65,534 against 65,535
    ∷ at_least 135_541 1 6 0 gets Satisfied ∷ below 135_541 1 6 0 gets Violated  -- 65,541 against 6
    ∷ [])
unfolding test_of outcome
clock_tests = refl

-- "over an unstarted clock it is neither", whatever the time and the value
pub unstarted_tests : (time b2 b3 : ℕ) → Holds (at_least time 2 b2 b3 gets Open ∷ below time 2 b2 b3 gets Open ∷ [])
unfolding test_of outcome
unstarted_tests time b2 b3 = refl
