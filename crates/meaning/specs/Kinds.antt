-- Kinds of parts, their operands and their conditions, in the order of document 01's table.
use Rattle.std.specs.Prelude.{ℕ, ◌+◌, ◌*◌, Bool, true, false, not, ◌&&◌, List, [], ◌∷◌, eqb, leb, ltb, get_or}
use Rattle.meaning.specs.declared.Operand.{Operand}
use Rattle.meaning.specs.declared.kinds.Kind.{Kind}
use Rattle.meaning.specs.declared.kinds.Kind.TheVariants.{Unknown as UNKNOWN, Goal as GOAL, Start as START, Wait as WAIT, Seq as SEQ, Par as PAR, Maintain as MAINTAIN, Choice as CHOICE, Repeat as REPEAT}
use Rattle.meaning.specs.declared.kinds.Test.{Test}
use Rattle.meaning.specs.declared.kinds.Test.TheVariants.{Untested as UNTESTED, Equals as EQUALS, Differs as DIFFERS, AtLeast as AT-LEAST, Below as BELOW}
use Rattle.meaning.specs.Sizes.{byte_values, max_value}

-- A kind byte stands for a kind by its place in this list, and for none beyond it
abbrev pub kinds : List Kind
kinds = UNKNOWN ∷ GOAL ∷ START ∷ WAIT ∷ SEQ ∷ PAR ∷ MAINTAIN ∷ CHOICE ∷ REPEAT ∷ []

unfoldable pub kind_of : ℕ → Kind
kind_of b = get_or kinds b UNKNOWN

unfoldable pub number_of : Kind → ℕ
number_of UNKNOWN = 0
number_of GOAL = 1
number_of START = 2
number_of WAIT = 3
number_of SEQ = 4
number_of PAR = 5
number_of MAINTAIN = 6
number_of CHOICE = 7
number_of REPEAT = 8

unfoldable pub known : Kind → Bool
known UNKNOWN = false
known GOAL = true
known START = true
known WAIT = true
known SEQ = true
known PAR = true
known MAINTAIN = true
known CHOICE = true
known REPEAT = true

-- Of an operand's 4 bytes, b2 and b3 are one 16-bit value
abbrev pub value : Operand → ℕ
value o = o.b2 + byte_values * o.b3

-- "Children"
unfoldable pub arity : Kind → Operand → ℕ
arity UNKNOWN o = 0
arity GOAL o = 0
arity START o = 0
arity WAIT o = 0
arity SEQ o = o.b0
arity PAR o = o.b0
arity MAINTAIN o = 1
arity CHOICE o = 2
arity REPEAT o = 1

-- A condition is an operand: b0 says which test, b1 the variable or clock, and the value the number that it is tested against
abbrev pub tests : List Test
tests = UNTESTED ∷ EQUALS ∷ DIFFERS ∷ AT-LEAST ∷ BELOW ∷ []

unfoldable pub test_of : ℕ → Test
test_of b = get_or tests b UNTESTED

-- The number of a test: "1 (variable equals value), 2 (differs), 3 (clock reads at least value) or 4 (reads below value)"
unfoldable pub test_number : Test → ℕ
test_number UNTESTED = 0
test_number EQUALS = 1
test_number DIFFERS = 2
test_number AT-LEAST = 3
test_number BELOW = 4

-- "Variables are below V, clocks below K"; a value for tests 1 and 2 is at most 250, for tests 3 and 4 any
unfoldable pub test_allowed : ℕ → ℕ → Test → Operand → Bool
test_allowed v k UNTESTED o = false
test_allowed v k EQUALS o = ltb o.b1 v && leb (value o) max_value
test_allowed v k DIFFERS o = ltb o.b1 v && leb (value o) max_value
test_allowed v k AT-LEAST o = ltb o.b1 k
test_allowed v k BELOW o = ltb o.b1 k

unfoldable pub condition_allowed : ℕ → ℕ → Operand → Bool
condition_allowed v k o = test_allowed v k (test_of o.b0) o

-- "b0 = 0, b1 variable, value 0 to 250"
unfoldable pub goal_allowed : ℕ → Operand → Bool
goal_allowed v o = eqb o.b0 0 && (ltb o.b1 v && leb (value o) max_value)

-- "b1 clock, others 0"
unfoldable pub start_allowed : ℕ → Operand → Bool
start_allowed k o = eqb o.b0 0 && (ltb o.b1 k && eqb (value o) 0)

-- "b0, at least 1", "others 0"
unfoldable pub count_allowed : Operand → Bool
count_allowed o = not (eqb o.b0 0) && (eqb o.b1 0 && eqb (value o) 0)

-- "all 0"
unfoldable pub empty_allowed : Operand → Bool
empty_allowed o = eqb o.b0 0 && (eqb o.b1 0 && eqb (value o) 0)

unfoldable pub operand_allowed : ℕ → ℕ → Kind → Operand → Bool
operand_allowed v k UNKNOWN o = false
operand_allowed v k GOAL o = goal_allowed v o
operand_allowed v k START o = start_allowed k o
operand_allowed v k WAIT o = condition_allowed v k o
operand_allowed v k SEQ o = count_allowed o
operand_allowed v k PAR o = count_allowed o
operand_allowed v k MAINTAIN o = condition_allowed v k o
operand_allowed v k CHOICE o = condition_allowed v k o
operand_allowed v k REPEAT o = empty_allowed o
