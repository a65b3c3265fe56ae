-- What is marked, by part number, in a list of marks.
use Rattle.std.specs.Prelude.{ℕ, ◌≤◌, ◌<◌, ◌≡◌, Bool, true, ◌⊎◌, List, length, get_or}
use Rattle.meaning.specs.declared.Entry.{Entry}
use Rattle.meaning.specs.declared.Form.TheVariants.{Table}
use Rattle.meaning.specs.declared.kinds.Kind.TheVariants.{Goal as GOAL, Start as START, Choice as CHOICE}
use Rattle.meaning.specs.Kinds.{value}
use Rattle.meaning.specs.Program.{entry_at}
use Rattle.meaning.specs.Table.{kind_at, operand_of, Inside}
use Rattle.meaning.specs.Record.{started_in, is_mark}
use Rattle.meaning.specs.Cycle.{is_kind}
use Rattle.meaning.specs.Answers.{no_variable}

-- part p is marked
abbrev pub Marked : List ℕ → ℕ → Type 0
Marked ms p = is_mark (get_or ms p 0) ≡ true

-- clock c is started
abbrev pub Started : List ℕ → List ℕ → ℕ → Type 0
Started t r c = Marked (started_in t r) c

-- "bytes of 0 or 1"
abbrev pub Flags : List ℕ → Type 0
Flags ms = (p : ℕ) → get_or ms p 0 ≤ 1

-- "a marked CHOICE with nothing marked inside is deciding"
abbrev pub Deciding : List ℕ → List ℕ → ℕ → Type 0
Deciding t ms p = Marked ms p × (kind_at t p ≡ CHOICE) × ((q : ℕ) → Inside t p q → Marked ms q → ⊥)

-- part p is marked, and its entry passes a test
abbrev pub MarkedAt : (Entry → Bool) → List ℕ → List ℕ → ℕ → Type 0
MarkedAt f t ms p = (p < length ms) × Marked ms p × (f (entry_at Table t p) ≡ true)

-- part p is a marked GOAL that names variable v
abbrev pub GoalAt : List ℕ → List ℕ → ℕ → ℕ → Type 0
GoalAt t ms v p = (p < length ms) × Marked ms p × (is_kind GOAL (entry_at Table t p) ≡ true) × ((operand_of t p).b1 ≡ v)

-- "where no marked GOAL names that variable", "where all agree" on value x, "where two differ"
abbrev pub NoGoalAt : List ℕ → List ℕ → ℕ → Type 0
NoGoalAt t ms v = (p : ℕ) → GoalAt t ms v p → ⊥

abbrev pub GoalsAgree : List ℕ → List ℕ → ℕ → ℕ → Type 0
GoalsAgree t ms v x = ((p : ℕ) × GoalAt t ms v p) × ((p : ℕ) → GoalAt t ms v p → value (operand_of t p) ≡ x)

abbrev pub GoalsDiffer : List ℕ → List ℕ → ℕ → Type 0
GoalsDiffer t ms v = (p : ℕ) × (q : ℕ) × GoalAt t ms v p × GoalAt t ms v q × (value (operand_of t p) ≡ value (operand_of t q) → ⊥)

-- "names the lowest-numbered contested variable" (document 02, R-1), "or 255 exactly where none is contested": of n variables, x is contested and none
-- below it is, or x is 255 and none is contested
abbrev pub NamesLowest : (ℕ → Type 0) → ℕ → ℕ → Type 0
NamesLowest Contested n x = ((x < n) × Contested x × ((v : ℕ) → v < x → Contested v → ⊥)) ⊎ ((x ≡ no_variable) × ((v : ℕ) → v < n → Contested v → ⊥))

-- part p is a marked START of clock c
abbrev pub StartAt : List ℕ → List ℕ → ℕ → ℕ → Type 0
StartAt t ms c p = (p < length ms) × Marked ms p × (is_kind START (entry_at Table t p) ≡ true) × ((operand_of t p).b1 ≡ c)
