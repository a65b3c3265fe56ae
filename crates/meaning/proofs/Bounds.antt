-- The kinds' table and the sizes of document 01, each bound from both sides: the last that is allowed, and the first that is refused.
use Prim.Native.Nat.{ℕ}
use mathlib.Core.Path.{refl}
use mathlib.Core.List.{List, [], ◌∷◌, ◌++◌}
use lib.ListN.{length, replicate}
use Rattle.meaning.proofs.Computed.{◌gets◌, Holds, file, read}

-- a file of one part, its operand all 0, for one variable and no clock
abbrev blank : ℕ → ℕ
blank kind = read (1 ∷ 1 ∷ 0 ∷ kind ∷ 0 ∷ 0 ∷ 0 ∷ 0 ∷ [])

-- "Kind": 1 to 8
pub kind_bytes : Holds
    (blank 0 gets 4
    ∷ blank 1 gets 0  -- GOAL 0=0
    ∷ blank 2 gets 5  -- START: there is no clock
    ∷ blank 3 gets 5  -- WAIT: there is no test 0
    ∷ blank 4 gets 5  -- SEQ and PAR: "A child count b0 of 0 gets 5"
    ∷ blank 5 gets 5
    ∷ blank 6 gets 5  -- MAINTAIN and CHOICE: there is no test 0
    ∷ blank 7 gets 5
    ∷ blank 8 gets 6  -- REPEAT: its child is missing
    ∷ blank 9 gets 4
    ∷ blank 255 gets 4
    ∷ [])
unfolding read
kind_bytes = refl

-- A file of one part, for 3 variables and 2 clocks: its kind and its operand. An operand that is allowed gets 0, and 6 where children are missing
abbrev alone : ℕ → ℕ → ℕ → ℕ → ℕ → ℕ
alone kind b0 b1 b2 b3 = read (1 ∷ 3 ∷ 2 ∷ kind ∷ b0 ∷ b1 ∷ b2 ∷ b3 ∷ [])

abbrev goal : ℕ → ℕ → ℕ → ℕ → ℕ
goal b0 b1 b2 b3 = alone 1 b0 b1 b2 b3

-- GOAL: "b0 = 0, b1 variable, value 0 to 250"
pub goal_operands : Holds
    (goal 0 0 0 0 gets 0
    ∷ goal 0 2 250 0 gets 0
    ∷ goal 1 0 0 0 gets 5
    ∷ goal 0 3 0 0 gets 5
    ∷ goal 0 0 251 0 gets 5
    ∷ goal 0 0 0 1 gets 5
    ∷ [])
unfolding read
goal_operands = refl

abbrev start : ℕ → ℕ → ℕ → ℕ → ℕ
start b0 b1 b2 b3 = alone 2 b0 b1 b2 b3

-- START: "b1 clock, others 0"
pub start_operands : Holds
    (start 0 0 0 0 gets 0
    ∷ start 0 1 0 0 gets 0
    ∷ start 1 0 0 0 gets 5
    ∷ start 0 2 0 0 gets 5
    ∷ start 0 0 1 0 gets 5
    ∷ start 0 0 0 1 gets 5
    ∷ [])
unfolding read
start_operands = refl

-- the rows of a kind with a condition, and what it gets where that is allowed
abbrev condition_rows : ℕ → ℕ → List (ℕ × ℕ)
condition_rows kind passed =
    alone kind 0 0 0 0 gets 5
    ∷ alone kind 1 0 0 0 gets passed
    ∷ alone kind 1 2 250 0 gets passed
    ∷ alone kind 1 3 0 0 gets 5
    ∷ alone kind 1 0 251 0 gets 5
    ∷ alone kind 1 0 0 1 gets 5
    ∷ alone kind 2 0 0 0 gets passed
    ∷ alone kind 2 2 250 0 gets passed
    ∷ alone kind 2 3 0 0 gets 5
    ∷ alone kind 2 0 251 0 gets 5
    ∷ alone kind 2 0 0 1 gets 5
    ∷ alone kind 3 0 0 0 gets passed
    ∷ alone kind 3 1 0xFF 0xFF gets passed
    ∷ alone kind 3 2 0 0 gets 5
    ∷ alone kind 4 0 0 0 gets passed
    ∷ alone kind 4 1 0xFF 0xFF gets passed
    ∷ alone kind 4 2 0 0 gets 5
    ∷ alone kind 5 0 0 0 gets 5
    ∷ alone kind 255 0 0 0 gets 5
    ∷ []

-- WAIT, MAINTAIN and CHOICE: "condition"; b0 is 1 to 4, "Variables are below V, clocks below K", "a value for tests 1 and 2 is at most 250, for
-- tests 3 and 4 any"
pub condition_operands : Holds (condition_rows 3 0 ++ (condition_rows 6 6 ++ condition_rows 7 6))
unfolding read
condition_operands = refl

abbrev count_rows : ℕ → List (ℕ × ℕ)
count_rows kind =
    alone kind 0 0 0 0 gets 5
    ∷ alone kind 1 0 0 0 gets 6
    ∷ alone kind 255 0 0 0 gets 6
    ∷ alone kind 1 1 0 0 gets 5
    ∷ alone kind 1 0 1 0 gets 5
    ∷ alone kind 1 0 0 1 gets 5
    ∷ []

-- SEQ and PAR: "b0, at least 1", "others 0"; a count of 255 is allowed, though no file has so many parts
pub count_operands : Holds (count_rows 4 ++ count_rows 5)
unfolding read
count_operands = refl

abbrev repeat : ℕ → ℕ → ℕ → ℕ → ℕ
repeat b0 b1 b2 b3 = alone 8 b0 b1 b2 b3

-- REPEAT: "all 0"
pub repeat_operands : Holds
    (repeat 0 0 0 0 gets 6
    ∷ repeat 1 0 0 0 gets 5
    ∷ repeat 0 1 0 0 gets 5
    ∷ repeat 0 0 1 0 gets 5
    ∷ repeat 0 0 0 1 gets 5
    ∷ [])
unfolding read
repeat_operands = refl

-- n GOALs 0=0
abbrev goals : ℕ → List (ℕ × ℕ)
goals n = replicate n (1, 0)

-- a part with n GOALs after it
abbrev above : ℕ → ℕ → ℕ → ℕ
above kind b0 n = read (file ((kind, b0) ∷ goals n))

-- "Children": one too few, as many as the kind takes, one too many
pub child_counts : Holds
    (above 1 0 0 gets 0 ∷ above 1 0 1 gets 6  -- GOAL
    ∷ above 3 1 0 gets 0 ∷ above 3 1 1 gets 6  -- WAIT
    ∷ read (2 ∷ 1 ∷ 1 ∷ 2 ∷ 1 ∷ 0 ∷ 0 ∷ 0 ∷ 0 ∷ 0 ∷ 0 ∷ 0 ∷ 0 ∷ []) gets 6  -- START, and a GOAL after it
    ∷ above 4 3 2 gets 6 ∷ above 4 3 3 gets 0 ∷ above 4 3 4 gets 6  -- SEQ
    ∷ above 5 3 2 gets 6 ∷ above 5 3 3 gets 0 ∷ above 5 3 4 gets 6  -- PAR
    ∷ above 6 2 0 gets 6 ∷ above 6 2 1 gets 0 ∷ above 6 2 2 gets 6  -- MAINTAIN
    ∷ above 7 2 1 gets 6 ∷ above 7 2 2 gets 0 ∷ above 7 2 3 gets 6  -- CHOICE
    ∷ above 8 0 0 gets 6 ∷ above 8 0 1 gets 0 ∷ above 8 0 2 gets 6  -- REPEAT
    ∷ [])
unfolding read
child_counts = refl

-- one GOAL for V variables and K clocks
abbrev sized : ℕ → ℕ → ℕ
sized v k = read (1 ∷ v ∷ k ∷ 1 ∷ 0 ∷ 0 ∷ 0 ∷ 0 ∷ [])

-- "N parts (1 to 200), V variables (1 to 32), K clocks (0 to 16)"; "Length 3 + 5 × N, at most 1003"
pub file_sizes : Holds
    (read (file (goals 0)) gets 2
    ∷ read (file ((5, 199) ∷ goals 199)) gets 0
    ∷ read (file ((5, 200) ∷ goals 200)) gets 2
    ∷ length (file ((5, 199) ∷ goals 199)) gets 1003
    ∷ sized 0 0 gets 2
    ∷ sized 1 0 gets 0
    ∷ sized 32 0 gets 0
    ∷ sized 33 0 gets 2
    ∷ sized 1 16 gets 0
    ∷ sized 1 17 gets 2
    ∷ read (1 ∷ 1 ∷ []) gets 1
    ∷ read (1 ∷ 1 ∷ 0 ∷ []) gets 3
    ∷ read (1 ∷ 1 ∷ 0 ∷ 1 ∷ 0 ∷ 0 ∷ 0 ∷ []) gets 3
    ∷ read (1 ∷ 1 ∷ 0 ∷ 1 ∷ 0 ∷ 0 ∷ 0 ∷ 0 ∷ []) gets 0
    ∷ read (1 ∷ 1 ∷ 0 ∷ 1 ∷ 0 ∷ 0 ∷ 0 ∷ 0 ∷ 0 ∷ []) gets 3
    ∷ [])
unfolding read
file_sizes = refl

-- n parts of a kind, each in the one before, and as many GOALs as their children are
abbrev nested : ℕ → ℕ → ℕ → ℕ → ℕ
nested kind b0 n leaves = read (file (replicate n (kind, b0) ++ goals leaves))

-- "The root has depth 1; the deepest part allowed has depth 16": under parts of each kind, and under the first and the last child of a PAR
pub depths : Holds
    (nested 4 1 15 1 gets 0 ∷ nested 4 1 16 1 gets 7
    ∷ nested 5 1 15 1 gets 0 ∷ nested 5 1 16 1 gets 7
    ∷ nested 6 1 15 1 gets 0 ∷ nested 6 1 16 1 gets 7
    ∷ nested 7 1 15 16 gets 0 ∷ nested 7 1 16 17 gets 7
    ∷ nested 8 0 15 1 gets 0 ∷ nested 8 0 16 1 gets 7
    ∷ read (file ((5, 2) ∷ replicate 14 (8, 0) ++ goals 2)) gets 0 ∷ read (file ((5, 2) ∷ replicate 15 (8, 0) ++ goals 2)) gets 7
    ∷ read (file ((5, 2) ∷ (1, 0) ∷ replicate 14 (8, 0) ++ goals 1)) gets 0 ∷ read (file ((5, 2) ∷ (1, 0) ∷ replicate 15 (8, 0) ++ goals 1)) gets 7
    ∷ [])
unfolding read
depths = refl
