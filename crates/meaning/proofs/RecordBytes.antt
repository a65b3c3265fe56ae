-- Every byte that a call writes, and those that it does not touch: a whole run record, goal buffers, a table and a file; which variable an offer
-- names; and which records are allowed, each bound from both sides.
use Prim.Native.Nat.{ℕ}
use mathlib.Core.Path.{refl}
use mathlib.Core.Bool.{Bool, true, false, ◌&&◌}
use mathlib.Core.List.{List, [], ◌∷◌, ◌++◌}
use lib.ListN.{take, replicate}
use lib.Seq.{sets}
use Rattle.meaning.specs.declared.Form.TheVariants.{File}
use Rattle.meaning.specs.Program.{parts}
use Rattle.meaning.specs.Record.{padded, record_bytes, root_allowed, parts_allowed}
use Rattle.meaning.specs.Table.{compiled, compiled_into, decompiled_into}
use Rattle.meaning.specs.Cycle.{lowest_contested, fresh_record, begun_into, offered_name, offered_into, goals_into, settled_into}
use Rattle.meaning.proofs.Computed.{◌gets◌, Holds, file, decompile, allowed, offer, settle}

-- PAR(START 1, GOAL 0=250), for 2 variables and 2 clocks
abbrev pair_file : List ℕ
pair_file =
    3 ∷ 2 ∷ 2
    ∷ 5 ∷ 2 ∷ 1
    ∷ 2 ∷ 0 ∷ 0 ∷ 0
    ∷ 0 ∷ 1 ∷ 0 ∷ 0
    ∷ 0 ∷ 0 ∷ 250 ∷ 0
    ∷ []

abbrev pair_table : List ℕ
pair_table =
    3 ∷ 2 ∷ 2
    ∷ 5 ∷ 3 ∷ 255 ∷ 255 ∷ 2 ∷ 0 ∷ 0 ∷ 0
    ∷ 2 ∷ 2 ∷ 0 ∷ 255 ∷ 0 ∷ 1 ∷ 0 ∷ 0
    ∷ 1 ∷ 3 ∷ 0 ∷ 255 ∷ 0 ∷ 0 ∷ 250 ∷ 0
    ∷ []

-- PAR(SEQ(GOAL, GOAL), MAINTAIN(GOAL), CHOICE(GOAL, GOAL), REPEAT(SEQ(GOAL))), for one variable and no clock: each GOAL is 0=0, and each
-- condition that variable 0 equals 0
abbrev every_file : List ℕ
every_file = file ((5, 4) ∷ (4, 2) ∷ (1, 0) ∷ (1, 0) ∷ (6, 1) ∷ (1, 0) ∷ (7, 1) ∷ (1, 0) ∷ (1, 0) ∷ (8, 0) ∷ (4, 1) ∷ (1, 0) ∷ [])

abbrev every_table : List ℕ
every_table =
    12 ∷ 1 ∷ 0
    ∷ 5 ∷ 12 ∷ 255 ∷ 255 ∷ 4 ∷ 0 ∷ 0 ∷ 0
    ∷ 4 ∷ 4 ∷ 0 ∷ 255 ∷ 2 ∷ 0 ∷ 0 ∷ 0
    ∷ 1 ∷ 3 ∷ 1 ∷ 3 ∷ 0 ∷ 0 ∷ 0 ∷ 0
    ∷ 1 ∷ 4 ∷ 1 ∷ 255 ∷ 0 ∷ 0 ∷ 0 ∷ 0
    ∷ 6 ∷ 6 ∷ 0 ∷ 255 ∷ 1 ∷ 0 ∷ 0 ∷ 0
    ∷ 1 ∷ 6 ∷ 4 ∷ 255 ∷ 0 ∷ 0 ∷ 0 ∷ 0
    ∷ 7 ∷ 9 ∷ 0 ∷ 255 ∷ 1 ∷ 0 ∷ 0 ∷ 0
    ∷ 1 ∷ 8 ∷ 6 ∷ 255 ∷ 0 ∷ 0 ∷ 0 ∷ 0
    ∷ 1 ∷ 9 ∷ 6 ∷ 255 ∷ 0 ∷ 0 ∷ 0 ∷ 0
    ∷ 8 ∷ 12 ∷ 0 ∷ 255 ∷ 0 ∷ 0 ∷ 0 ∷ 0
    ∷ 4 ∷ 12 ∷ 9 ∷ 10 ∷ 1 ∷ 0 ∷ 0 ∷ 0
    ∷ 1 ∷ 12 ∷ 10 ∷ 255 ∷ 0 ∷ 0 ∷ 0 ∷ 0
    ∷ []

-- a buffer: n bytes that a call is to write, and two further ones
abbrev further : List ℕ
further = 7 ∷ 8 ∷ []

abbrev buffer : ℕ → List ℕ
buffer n = replicate n 9 ++ further

-- "an output buffer's further bytes are untouched"; a refused call changes nothing
pub program_buffers : Holds
    (compiled_into pair_file (buffer 27) gets (pair_table ++ further)
    ∷ compiled_into every_file (buffer 99) gets (every_table ++ further)
    ∷ decompiled_into pair_table (buffer 18) gets (pair_file ++ further)
    ∷ decompiled_into every_table (buffer 63) gets (every_file ++ further)
    ∷ compiled_into pair_file (replicate 26 9) gets replicate 26 9  -- 8
    ∷ decompiled_into pair_table (replicate 17 9) gets replicate 17 9  -- 8
    ∷ [])
unfolding decompile
program_buffers = refl

-- "Phase; last time, 4; estimate, 32; clock started, 16; clock start times, 16 times 4; marks, 200": the record of a run of the first program that
-- has begun, with some estimate; after an offer at a time whose four bytes differ, with some flags and starts; and after a settling, which leaves
-- the GOAL at work
abbrev begun_with : List ℕ → List ℕ
begun_with est =
    0
    ∷ 0 ∷ 0 ∷ 0 ∷ 0
    ∷ (est ++ replicate 30 0)
    ++ (0 ∷ 0 ∷ replicate 14 0)
    ++ (0 ∷ 0 ∷ 0 ∷ 0 ∷ 0 ∷ 0 ∷ 0 ∷ 0 ∷ replicate 56 0)
    ++ (1 ∷ 1 ∷ 1 ∷ replicate 197 0)
    ++ further

abbrev begun : List ℕ
begun = begun_with (3 ∷ 4 ∷ [])

abbrev offered_with : List ℕ → List ℕ → List ℕ
offered_with flags starts =
    1
    ∷ 0x01 ∷ 0x02 ∷ 0x03 ∷ 0x04
    ∷ 3 ∷ 4 ∷ replicate 30 0
    ++ (flags ++ replicate 14 0)
    ++ (starts ++ replicate 56 0)
    ++ (1 ∷ 1 ∷ 1 ∷ replicate 197 0)
    ++ further

abbrev offered : List ℕ
offered = offered_with (0 ∷ 0 ∷ []) (replicate 8 0)

abbrev settled_with : List ℕ → List ℕ → List ℕ → List ℕ
settled_with est flags starts =
    0
    ∷ 0x01 ∷ 0x02 ∷ 0x03 ∷ 0x04
    ∷ (est ++ replicate 30 0)
    ++ (flags ++ replicate 14 0)
    ++ (starts ++ replicate 56 0)
    ++ (1 ∷ 0 ∷ 1 ∷ replicate 197 0)
    ++ further

-- "A longer buffer's further bytes are untouched"; a refused call changes nothing. "every marked START sets its clock to the cycle's time" (document
-- 02, R-2): clock 1, started before or not, and not clock 0. "Records may hold 255 in the estimate" (document 02, R-4): it is stored as it came
pub record_bytes_lem : Holds
    (begun_into pair_table (3 ∷ 4 ∷ []) (buffer 317) gets begun
    ∷ offered_into pair_table begun 0x04030201 2 gets offered
    ∷ settled_into pair_table offered (5 ∷ 250 ∷ []) gets settled_with (5 ∷ 250 ∷ []) (0 ∷ 1 ∷ []) (0 ∷ 0 ∷ 0 ∷ 0 ∷ 0x01 ∷ 0x02 ∷ 0x03 ∷ 0x04 ∷ [])
    ∷ settled_into pair_table (offered_with (1 ∷ 1 ∷ []) (5 ∷ 6 ∷ 7 ∷ 0 ∷ 8 ∷ 9 ∷ 10 ∷ 0 ∷ [])) (5 ∷ 250 ∷ []) gets settled_with (5 ∷ 250 ∷ []) (1 ∷ 1 ∷ []) (5 ∷ 6 ∷ 7 ∷ 0 ∷ 0x01 ∷ 0x02 ∷ 0x03 ∷ 0x04 ∷ [])
    ∷ begun_into pair_table (255 ∷ 4 ∷ []) (buffer 317) gets begun_with (255 ∷ 4 ∷ [])
    ∷ settled_into pair_table offered (255 ∷ 255 ∷ []) gets settled_with (255 ∷ 255 ∷ []) (0 ∷ 1 ∷ []) (0 ∷ 0 ∷ 0 ∷ 0 ∷ 0x01 ∷ 0x02 ∷ 0x03 ∷ 0x04 ∷ [])
    ∷ begun_into pair_table (3 ∷ 251 ∷ []) (buffer 317) gets buffer 317  -- 13
    ∷ settled_into pair_table offered (254 ∷ 255 ∷ []) gets offered  -- 13
    ∷ offered_into pair_table offered 0x04030201 2 gets offered  -- 11
    ∷ offered_into pair_table begun 0x04030201 1 gets begun  -- 8
    ∷ settled_into pair_table begun (5 ∷ 250 ∷ []) gets begun  -- 11
    ∷ [])
unfolding settle
record_bytes_lem = refl

-- PAR(GOAL 0=1, GOAL 0=2, GOAL 0=1, GOAL 1=7, GOAL 1=7, GOAL 2=1, GOAL 2=1, GOAL 2=2, GOAL 3=0), for 5 variables
abbrev merging : List ℕ
merging =
    10 ∷ 5 ∷ 0
    ∷ 5 ∷ 1 ∷ 1 ∷ 1 ∷ 1 ∷ 1 ∷ 1 ∷ 1 ∷ 1 ∷ 1
    ∷ 9 ∷ 0 ∷ 0 ∷ 0
    ∷ 0 ∷ 0 ∷ 1 ∷ 0
    ∷ 0 ∷ 0 ∷ 2 ∷ 0
    ∷ 0 ∷ 0 ∷ 1 ∷ 0
    ∷ 0 ∷ 1 ∷ 7 ∷ 0
    ∷ 0 ∷ 1 ∷ 7 ∷ 0
    ∷ 0 ∷ 2 ∷ 1 ∷ 0
    ∷ 0 ∷ 2 ∷ 1 ∷ 0
    ∷ 0 ∷ 2 ∷ 2 ∷ 0
    ∷ 0 ∷ 3 ∷ 0 ∷ 0
    ∷ []

-- "each is 255 where no marked GOAL names that variable, the value where all agree, 254 where two differ"; "Further goal bytes are
-- untouched"; a refused call changes nothing
pub goal_buffers : Holds
    (goals_into pair_table begun 0 (buffer 2) gets (250 ∷ 255 ∷ further)
    ∷ goals_into (compiled File merging) (fresh_record (compiled File merging) (replicate 5 0)) 0 (buffer 5) gets (254 ∷ 7 ∷ 254 ∷ 0 ∷ 255 ∷ further)
    ∷ goals_into pair_table begun 0 (9 ∷ []) gets (9 ∷ [])  -- 8
    ∷ [])
unfolding offer
goal_buffers = refl

-- "The offer now names the lowest-numbered contested variable" (document 02, R-1), "or 255 exactly where none is contested": by goal bytes; and
-- by an offer of the program above as it begins, and where its parts 1 to 3 have ended
abbrev merges : ℕ → List ℕ
merges m = record_bytes 0 0 (replicate 5 0) [] [] (1 ∷ m ∷ m ∷ m ∷ replicate 6 1)

pub offer_names : Holds
    (lowest_contested 0 [] gets 255
    ∷ lowest_contested 0 (254 ∷ []) gets 0
    ∷ lowest_contested 0 (255 ∷ 0 ∷ 250 ∷ []) gets 255
    ∷ lowest_contested 0 (1 ∷ 255 ∷ 254 ∷ 254 ∷ 2 ∷ []) gets 2
    ∷ lowest_contested 0 (replicate 32 254) gets 0
    ∷ lowest_contested 0 (replicate 31 255 ++ (254 ∷ [])) gets 31
    ∷ offered_name (compiled File merging) (merges 1) 0 gets 0
    ∷ offered_name (compiled File merging) (merges 0) 0 gets 2
    ∷ offered_name pair_table begun 0 gets 255
    ∷ [])
unfolding offer
offer_names = refl

-- Whether a record of the first program is allowed, at the last time 10: by its estimate, by its clocks' flags and starts, by its phase and marks
abbrev estimated : List ℕ → Bool
estimated est = allowed pair_table (record_bytes 0 10 est (0 ∷ 0 ∷ []) (0 ∷ 0 ∷ []) (1 ∷ 1 ∷ 1 ∷ []))

abbrev clocked : List ℕ → List ℕ → Bool
clocked flags starts = allowed pair_table (record_bytes 0 10 (0 ∷ 0 ∷ []) flags starts (1 ∷ 1 ∷ 1 ∷ []))

abbrev phased : ℕ → List ℕ → Bool
phased phase marks = allowed pair_table (record_bytes phase 10 (0 ∷ 0 ∷ []) (0 ∷ 0 ∷ []) (0 ∷ 0 ∷ []) marks)

-- "phase, started flags and marks hold only the values just named; entries beyond V, K and N are 0; estimate values are at most 250; an unstarted
-- clock's time is 0 and a started one's not after the last time"; "or under 317 bytes"; "Records may hold 255 in the estimate" (document 02, R-4), but
-- not beyond V
pub allowed_fields : Holds
    (estimated (250 ∷ 250 ∷ []) gets true
    ∷ estimated (251 ∷ 0 ∷ []) gets false
    ∷ estimated (0 ∷ 251 ∷ []) gets false
    ∷ estimated (255 ∷ 255 ∷ []) gets true
    ∷ estimated (254 ∷ 255 ∷ []) gets false
    ∷ estimated (255 ∷ 254 ∷ []) gets false
    ∷ estimated (0 ∷ 0 ∷ 255 ∷ []) gets false
    ∷ estimated (replicate 31 0 ++ (255 ∷ [])) gets false
    ∷ estimated (0 ∷ 0 ∷ 1 ∷ []) gets false
    ∷ estimated (replicate 31 0 ++ (1 ∷ [])) gets false
    ∷ clocked (0 ∷ 0 ∷ []) (0 ∷ 0 ∷ []) gets true
    ∷ clocked (0 ∷ 0 ∷ []) (0 ∷ 1 ∷ []) gets false
    ∷ clocked (1 ∷ 1 ∷ []) (0 ∷ 10 ∷ []) gets true
    ∷ clocked (1 ∷ 1 ∷ []) (0 ∷ 11 ∷ []) gets false
    ∷ clocked (1 ∷ 2 ∷ []) (0 ∷ 0 ∷ []) gets false
    ∷ clocked (0 ∷ 0 ∷ 1 ∷ []) [] gets false
    ∷ clocked (replicate 15 0 ++ (1 ∷ [])) [] gets false
    ∷ clocked [] (0 ∷ 0 ∷ 1 ∷ []) gets false
    ∷ clocked [] (replicate 15 0 ++ (0x01000000 ∷ [])) gets false
    ∷ phased 0 (1 ∷ 1 ∷ 1 ∷ []) gets true
    ∷ phased 1 (1 ∷ 1 ∷ 1 ∷ []) gets true
    ∷ phased 2 [] gets true
    ∷ phased 3 [] gets false
    ∷ phased 3 (1 ∷ 1 ∷ 1 ∷ []) gets false
    ∷ phased 0 (1 ∷ 1 ∷ 2 ∷ []) gets false
    ∷ phased 0 (1 ∷ 1 ∷ 1 ∷ 1 ∷ []) gets false
    ∷ phased 0 (1 ∷ 1 ∷ 1 ∷ replicate 196 0 ++ (1 ∷ [])) gets false
    ∷ allowed pair_table begun gets true
    ∷ allowed pair_table (take 317 begun) gets true
    ∷ allowed pair_table (take 316 begun) gets false
    ∷ [])
unfolding allowed
allowed_fields = refl

-- Whether marks of the second program are allowed: that of the root and those of the parts inside it; as these are when it begins, and with other marks
-- for one child and for what is inside that
abbrev marked : ℕ → ℕ → List ℕ → Bool
marked phase root inside =
    let marks = padded (parts every_table) (root ∷ inside) in
    root_allowed phase marks && parts_allowed every_table phase 0 marks

abbrev fresh : List ℕ
fresh = 1 ∷ 1 ∷ 0 ∷ 1 ∷ 1 ∷ 1 ∷ 0 ∷ 0 ∷ 1 ∷ 1 ∷ 1 ∷ []

abbrev seq : List ℕ → Bool
seq marks = marked 0 1 (sets fresh 0 marks)

abbrev maintain : ℕ → List ℕ → Bool
maintain phase marks = marked phase 1 (sets fresh 3 marks)

abbrev choice : List ℕ → Bool
choice marks = marked 0 1 (sets fresh 5 marks)

abbrev repeat : List ℕ → Bool
repeat marks = marked 0 1 (sets fresh 8 marks)

-- "in phase 2 no mark is set, otherwise the root is marked; nothing is marked inside an unmarked part; a marked SEQ or REPEAT has exactly one marked
-- child, PAR at least one, CHOICE at most one; MAINTAIN's child is marked, or in phase 1 may be unmarked"
pub allowed_marks : Holds
    (marked 0 1 fresh gets true
    ∷ marked 1 1 fresh gets true
    ∷ marked 2 1 fresh gets false
    ∷ marked 2 0 [] gets true
    ∷ marked 0 0 [] gets false
    ∷ marked 1 0 [] gets false
    ∷ marked 0 0 fresh gets false
    ∷ marked 0 1 [] gets false
    ∷ marked 0 1 (1 ∷ 1 ∷ 0 ∷ []) gets true
    ∷ seq (0 ∷ 0 ∷ 0 ∷ []) gets true
    ∷ seq (0 ∷ 0 ∷ 1 ∷ []) gets false
    ∷ seq (1 ∷ 0 ∷ 0 ∷ []) gets false
    ∷ seq (1 ∷ 0 ∷ 1 ∷ []) gets true
    ∷ seq (1 ∷ 1 ∷ 1 ∷ []) gets false
    ∷ maintain 0 (1 ∷ 0 ∷ []) gets false
    ∷ maintain 1 (1 ∷ 0 ∷ []) gets true
    ∷ maintain 1 (0 ∷ 1 ∷ []) gets false
    ∷ choice (1 ∷ 1 ∷ 0 ∷ []) gets true
    ∷ choice (1 ∷ 0 ∷ 1 ∷ []) gets true
    ∷ choice (1 ∷ 1 ∷ 1 ∷ []) gets false
    ∷ repeat (1 ∷ 0 ∷ 0 ∷ []) gets false
    ∷ repeat (1 ∷ 1 ∷ 0 ∷ []) gets false
    ∷ repeat (1 ∷ 0 ∷ 1 ∷ []) gets false
    ∷ [])
unfolding allowed
allowed_marks = refl

-- and of whole records of that program, in which phase and marks come from the bytes: as it begins, with MAINTAIN's child unmarked, with no mark, and
-- finished with marks
abbrev held : ℕ → ℕ → List ℕ → Bool
held phase root inside = allowed every_table (record_bytes phase 0 (0 ∷ []) [] [] (root ∷ inside))

pub allowed_records : Holds
    (held 0 1 fresh gets true
    ∷ held 0 1 (sets fresh 3 (1 ∷ 0 ∷ [])) gets false
    ∷ held 1 1 (sets fresh 3 (1 ∷ 0 ∷ [])) gets true
    ∷ held 0 0 [] gets false
    ∷ held 2 1 fresh gets false
    ∷ [])
unfolding allowed
allowed_records = refl
