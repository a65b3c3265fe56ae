-- The orders of refusals: for each pair of neighbours a call with both faults, which gets the first of them.
use Prim.Native.Nat.{ℕ}
use mathlib.Core.Path.{refl}
use mathlib.Core.List.{List, [], ◌∷◌, ◌++◌}
use lib.ListN.{take, set, replicate}
use Rattle.meaning.specs.Record.{record_bytes}
use Rattle.meaning.proofs.Computed.{◌gets◌, Holds, file, goal_table, compile, decompile, begin, offer, settle}

-- "reading 1 to 7, each over all parts, then 8"; where there is no room, 8 is a further fault
pub compile_order : Holds
    (compile (0 ∷ 1 ∷ []) 0 gets 1  -- under 3 bytes, and N is 0
    ∷ compile (0 ∷ 1 ∷ 0 ∷ 9 ∷ []) 0 gets 2  -- N is 0, and the length is not 3
    ∷ compile (1 ∷ 1 ∷ 0 ∷ 9 ∷ []) 0 gets 3  -- the length is not 8, and a kind is unknown
    ∷ compile (file ((1, 1) ∷ (9, 0) ∷ [])) 0 gets 4  -- the operand of part 0 is not allowed, and the kind of part 1 is unknown
    ∷ compile (file ((1, 0) ∷ (1, 1) ∷ [])) 0 gets 5  -- there are two trees, and the operand of the second is not allowed
    ∷ compile (file (replicate 16 (8, 0) ++ ((1, 0) ∷ (1, 0) ∷ []))) 0 gets 6  -- there are two trees, and the first is too deep
    ∷ compile (file (replicate 16 (8, 0) ++ ((1, 0) ∷ []))) 0 gets 7  -- too deep, and no room
    ∷ compile (file ((1, 0) ∷ [])) 0 gets 8
    ∷ compile (file ((1, 0) ∷ [])) 10 gets 8
    ∷ compile (file ((1, 0) ∷ [])) 11 gets 0
    ∷ [])
unfolding compile
compile_order = refl

-- document 01's example of what is no table
abbrev no_table : List ℕ
no_table = 0x01 ∷ 0x01 ∷ 0x00 ∷ []

-- "Back to a file 9, 8"
pub decompile_order : Holds
    (decompile no_table 0 gets 9
    ∷ decompile goal_table 0 gets 8
    ∷ decompile goal_table 7 gets 8
    ∷ decompile goal_table 8 gets 0
    ∷ decompile (goal_table ++ (0 ∷ [])) 8 gets 9  -- a byte more
    ∷ decompile (set goal_table 4 2) 8 gets 9  -- another end
    ∷ decompile (set goal_table 5 0) 8 gets 9  -- a parent
    ∷ decompile (set goal_table 6 0) 8 gets 9  -- a next
    ∷ decompile (set goal_table 9 251) 8 gets 9  -- an operand that is not allowed
    ∷ [])
unfolding decompile
decompile_order = refl

-- "Beginning 9, 13, 8"; "estimate not V bytes, or one above 250", but "13 is no longer given" for 255 (document 02, R-4)
pub beginning_order : Holds
    (begin no_table (251 ∷ []) 316 gets 9  -- no table, and an estimate of 251
    ∷ begin goal_table (251 ∷ []) 316 gets 13  -- an estimate of 251, and no room
    ∷ begin goal_table (250 ∷ []) 316 gets 8
    ∷ begin goal_table (250 ∷ []) 317 gets 0
    ∷ begin goal_table (251 ∷ []) 317 gets 13
    ∷ begin goal_table (252 ∷ []) 317 gets 13
    ∷ begin goal_table (253 ∷ []) 317 gets 13
    ∷ begin goal_table (254 ∷ []) 317 gets 13
    ∷ begin goal_table (255 ∷ []) 316 gets 8
    ∷ begin goal_table (255 ∷ []) 317 gets 0
    ∷ begin goal_table [] 317 gets 13
    ∷ begin goal_table (0 ∷ 0 ∷ []) 317 gets 13
    ∷ [])
unfolding begin
beginning_order = refl

-- a record of the GOAL's table: the phase and its mark; the last time is one of four bytes that differ
abbrev run : ℕ → ℕ → List ℕ
run phase mark = record_bytes phase 0x04030201 (0 ∷ []) [] [] (mark ∷ [])

-- "Offer 9, 10, 14, 11, 12, 8": 14 is for phase 2 and 11 for phase 1, so these two exclude each other, and both come before 12
pub offer_order : Holds
    (offer no_table (run 2 1) 0 0 gets 9  -- no table, and a mark in phase 2
    ∷ offer goal_table (run 2 1) 0 0 gets 10  -- a mark in phase 2, and the run is finished
    ∷ offer goal_table (take 316 (run 2 0)) 0 0 gets 10  -- under 317 bytes, and the run is finished
    ∷ offer goal_table (run 2 0) 0x04030200 0 gets 14  -- the run is finished, and the time is before the last
    ∷ offer goal_table (run 1 1) 0x04030200 0 gets 11  -- phase 1, and the time is before the last
    ∷ offer goal_table (run 0 1) 0x04030200 0 gets 12  -- the time is before the last, and there is no room
    ∷ offer goal_table (run 0 1) 0x04030201 0 gets 8
    ∷ offer goal_table (run 0 1) 0x04030201 1 gets 0
    ∷ [])
unfolding offer
offer_order = refl

-- "Settling 9, 10, 14, 11, 13, 15": 14 is for phase 2 and 11 for phase 0, so these two exclude each other, and both come before 13. No call is known
-- that gets 15
pub settling_order : Holds
    (settle no_table (run 2 1) (251 ∷ []) gets 9  -- no table, and a mark in phase 2
    ∷ settle goal_table (run 2 1) (251 ∷ []) gets 10  -- a mark in phase 2, and the run is finished
    ∷ settle goal_table (take 316 (run 2 0)) (251 ∷ []) gets 10  -- under 317 bytes, and the run is finished
    ∷ settle goal_table (run 2 0) (251 ∷ []) gets 14  -- the run is finished, and an estimate of 251
    ∷ settle goal_table (run 0 1) (251 ∷ []) gets 11  -- phase 0, and an estimate of 251
    ∷ settle goal_table (run 1 1) (251 ∷ []) gets 13
    ∷ settle goal_table (run 1 1) [] gets 13
    ∷ settle goal_table (run 1 1) (0 ∷ 0 ∷ []) gets 13
    ∷ settle goal_table (run 1 1) (250 ∷ []) gets 0
    ∷ settle goal_table (run 1 1) (252 ∷ []) gets 13
    ∷ settle goal_table (run 1 1) (253 ∷ []) gets 13
    ∷ settle goal_table (run 1 1) (254 ∷ []) gets 13
    ∷ settle goal_table (run 1 1) (255 ∷ []) gets 0
    ∷ settle goal_table (run 0 1) (255 ∷ []) gets 11  -- phase 0, and an unknown variable
    ∷ [])
unfolding settle
settling_order = refl
