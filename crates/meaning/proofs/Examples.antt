-- The examples of document 01, computed by the definitions: those of "Refusal by refusal", the answers' numbers, and station 10's table.
use Prim.Native.Nat.{ℕ}
use mathlib.Core.Path.{◌≡◌, refl}
use mathlib.Core.List.{List, [], ◌∷◌, ◌++◌}
use lib.ListN.{take, set, replicate}
use Rattle.std.specs.Prelude.{None, Some, Ok}
use Rattle.meaning.specs.declared.Form.TheVariants.{File}
use Rattle.meaning.specs.declared.Refusal.TheVariants.{FileTooShort, SizeOutOfRange, WrongLength, UnknownKind, OperandNotAllowed, NotOneTree, TooDeep, BufferTooShort, NotATable, RecordNotAllowed, WrongPhase, TimeBeforeLast, EstimateNotAllowed, RunFinished, NothingAtWork, NotAText}
use Rattle.meaning.specs.declared.Progress.TheVariants.{Running, Finished}
use Rattle.meaning.specs.Answers.{refusal_number, answer_number, offer_number, settle_number}
use Rattle.meaning.specs.Table.{compiled}
use Rattle.meaning.specs.Cycle.{begun_into, offered_into, settled_into}
use Rattle.meaning.proofs.Computed.{◌gets◌, Holds, file, goal_table, compile, decompile, begin, offer, settle}

-- n REPEATs above a GOAL
abbrev repeats : ℕ → List ℕ
repeats n = file (replicate n (8, 0) ++ ((1, 0) ∷ []))

-- the record of GOAL 0=1 after a beginning, and after a cycle at 10 that is settled with an estimate
abbrev fresh : List ℕ
fresh = begun_into goal_table (0 ∷ []) (replicate 317 0)

abbrev cycled : ℕ → List ℕ
cycled est = settled_into goal_table (offered_into goal_table fresh 10 1) (est ∷ [])

-- refusals 1 to 14, with what is accepted beside 7; of 15 the paper says "none known"
pub examples : Holds
    (compile [] 2000 gets 1
    ∷ compile (0x00 ∷ 0x01 ∷ 0x00 ∷ []) 2000 gets 2
    ∷ compile (0x01 ∷ 0x01 ∷ 0x00 ∷ 0x01 ∷ []) 2000 gets 3
    ∷ compile (0x01 ∷ 0x01 ∷ 0x00 ∷ 0x09 ∷ 0x00 ∷ 0x00 ∷ 0x00 ∷ 0x00 ∷ []) 2000 gets 4
    ∷ compile (0x01 ∷ 0x01 ∷ 0x00 ∷ 0x01 ∷ 0x00 ∷ 0x01 ∷ 0x00 ∷ 0x00 ∷ []) 2000 gets 5
    ∷ compile (0x01 ∷ 0x01 ∷ 0x00 ∷ 0x08 ∷ 0x00 ∷ 0x00 ∷ 0x00 ∷ 0x00 ∷ []) 2000 gets 6
    ∷ compile (repeats 16) 2000 gets 7
    ∷ compile (repeats 15) 2000 gets 0
    ∷ compile (repeats 0) 10 gets 8
    ∷ decompile (0x01 ∷ 0x01 ∷ 0x00 ∷ []) 2000 gets 9
    ∷ offer goal_table (set fresh 0 7) 0 1 gets 10  -- "phase byte 7"
    ∷ offer goal_table (take 316 fresh) 0 1 gets 10  -- "or under 317 bytes"
    ∷ settle goal_table fresh (0 ∷ []) gets 11  -- "settling a fresh record"
    ∷ offer goal_table (cycled 0) 9 1 gets 12  -- "offer 9 after 10"
    ∷ begin goal_table (0xFB ∷ []) 317 gets 13  -- "`FB` for V = 1"
    ∷ offer goal_table (cycled 1) 10 1 gets 14  -- "offer in phase 2"
    ∷ [])
unfolding settle
examples = refl

-- The number of each refusal, and of the answers that are none: of an offer 256 and the variable that it names, 255 for none; of a settling 256
-- for "running" and 257 for "finished"
pub answer_numbers : Holds
    (refusal_number FileTooShort gets 1
    ∷ refusal_number SizeOutOfRange gets 2
    ∷ refusal_number WrongLength gets 3
    ∷ refusal_number UnknownKind gets 4
    ∷ refusal_number OperandNotAllowed gets 5
    ∷ refusal_number NotOneTree gets 6
    ∷ refusal_number TooDeep gets 7
    ∷ refusal_number BufferTooShort gets 8
    ∷ refusal_number NotATable gets 9
    ∷ refusal_number RecordNotAllowed gets 10
    ∷ refusal_number WrongPhase gets 11
    ∷ refusal_number TimeBeforeLast gets 12
    ∷ refusal_number EstimateNotAllowed gets 13
    ∷ refusal_number RunFinished gets 14
    ∷ refusal_number NothingAtWork gets 15
    ∷ refusal_number NotAText gets 16
    ∷ answer_number (Ok tt) gets 0
    ∷ offer_number (Ok (Some 0)) gets 256
    ∷ offer_number (Ok (Some 31)) gets 287
    ∷ offer_number (Ok None) gets 511
    ∷ settle_number (Ok Running) gets 256
    ∷ settle_number (Ok Finished) gets 257
    ∷ [])
answer_numbers = refl

-- "The file .. and its table"
abbrev file10 : List ℕ
file10 = 0x03 ∷ 0x01 ∷ 0x01 ∷ 0x04 ∷ 0x02 ∷ 0x03 ∷ 0x02 ∷ 0x00 ∷ 0x00 ∷ 0x00 ∷ 0x00 ∷ 0x00 ∷ 0x00 ∷ 0x00 ∷ 0x03 ∷ 0x00 ∷ 0x0A ∷ 0x00 ∷ []

abbrev table10 : List ℕ
table10 = 3 ∷ 1 ∷ 1 ∷ 4 ∷ 3 ∷ 255 ∷ 255 ∷ 2 ∷ 0 ∷ 0 ∷ 0 ∷ 2 ∷ 2 ∷ 0 ∷ 2 ∷ 0 ∷ 0 ∷ 0 ∷ 0 ∷ 3 ∷ 3 ∷ 0 ∷ 255 ∷ 3 ∷ 0 ∷ 10 ∷ 0 ∷ []

pub station10 : compiled File file10 ≡ table10
unfolding compile
station10 = refl
