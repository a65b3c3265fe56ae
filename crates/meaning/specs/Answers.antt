-- Refusal by refusal: the number that document 01 gives each answer.
use Rattle.std.specs.Prelude.{ℕ, ◌+◌, Bool, true, cond, Option, None, Some, Result, Ok, Err, eqb, ltb}
use Rattle.meaning.specs.declared.Refusal.{Refusal}
use Rattle.meaning.specs.declared.Refusal.TheVariants.{FileTooShort, SizeOutOfRange, WrongLength, UnknownKind, OperandNotAllowed, NotOneTree, TooDeep, BufferTooShort, NotATable, RecordNotAllowed, WrongPhase, TimeBeforeLast, EstimateNotAllowed, RunFinished, NothingAtWork, NotAText}
use Rattle.meaning.specs.declared.Progress.{Progress}
use Rattle.meaning.specs.declared.Progress.TheVariants.{Running, Finished}
use Rattle.meaning.specs.Sizes.{max_variables}

-- "Refusal by refusal": each has here the name that the code's `Refusal` and the header give it
-- "file under 3 bytes"
abbrev pub file_too_short : ℕ
file_too_short = 1

-- "a size outside its range"
abbrev pub size_out_of_range : ℕ
size_out_of_range = 2

-- "length not 3 + 5 × N"
abbrev pub wrong_length : ℕ
wrong_length = 3

-- "unknown kind"
abbrev pub unknown_kind : ℕ
unknown_kind = 4

-- "operand not allowed"
abbrev pub operand_not_allowed : ℕ
operand_not_allowed = 5

-- "arrays do not form exactly one tree"
abbrev pub not_one_tree : ℕ
not_one_tree = 6

-- "depth above 16"
abbrev pub too_deep : ℕ
too_deep = 7

-- "output buffer too short"
abbrev pub buffer_too_short : ℕ
buffer_too_short = 8

-- "bytes not the table of any file"
abbrev pub not_a_table : ℕ
not_a_table = 9

-- "record not allowed, or under 317 bytes"
abbrev pub record_not_allowed : ℕ
record_not_allowed = 10

-- "settling in phase 0, offer in phase 1"
abbrev pub wrong_phase : ℕ
wrong_phase = 11

-- "time before the last time"
abbrev pub time_before_last : ℕ
time_before_last = 12

-- "estimate not V bytes, or one above 250"; "13 is no longer given" for 255 (document 02, R-4)
abbrev pub estimate_not_allowed : ℕ
estimate_not_allowed = 13

-- "run finished"
abbrev pub run_finished : ℕ
run_finished = 14

-- "after settling, root not ended, yet no leaf or deciding CHOICE marked"
abbrev pub nothing_at_work : ℕ
nothing_at_work = 15

-- "16 for a text outside the grammar or too long" (document 02, R-5)
abbrev pub not_a_text : ℕ
not_a_text = 16

abbrev pub refusal_number : Refusal → ℕ
refusal_number FileTooShort = file_too_short
refusal_number SizeOutOfRange = size_out_of_range
refusal_number WrongLength = wrong_length
refusal_number UnknownKind = unknown_kind
refusal_number OperandNotAllowed = operand_not_allowed
refusal_number NotOneTree = not_one_tree
refusal_number TooDeep = too_deep
refusal_number BufferTooShort = buffer_too_short
refusal_number NotATable = not_a_table
refusal_number RecordNotAllowed = record_not_allowed
refusal_number WrongPhase = wrong_phase
refusal_number TimeBeforeLast = time_before_last
refusal_number EstimateNotAllowed = estimate_not_allowed
refusal_number RunFinished = run_finished
refusal_number NothingAtWork = nothing_at_work
refusal_number NotAText = not_a_text

-- the number of what a call answers: 0 where it is accepted and gives nothing, and else the refusal's
abbrev pub answer_number : Result (Unit {0}) Refusal → ℕ
answer_number (Ok given) = 0
answer_number (Err r) = refusal_number r

-- Numbers from here on are answers that are no refusal: of an offer 256 and the lowest contested variable, 255 for none;
-- of a settling 256 for "running" and 257 for "finished"
abbrev pub answered : ℕ
answered = 256

-- the number that an offer or a settling answers: the refusal's, or 256 and what is given (the name of a variable; 1 where the root has ended)
abbrev pub answering : ℕ → ℕ → ℕ
answering refusal given = cond (eqb refusal 0) (answered + given) refusal

-- "or 255 exactly where none is contested": the name in an offer's answer that names no variable
abbrev pub no_variable : ℕ
no_variable = 255

-- what an offer gives is the lowest contested variable, if any is
abbrev pub offer_number : Result (Option ℕ) Refusal → ℕ
offer_number (Ok None) = answered + no_variable
offer_number (Ok (Some v)) = answered + v
offer_number (Err r) = refusal_number r

-- the answers that an offer gives: it names a variable's number alone, so that no number is that of two of them
abbrev pub one_case : Result (Option ℕ) Refusal → Bool
one_case (Ok None) = true
one_case (Ok (Some v)) = ltb v max_variables
one_case (Err r) = true

-- what a settling gives is whether the run goes on
abbrev pub settle_number : Result Progress Refusal → ℕ
settle_number (Ok Running) = answered
settle_number (Ok Finished) = answered + 1
settle_number (Err r) = refusal_number r
