-- What computed facts are made of: rows that say what something comes to, and the answers of the calls.
use Prim.Native.Nat.{ℕ}
use mathlib.Core.Path.{◌≡◌}
use mathlib.Core.Bool.{Bool}
use mathlib.Core.List.{List, [], ◌∷◌, ◌++◌, map}
use lib.ListN.{length}
use Rattle.base.specs.Lists.{flat}
use Rattle.meaning.specs.declared.Form.TheVariants.{File}
use Rattle.meaning.specs.Kinds.{kind_of, number_of, known, arity, test_of, test_allowed, condition_allowed, goal_allowed, start_allowed, count_allowed, empty_allowed, operand_allowed}
use Rattle.meaning.specs.Tree.{fold, depth, size}
use Rattle.meaning.specs.Program.{sizes_allowed, entries, entry_known, entry_allowed, arity_of, make_part, take_children, trees, tree_of, program_refusal}
use Rattle.meaning.specs.Table.{next_of, block, table_of, compiled, file_in, is_table, compile_refusal, compiled_into, decompile_refusal, decompiled_into}
use Rattle.meaning.specs.Conditions.{outcome, reached, satisfied, violated}
use Rattle.meaning.specs.Record.{record_bytes, estimate_byte_allowed, rest_zero, values_allowed, clock_allowed, clocks_allowed, marked_children, children_allowed, parts_allowed, root_allowed, record_allowed}
use Rattle.meaning.specs.Cycle.{begins_in, initial_marks_from, initial_marks, checked_from, leaves_from, values_for, goal_bytes, lowest_contested, transition, applied, settled_from, clocks_after, estimate_allowed, fresh_record, begin_refusal, begun_into, offer_refusal, offered_into, goals_into, works_from, settle_refusal, settled_into}

-- A row: what is computed, and what it comes to
infix 70 ◌gets◌
abbrev pub ◌gets◌ : {A : Type 0} → A → A → A × A
x gets y = (x, y)

-- a table of rows holds where each comes to what it says
abbrev pub Holds : {A : Type 0} → List (A × A) → Type 0
Holds rows = map (λ row. row.0) rows ≡ map (λ row. row.1) rows

-- A file of several parts, for one variable and no clock: the kind and b0 of each, and 0 for the rest of the operand. As a condition, b0 = 1 says
-- that variable 0 equals 0; as a count, that there is one child
abbrev pub file : List (ℕ × ℕ) → List ℕ
file parts = length parts ∷ 1 ∷ 0 ∷ (map (λ part. part.0) parts ++ flat (λ part. part.1 ∷ 0 ∷ 0 ∷ 0 ∷ []) parts)

-- The table of GOAL 0=1, for one variable and no clock
abbrev pub goal_table : List ℕ
goal_table = 0x01 ∷ 0x01 ∷ 0x00 ∷ 0x01 ∷ 0x01 ∷ 0xFF ∷ 0xFF ∷ 0x00 ∷ 0x00 ∷ 0x01 ∷ 0x00 ∷ []

-- The refusal of a file and of each call, 0 where there is none. To unfold one of these is to unfold all that its answer, and the bytes that
-- the call leaves, are computed with
unfoldable pub read : List ℕ → ℕ
unfolding kind_of number_of known arity test_of test_allowed condition_allowed goal_allowed start_allowed count_allowed empty_allowed operand_allowed fold depth size sizes_allowed entries entry_known entry_allowed arity_of make_part take_children trees tree_of program_refusal
read f = program_refusal File f

unfoldable pub compile : List ℕ → ℕ → ℕ
unfolding read next_of block table_of compiled compile_refusal compiled_into
compile f room = compile_refusal f room

unfoldable pub decompile : List ℕ → ℕ → ℕ
unfolding compile file_in is_table decompile_refusal decompiled_into
decompile t room = decompile_refusal t room

unfoldable pub begin : List ℕ → List ℕ → ℕ → ℕ
unfolding decompile begins_in initial_marks_from initial_marks estimate_byte_allowed estimate_allowed record_bytes fresh_record begin_refusal begun_into
begin t est room = begin_refusal t est room

-- whether a record is allowed
unfoldable pub allowed : List ℕ → List ℕ → Bool
unfolding kind_of record_bytes rest_zero estimate_byte_allowed values_allowed clock_allowed clocks_allowed marked_children children_allowed parts_allowed root_allowed record_allowed
allowed t r = record_allowed t r

unfoldable pub offer : List ℕ → List ℕ → ℕ → ℕ → ℕ
unfolding begin allowed outcome violated checked_from leaves_from values_for goal_bytes lowest_contested offer_refusal offered_into goals_into
offer t r time room = offer_refusal t r time room

unfoldable pub settle : List ℕ → List ℕ → List ℕ → ℕ
unfolding offer reached satisfied transition applied settled_from clocks_after works_from settle_refusal settled_into
settle t r est = settle_refusal t r est
