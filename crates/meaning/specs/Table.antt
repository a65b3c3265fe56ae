-- Location table: the table of a program, the file that a table holds, and which byte lists are a table (refusal 9).
use Rattle.std.specs.Prelude.{ℕ, suc, ◌+◌, ◌*◌, ◌-◌, ◌<◌, Bool, cond, ◌&&◌, List, [], ◌∷◌, ◌++◌, map, eqb, leb, length}
use Rattle.std.proofs.Math.Option.{Option, none, some}
use Rattle.std.proofs.lemmas.List.Edits.{sets}
use Rattle.base.specs.Lists.{sum, flat, nonempty, same, first_failing}
use Rattle.meaning.specs.declared.Operand.{Operand}
use Rattle.meaning.specs.declared.Form.{Form}
use Rattle.meaning.specs.declared.Form.TheVariants.{File, Table}
use Rattle.meaning.specs.Sizes.{no_part, header_length, end_place, parent_place, next_place, row_length, length_of, number_bytes, bytes_at, number_at}
use Rattle.meaning.specs.declared.kinds.Kind.{Kind}
use Rattle.meaning.specs.declared.kinds.Kind.TheVariants.{Unknown as UNKNOWN, Goal as GOAL, Start as START, Wait as WAIT, Seq as SEQ, Par as PAR, Maintain as MAINTAIN, Choice as CHOICE, Repeat as REPEAT}
use Rattle.meaning.specs.Kinds.{kind_of, number_of}
use Rattle.meaning.specs.Tree.{Part, fold, size}
use Rattle.meaning.specs.Program.{parts, variables, clocks, size_bytes, operand_bytes, entry_at, entries, arrays, tree_of, program_tests, program_refusal}
use Rattle.meaning.specs.Answers.{buffer_too_short, not_a_table}

-- "kind; end (one past the part's last descendant); parent; next; the operand"
pub record Row : Type 0 where
  pub kind : ℕ
  pub end : ℕ
  pub parent : ℕ
  pub next : ℕ
  pub operand : Operand

abbrev pub link_bytes : Row → List ℕ
link_bytes r = number_bytes r.end ++ (number_bytes r.parent ++ number_bytes r.next)

abbrev pub row_bytes : Row → List ℕ
row_bytes r = r.kind ∷ (link_bytes r ++ operand_bytes r.operand)

-- "Next is the following sibling for a child of SEQ, and the child itself for a child of REPEAT":
-- of the child numbered p that ends at e, where a sibling follows or none does
unfoldable pub next_of : Kind → ℕ → ℕ → Bool → ℕ
next_of UNKNOWN p e follows = no_part
next_of GOAL p e follows = no_part
next_of START p e follows = no_part
next_of WAIT p e follows = no_part
next_of SEQ p e follows = cond follows e no_part
next_of PAR p e follows = no_part
next_of MAINTAIN p e follows = no_part
next_of CHOICE p e follows = no_part
next_of REPEAT p e follows = p

-- The rows of a part and of all inside it, once its number, its parent and its next are known
pub record Block : Type 0 where
  pub parts : ℕ
  pub rows : ℕ → ℕ → ℕ → List Row

-- the rows of children that stand from number p on, inside part q of kind k
abbrev pub siblings : Kind → ℕ → ℕ → List Block → List Row
siblings k q p [] = []
siblings k q p (b ∷ bs) = b.rows p q (next_of k p (p + b.parts) (nonempty bs)) ++ siblings k q (p + b.parts) bs

abbrev pub block_parts : Block → ℕ
block_parts b = b.parts

abbrev pub block_of : Kind → Operand → List Block → Block
block_of k o bs =
    record {
      parts = suc (sum (map block_parts bs));
      rows = λ p q x. record { kind = number_of k; end = p + suc (sum (map block_parts bs)); parent = q; next = x; operand = o } ∷ siblings k p (suc p) bs;
    }

unfoldable pub block : Part → Block
block p = fold block_of p

-- The table of a tree: the sizes, then a row per part, from the root on, which has no parent and no next
unfoldable pub table_of : ℕ → ℕ → Part → List ℕ
table_of v k p = size_bytes (size p) v k ++ flat row_bytes ((block p).rows 0 no_part no_part)

-- The table of a program held in a file or in a table; of a byte list that holds no tree there is none
abbrev pub table_for : ℕ → ℕ → Option Part → List ℕ
table_for v k none = []
table_for v k (some p) = table_of v k p

unfoldable pub compiled : Form → List ℕ → List ℕ
compiled form s = table_for (variables s) (clocks s) (tree_of form s)

-- What row p of a table has for its part's end, parent and next
abbrev pub end_at : List ℕ → ℕ → ℕ
end_at t p = number_at t (header_length + row_length * p + end_place)

abbrev pub parent_at : List ℕ → ℕ → ℕ
parent_at t p = number_at t (header_length + row_length * p + parent_place)

abbrev pub next_at : List ℕ → ℕ → ℕ
next_at t p = number_at t (header_length + row_length * p + next_place)

abbrev pub kind_at : List ℕ → ℕ → Kind
kind_at t p = kind_of (entry_at Table t p).kind

abbrev pub operand_of : List ℕ → ℕ → Operand
operand_of t p = (entry_at Table t p).operand

-- part p stands inside part q
abbrev pub Inside : List ℕ → ℕ → ℕ → Type 0
Inside t q p = (q < p) × (p < end_at t q)

-- how many parts stand inside part p
abbrev pub inside_of : List ℕ → ℕ → ℕ
inside_of t p = end_at t p - suc p

-- The file that a table holds: its sizes, then its rows' kinds, then its rows' operands
unfoldable pub file_in : List ℕ → List ℕ
file_in t = bytes_at t 0 header_length ++ arrays (entries Table t)

-- "bytes not the table of any file": the table of the file that it holds, where that file is one, and nothing else
unfoldable pub is_table : List ℕ → Bool
is_table t = eqb (program_refusal File (file_in t)) 0 && same (compiled File (file_in t)) t

-- "reading 1 to 7, each over all parts, then 8": each number with the test that must pass, in order; `room` is the output buffer's length
abbrev pub room_test : Form → List ℕ → ℕ → List (ℕ × Bool)
room_test form s room = (buffer_too_short, leb (length_of form (parts s)) room) ∷ []

abbrev pub compile_tests : List ℕ → ℕ → List (ℕ × Bool)
compile_tests f room = program_tests File f ++ room_test Table f room

-- the number of the first of these that fails, 0 where none does (the law `compile_first`)
unfoldable pub compile_refusal : List ℕ → ℕ → ℕ
compile_refusal f room = cond (eqb (program_refusal File f) 0) (first_failing (room_test Table f room)) (program_refusal File f)

-- what stands in the output buffer afterwards: "an output buffer's further bytes are untouched", and a refused call changes nothing
unfoldable pub compiled_into : List ℕ → List ℕ → List ℕ
compiled_into f out = cond (eqb (compile_refusal f (length out)) 0) (sets out 0 (compiled File f)) out

-- "Back to a file 9, 8"
abbrev pub decompile_tests : List ℕ → ℕ → List (ℕ × Bool)
decompile_tests t room = (not_a_table, is_table t) ∷ room_test File t room

unfoldable pub decompile_refusal : List ℕ → ℕ → ℕ
decompile_refusal t room = first_failing (decompile_tests t room)

unfoldable pub decompiled_into : List ℕ → List ℕ → List ℕ
decompiled_into t out = cond (eqb (decompile_refusal t (length out)) 0) (sets out 0 (file_in t)) out
