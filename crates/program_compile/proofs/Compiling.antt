-- Compiling: the bytes that are written, and one law for each place where the code gives its answer.
use Prim.Native.Nat.{ℕ, zero, suc, ◌+◌, ◌≤◌, ◌<◌}
use native.Mathlib.Omega.{arith}
use mathlib.Core.Path.{◌≡◌, refl, sym, ap, ap₂, ◌∙◌}
use mathlib.Core.Option.{some}
use mathlib.Core.List.{List, [], ◌∷◌, ◌++◌, map}
use lib.ListN.{length, take, drop, length-drop}
use lib.Seq.{sets, length-take-le}
use borrow.Author.Tests.{le-leb, lt-leb, ne_eqb}
use Rattle.base.specs.Lists.{flat, tabulate}
use Rattle.base.proofs.Stores.{sets-append}
use Rattle.meaning.specs.declared.Form.{Form}
use Rattle.meaning.specs.declared.Form.TheVariants.{File, Table}
use Rattle.meaning.specs.declared.Refusal.{Refusal}
use Rattle.meaning.specs.Sizes.{no_part, header_length, length_of, bytes_at}
use Rattle.meaning.specs.Tree.{Part, size}
use Rattle.meaning.specs.Program.{parts, variables, clocks, size_bytes, entries, is_tree, program_refusal, operand_bytes, entry_at}
use Rattle.meaning.specs.Table.{Row, link_bytes, row_bytes, block, table_of, compiled, compile_refusal, compiled_into}
use Rattle.meaning.specs.Answers.{refusal_number, buffer_too_short}
use Rattle.meaning.proofs.Answers.{refusal_positive}
use Rattle.meaning.proofs.Files.{Holds, accepted, sizes_back}
use Rattle.meaning.proofs.Trees.{size_law}
use Rattle.meaning.proofs.Tables.{rows_entries, compiled_is, row_entry}
use Rattle.program_walk.specs.Walk.{OneTree, part_at}
use Rattle.program_rows.specs.Rows.{rows_of, linked_rows}
use Rattle.program_walk.proofs.Standing.{Alone, alone, alone_part}
use Rattle.meaning.specs.declared.Entry.{Entry}
use Rattle.meaning.proofs.Refusals.{effect}

-- The rows that the code writes are the rows of the table, where the entries are theirs
held_rows : (s : List ℕ) (rows : List Row) (q n : ℕ) → map row_entry rows ≡ tabulate (entry_at File s) q n → linked_rows s q rows ≡ flat row_bytes rows
unfolding linked_rows
held_rows s [] q zero d = refl
held_rows s [] q (suc n) d = cc
held_rows s (r ∷ rs) q zero d = cc
held_rows s (r ∷ rs) q (suc n) d =
    let first : row_entry r ≡ entry_at File s q = cc in
    let later : map row_entry rs ≡ tabulate (entry_at File s) (suc q) n = cc in
    ap₂ (λ (a b : List ℕ). a ++ b) (ap (λ (x : Entry). x.kind ∷ (link_bytes r ++ operand_bytes x.operand)) (sym first)) (held_rows s rs (suc q) n later)

-- An accepted program has one tree
module _ (form : Form) (s : List ℕ) (h : program_refusal form s ≡ 0) where
  abbrev part : Part
  part = (accepted form s h).0

  tree_alone : Alone form s
  tree_alone = alone form s (ap is_tree (accepted form s h).1)

  part_there : part_at (entries form s) 0 ≡ part
  part_there = let same-tree : some (part_at (entries form s) 0) ≡ some part = sym (alone_part form s tree_alone) ∙ (accepted form s h).1 in cc

-- so many bytes as the sizes take, from a place on where there is room for them
pub sizes_long : (l : List ℕ) (i : ℕ) → i + header_length ≤ length l → length (take header_length (drop i l)) ≡ header_length
sizes_long l i h = length-take-le header_length (drop i l) (rw length-drop (omega (arith, h)))

-- An accepted file is written as its table: its sizes, then the rows of its tree
module _ (s : List ℕ) (h : program_refusal File s ≡ 0) where
  holds : Holds File s (part File s h)
  holds = (accepted File s h).2

  abbrev rows : List Row
  rows = (block (part File s h)).rows 0 no_part no_part

  pub file_tree : OneTree s
  file_tree = record { long = omega (arith, holds.length_is); part = (tree_alone File s h).part; is = (tree_alone File s h).is }

  pub some_parts : 0 < parts s
  some_parts = omega (arith, holds.parts_are, size_law (part File s h))

  rows_are_lem : rows_of s ≡ flat row_bytes rows
  unfolding rows_of entries
  rows_are_lem = rw (part_there File s h) (held_rows s rows 0 (parts s) (rows_entries (part File s h) 0 no_part no_part ∙ sym holds.entries_are))

  sizes_are : bytes_at s 0 header_length ≡ size_bytes (size (part File s h)) (variables s) (clocks s)
  sizes_are = sizes_back s (omega (arith, holds.parts_are, holds.within.size_fits)) ∙ ap (λ (n : ℕ). size_bytes n (variables s) (clocks s)) holds.parts_are

  pub table_written : (out out₁ out₂ : List ℕ) → out₁ ≡ sets out 0 (bytes_at s 0 header_length) → out₂ ≡ sets out₁ header_length (rows_of s) → out₂ ≡ sets out 0 (compiled File s)
  unfolding table_of
  table_written out out₁ out₂ h₁ h₂ =
      rw (compiled_is File s (part File s h) (accepted File s h).1, h₂, h₁, rows_are_lem)
      (sets-append out 0 header_length (bytes_at s 0 header_length) (flat row_bytes rows) refl
      ∙ ap (λ (l : List ℕ). sets out 0 (l ++ flat row_bytes rows)) sizes_are)

-- There is room for what is written
pub read_fits : (f : List ℕ) (n m room : ℕ) → program_refusal File f ≡ 0 → n ≡ parts f → m ≡ length_of Table n → m ≤ room → (program_refusal File f ≡ 0) × (length_of Table (parts f) ≤ room)
read_fits f n m room h n-is m-is l = (h, omega (arith, m-is ∙ ap (length_of Table) n-is))

-- Reading, at each of its answers
module _ (f out : List ℕ) where
  abbrev CompiledAs : ℕ → List ℕ → Type 0
  CompiledAs n out₁ = (n ≡ compile_refusal f (length out)) × (out₁ ≡ compiled_into f out)

  pub compile_refused : (r : Refusal) → refusal_number r ≡ program_refusal File f → CompiledAs (refusal_number r) out
  unfolding compile_refusal compiled_into
  compile_refused r e =
      let counts : program_refusal File f ≡ 0 → ⊥ = λ z. refusal_positive r (e ∙ z) in
      effect (refusal_number r) (compile_refusal f (length out)) (sets out 0 (compiled File f)) out out
      (e ∙ rw (ne_eqb (program_refusal File f) 0 counts))
      (rw (ne_eqb (refusal_number r) 0 (refusal_positive r)))

  module _ (n m : ℕ) (h : program_refusal File f ≡ 0) (n-is : n ≡ parts f) (m-is : m ≡ length_of Table n) where
    pub compile_short : length out < m → CompiledAs buffer_too_short out
    unfolding compile_refusal compiled_into
    compile_short l =
        effect buffer_too_short (compile_refusal f (length out)) (sets out 0 (compiled File f)) out out
        (rw (h, lt-leb (length_of Table (parts f)) (length out) (omega (arith, m-is ∙ ap (length_of Table) n-is))))
        refl

    pub compile_done : (out₁ : List ℕ) → m ≤ length out → out₁ ≡ sets out 0 (compiled File f) → CompiledAs 0 out₁
    unfolding compile_refusal compiled_into
    compile_done out₁ l w =
        effect 0 (compile_refusal f (length out)) (sets out 0 (compiled File f)) out out₁
        (rw (h, le-leb (length_of Table (parts f)) (length out) (omega (arith, m-is ∙ ap (length_of Table) n-is))))
        w
