-- The rows of a table, as the code writes them: from the last part down, over the trees that stand in a file.
use Rattle.std.specs.Prelude.{ℕ, suc, ◌+◌, ◌*◌, ◌<◌, ◌≡◌, List, [], ◌∷◌, ◌++◌, map, length, get_or, drop}
use Rattle.std.proofs.Math.Option.{some}
use Rattle.std.proofs.lemmas.List.Edits.{sets}
use Rattle.meaning.specs.declared.Entry.{Entry}
use Rattle.meaning.specs.declared.Form.TheVariants.{File}
use Rattle.meaning.specs.Sizes.{no_part, number_bytes, header_length, parent_place, next_place, row_length}
use Rattle.meaning.specs.declared.kinds.Kind.TheVariants.{Par as PAR}
use Rattle.meaning.specs.Tree.{Part, kind, children, size}
use Rattle.meaning.specs.Program.{trees, entry_at, entries, operand_bytes}
use Rattle.meaning.specs.Table.{Row, block, siblings}
use Rattle.program_walk.specs.Walk.{part_at}

-- a part's links: its end, its parent, its next
abbrev pub links : ℕ → ℕ → ℕ → List ℕ
links e p n = number_bytes e ++ (number_bytes p ++ number_bytes n)

-- the table under way, with the parent and the next of part q in its row
abbrev pub with_links : List ℕ → ℕ → ℕ → ℕ → List ℕ
with_links out q p n = sets (sets out (header_length + row_length * q + parent_place) (number_bytes p)) (header_length + row_length * q + next_place) (number_bytes n)

-- the rows of all parts inside part p
unfoldable pub inner_rows : Part → ℕ → List Row
inner_rows t p = siblings (kind t) p (suc p) (map block (children t))

-- the row of a part with an entry, with its end, its parent and its next
abbrev pub entry_row : Entry → ℕ → ℕ → ℕ → List ℕ
entry_row part e p n = part.kind ∷ (links e p n ++ operand_bytes part.operand)

-- the rows of the parts of a file from number q on, with the links that are given
unfoldable pub linked_rows : List ℕ → ℕ → List Row → List ℕ
linked_rows s q [] = []
linked_rows s q (r ∷ rs) = entry_row (entry_at File s q) r.end r.parent r.next ++ linked_rows s (suc q) rs

-- the rows of trees that stand one after the other from q on, and in no part: their roots have no parent and no next
unfoldable pub forest_rows : List ℕ → ℕ → List Part → List ℕ
forest_rows s q ps = linked_rows s q (siblings PAR no_part q (map block ps))

-- they stand in the buffer
pub record Forest (s out : List ℕ) (q : ℕ) : Type 0 where
  pub trees_left : List Part
  pub are : trees (drop q (entries File s)) ≡ some trees_left
  pub there : (j : ℕ) → j < length (forest_rows s q trees_left) → get_or out (header_length + row_length * q + j) 0 ≡ get_or (forest_rows s q trees_left) j 0

-- what is written of the parts inside part n, and where it ends
abbrev pub inner_written : List ℕ → ℕ → List ℕ → List ℕ
inner_written s n out = sets out (header_length + row_length * (n + 1)) (linked_rows s (n + 1) (inner_rows (part_at (entries File s) n) n))

abbrev pub end_of : List ℕ → ℕ → ℕ
end_of s n = n + size (part_at (entries File s) n)

-- and its own row with them, with no parent and no next
unfoldable pub row_written : List ℕ → ℕ → List ℕ → List ℕ
row_written s n out = sets (inner_written s n out) (header_length + row_length * n) (entry_row (entry_at File s n) (end_of s n) no_part no_part)

-- the rows of all parts of a tree
unfoldable pub rows_of : List ℕ → List ℕ
rows_of s = linked_rows s 0 ((block (part_at (entries File s) 0)).rows 0 no_part no_part)
