-- Where a part lies in a table: its rows stand there, and its children lie inside it.
use Prim.Native.Nat.{ℕ, suc, ◌+◌, ◌<◌}
use native.Mathlib.Nat.{zero-add, add-zero, add-suc, suc-add}
use native.Mathlib.Omega.{arith}
use mathlib.Core.Path.{◌≡◌, refl, ap, ◌∙◌}
use mathlib.Core.List.{List, [], ◌∷◌, ◌++◌, map}
use lib.ListN.{length, get_or}
use Rattle.base.specs.Lists.{nonempty}
use Rattle.meaning.specs.declared.Form.TheVariants.{Table}
use Rattle.meaning.specs.Sizes.{max_parts, no_part}
use Rattle.meaning.specs.declared.kinds.Kind.{Kind}
use Rattle.meaning.specs.Kinds.{kind_of, number_of}
use Rattle.meaning.specs.Tree.{Part, kind, children, operand, size}
use Rattle.meaning.specs.Program.{entry_at, size_bytes, Within}
use Rattle.meaning.specs.Table.{Row, next_of, siblings, block, table_of, end_at, parent_at, next_at, kind_at, inside_of}
use Rattle.meaning.proofs.Trees.{rows_law, block_parts_lem, inner, size_inner}
use Rattle.meaning.proofs.Parsing.{kind_number_lem}
use Rattle.meaning.proofs.Tables.{row_entry, length_rows, no_row, tree_rows, row_entry_lem, end_at_lem, parent_at_lem, next_at_lem}

-- a row stands at a number in a table
pub record RowAt (t : List ℕ) (n : ℕ) (r : Row) : Type 0 where
  pub entry_is : entry_at Table t n ≡ row_entry r
  pub end_is : end_at t n ≡ r.end
  pub parent_is : parent_at t n ≡ r.parent
  pub next_is : next_at t n ≡ r.next
  pub number_fits : n < max_parts

-- rows stand one after the other from a number on
abbrev RowsAt : List ℕ → ℕ → List Row → Type 0
RowsAt t n [] = Unit {0}
RowsAt t n (r ∷ rs) = RowAt t n r × RowsAt t (suc n) rs

-- a part lies at number n, inside part q, with next x
pub record Lies (t : List ℕ) (p : Part) (n q x : ℕ) : Type 0 where
  rows : RowsAt t n ((block p).rows n q x)

-- parts lie one after the other from number n on, inside part q of a kind
pub record LieIn (t : List ℕ) (k : Kind) (q n : ℕ) (ps : List Part) : Type 0 where
  rows : RowsAt t n (siblings k q n (map block ps))
  pub kind_is : kind_at t q ≡ k

-- rows that stand one after the other stand so in two runs
stand_split : (t : List ℕ) (n : ℕ) (xs ys : List Row) → RowsAt t n (xs ++ ys) → RowsAt t n xs × RowsAt t (n + length xs) ys
stand_split t n [] ys h = (tt, rw add-zero h)
stand_split t n (x ∷ xs) ys h =
    let s = stand_split t (suc n) xs ys h.1 in
    ((h.0, s.0), rw (add-suc, ← suc-add) s.1)

-- rows that stand one by one
stand_each : (t : List ℕ) (n : ℕ) (rs : List Row) → ((i : ℕ) → i < length rs → RowAt t (n + i) (get_or rs i no_row)) → RowsAt t n rs
stand_each t n [] h = tt
stand_each t n (r ∷ rs) h = (rw add-zero at (h 0 (omega arith)), stand_each t (suc n) rs (λ i l. rw (suc-add, ← add-suc) (h (suc i) (omega arith))))

module _ {t : List ℕ} {p : Part} {n q x : ℕ} (l : Lies t p n q x) where
  -- the row of a part that lies in a table
  pub own_row : RowAt t n (record { kind = number_of (kind p); end = n + size p; parent = q; next = x; operand = operand p })
  own_row = (rw (rows_law p n q x) at l.rows).0

  -- its row has its kind
  pub own_kind : kind_at t n ≡ kind p
  own_kind = ap (λ e. kind_of e.kind) own_row.entry_is ∙ kind_number_lem p

  -- as many parts stand inside its row as inside it
  pub own_inside : inside_of t n ≡ inner p
  own_inside = omega (arith, own_row.end_is, size_inner p)

  -- its children lie inside it
  pub children_lie : LieIn t (kind p) n (suc n) (children p)
  children_lie = record { rows = (rw (rows_law p n q x) at l.rows).1; kind_is = own_kind }

module _ {t : List ℕ} {k : Kind} {q n : ℕ} {p : Part} {ps : List Part} (l : LieIn t k q n (p ∷ ps)) where
  -- its rows, and those of the parts after it
  split : RowsAt t n ((block p).rows n q (next_of k n (n + size p) (nonempty (map block ps)))) × RowsAt t (n + size p) (siblings k q (n + size p) (map block ps))
  split =
      let x : ℕ = next_of k n (n + size p) (nonempty (map block ps)) in
      rw (length_rows p n q x) at (stand_split t n ((block p).rows n q x) (siblings k q (n + size p) (map block ps)) (rw (block_parts_lem p) at l.rows))

  -- of parts that lie one after the other, the first
  pub first_lies : Lies t p n q (next_of k n (n + size p) (nonempty (map block ps)))
  first_lies = record { rows = split.0 }

  -- and those after it
  pub others_lie : LieIn t k q (n + size p) ps
  others_lie = record { rows = split.1; kind_is = l.kind_is }

-- the root lies in its table
pub root_lies : (v k : ℕ) (p : Part) → Within v k p → Lies (table_of v k p) p 0 no_part no_part
unfolding table_of
root_lies v k p w =
    record {
      rows = stand_each (table_of v k p) 0 (tree_rows p) (λ i l.
          let m : i < size p = rw length_rows at l in
          rw zero-add
          (record {
            entry_is = row_entry_lem (size_bytes (size p) v k) (tree_rows p) refl i l;
            end_is = end_at_lem v k p w i m;
            parent_is = parent_at_lem v k p w i m;
            next_is = next_at_lem v k p w i m;
            number_fits = omega (arith, w.size_fits);
          }));
    }
