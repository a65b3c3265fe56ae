-- The check of a table: one law for each place where the code gives its answer.
use Prim.Native.Nat.{ℕ, suc, ◌≤◌, ◌<◌}
use native.Mathlib.Omega.{arith}
use mathlib.Core.Path.{◌≡◌, refl, sym, ◌∙◌}
use mathlib.Core.Bool.{Bool, true, false, not}
use mathlib.Core.List.{List}
use lib.ListN.{length}
use borrow.Author.Tests.{ne_eqb}
use Rattle.meaning.specs.declared.Form.TheVariants.{Table}
use Rattle.meaning.specs.Sizes.{max_depth, header_length, length_of}
use Rattle.meaning.specs.Program.{parts, sizes_allowed, program_refusal}
use Rattle.meaning.specs.Table.{is_table}
use Rattle.meaning.proofs.Tables.{table_checked}
use Rattle.program_walk.specs.Walk.{parts_end}
use Rattle.program_refusals.proofs.Refusals.{too_short, sizes_refused, length_refused, parts_refused, has_parts_lem, no_end, found_whole, parts_pass}
use Rattle.program_table.specs.Checking.{end_stored, Ending, rows_are}
use Rattle.program_table.proofs.Ends.{ending_found, table_ends}
use Rattle.program_table.proofs.RowChecks.{rows_same}

module _ (t : List ℕ) where
  refused_by : (n : ℕ) → program_refusal Table t ≡ suc n → false ≡ is_table t
  refused_by n e = sym (table_checked t ∙ rw (ne_eqb (program_refusal Table t) 0 (λ z. omega (arith, e, z))))

  pub table_short : length t < header_length → false ≡ is_table t
  table_short h = refused_by 0 (sym (too_short Table t h))

  pub table_sized : (r : Bool) → header_length ≤ length t → r ≡ sizes_allowed t → not r ≡ true → false ≡ is_table t
  table_sized r h e f = refused_by 1 (sym (sizes_refused Table t r h e f))

  module _ (r : Bool) (n m : ℕ) (h : header_length ≤ length t) (e : r ≡ sizes_allowed t) (f : not r ≡ false) (n-is : n ≡ parts t) (m-is : m ≡ length_of Table n) where
    pub table_long : (length t ≡ m → ⊥) → false ≡ is_table t
    table_long g = refused_by 2 (sym (length_refused Table t r n m h e f n-is m-is g))

    module _ (long : length t ≡ m) (x k : ℕ) (x-is : x ≡ parts_end Table t (end_stored t) max_depth 1 0) (k-is : k ≡ parts t) where
      pub ends_refused : (x ≡ k → ⊥) → false ≡ is_table t
      ends_refused g = go (is_table t) refl
        where
          go : (y : Bool) → is_table t ≡ y → false ≡ is_table t
          go true z = absurd (no_end Table t (end_stored t) x k x-is k-is g (table_ends t z))
          go false z = sym z

      module _ (g : x ≡ k) where
        pub ends_found : Ending t
        ends_found =
            let some : 1 ≤ parts t = has_parts_lem r t e f in
            ending_found t (found_whole Table t (end_stored t) x k x-is k-is some g)
            (sym (parts_refused Table t r n m h e f n-is m-is 0 long (parts_pass Table t (end_stored t) x k x-is k-is some g)))

        pub rows_decide : (b : Bool) → b ≡ rows_are t → b ≡ is_table t
        rows_decide b b-is = sym (table_checked t ∙ rw ends_found.accepted (sym (b-is ∙ rows_same t ends_found)))
