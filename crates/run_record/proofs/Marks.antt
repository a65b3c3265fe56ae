-- A record has room for the marks and the clocks of a table's program.
use Prim.Native.Nat.{ℕ, ◌+◌, ◌<◌, ◌≤◌}
use native.Mathlib.Omega.{arith}
use mathlib.Core.Path.{◌≡◌}
use mathlib.Core.Bool.{true}
use mathlib.Core.List.{List}
use lib.ListN.{length}
use Rattle.meaning.specs.Sizes.{max_clocks}
use Rattle.meaning.specs.Program.{parts, clocks}
use Rattle.meaning.specs.Table.{is_table}
use Rattle.meaning.specs.Record.{marks_place, record_length}
use Rattle.meaning.proofs.Tables.{table_held}
use Rattle.program_part.proofs.Places.{parts_fit}

module _ (t : List ℕ) (table : is_table t ≡ true) where
  -- the marks of the first n parts, and the mark of part p
  pub marks_inside : (r : List ℕ) (n : ℕ) → record_length ≤ length r → n ≤ parts t → marks_place + n ≤ length r
  marks_inside r n long h = omega (arith, parts_fit t table)

  pub mark_inside : (r : List ℕ) (p : ℕ) → record_length ≤ length r → p < parts t → marks_place + p < length r
  mark_inside r p long h = omega (arith, parts_fit t table)

  -- the clocks
  pub clocks_fit : clocks t ≤ max_clocks
  clocks_fit = (table_held t table).1.within.clocks_fit
