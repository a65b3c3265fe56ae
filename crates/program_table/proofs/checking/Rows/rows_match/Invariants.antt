-- `rows_match` meets its contract: the rows before the one at hand are those implied, and the ones that are left decide; so do the bytes of a row.
use Prim.Native.Nat.{◌-◌, ◌<◌}
use mathlib.Core.Path.{◌≡◌}
use mathlib.Core.Bool.{true}
use Rattle.meaning.specs.Sizes.{row_length}
use Rattle.base.specs.Lists.{all_from}
use Rattle.program_table.specs.Checking.{byte_is, row_is}
use Rattle.program_table.proofs.RowChecks.{Comparing}
use Rattle.program_table.proofs.checking.Rows.rows_match.Given as goal

abbrev pub invariant-loop-j : goal.invariant-loop-j
invariant-loop-j l = (l.matches ≡ true) × (all_from (byte_is l.t l.p) l.j (row_length - l.j) ≡ row_is l.t l.p)

abbrev pub decreases-loop-j : goal.decreases-loop-j
decreases-loop-j l = row_length - l.j

abbrev pub invariant-rows : goal.invariant-rows
invariant-rows l = (l.matches ≡ true) × ((0 < l.p) × Comparing l.t l.p-end l.p)

abbrev pub decreases-rows : goal.decreases-rows
decreases-rows l = l.p-end - l.p
