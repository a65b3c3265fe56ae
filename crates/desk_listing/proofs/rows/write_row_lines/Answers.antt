-- `write_row_lines` meets its contract: at each turn the rows before this one are written.
use native.Mathlib.Omega.{arith}
use Rattle.desk_format.proofs.Pages.{first_none, first_next, first_whole}
use Rattle.desk_listing.specs.Listing.{row_line, row_lines}
use Rattle.desk_listing.proofs.rows.write_row_lines.Goals as goal

pub loop-p-init : goal.loop-p-init
loop-p-init c = first_none _ (omega arith)

pub loop-p-preserved : goal.loop-p-preserved
loop-p-preserved c = first_next (row_line c.args.table.now) c.loop-p.invariant c.write_row_line.ensures

pub returns : goal.returns
unfolding row_lines
returns c = first_whole _ _ (omega arith) c.loop-p.invariant
