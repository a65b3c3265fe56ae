-- `write_row_lines` meets its contract: at each turn the rows before this one are written.
use Rattle.desk_format.specs.Writing.{texts_from}
use Rattle.desk_format.specs.Pages.{Adds}
use Rattle.desk_listing.specs.Listing.{row_line}
use Rattle.desk_listing.proofs.rows.write_row_lines.Given as goal

abbrev pub invariant-loop-p : goal.invariant-loop-p
invariant-loop-p l = Adds (texts_from (row_line l.table) 0 l.p) l.fn.page l.page
