-- `write_row_line` meets its contract: the line of the row's numbers.
use Rattle.desk_listing.proofs.rows.write_row_line.Goals as goal

pub returns : goal.returns
returns c = rw (← c.row_numbers.ensures) c.write_line.ensures
