-- `write_table_text` meets its contract: the line of the sizes, and then the rows.
use Rattle.desk_format.proofs.Pages.{adds_append}
use Rattle.desk_listing.specs.Listing.{table_text}
use Rattle.desk_listing.proofs.rows.write_table_text.Goals as goal

pub returns : goal.returns
unfolding table_text
returns c = adds_append (rw (← c.size_numbers.ensures) c.write_line.ensures) c.write_row_lines.ensures
