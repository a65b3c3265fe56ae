-- `write_item` meets its contract: the number, and then its separator.
use Rattle.desk_format.proofs.Pages.{adds_append}
use Rattle.desk_listing.proofs.lines.write_item.Goals as goal

pub returns : goal.returns
returns c = adds_append c.number.ensures (rw (← c.separator.ensures) c.byte.ensures)
