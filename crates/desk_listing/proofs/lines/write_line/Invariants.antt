-- `write_line` meets its contract: at each turn the numbers before this one are written.
use Rattle.desk_format.specs.Writing.{texts_from}
use Rattle.desk_format.specs.Pages.{Adds}
use Rattle.desk_listing.proofs.Lined.{item}
use Rattle.desk_listing.proofs.lines.write_line.Given as goal

abbrev pub invariant-loop-k : goal.invariant-loop-k
invariant-loop-k l = Adds (texts_from (item l.numbers) 0 l.k) l.fn.page l.page
