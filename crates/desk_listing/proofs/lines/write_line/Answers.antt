-- `write_line` meets its contract: at each turn the numbers before this one are written.
use native.Mathlib.Omega.{arith}
use Rattle.desk_format.proofs.Pages.{first_none, first_next, first_whole}
use Rattle.desk_listing.proofs.Lined.{item, line_is}
use Rattle.desk_listing.proofs.lines.write_line.Goals as goal

pub loop-k-init : goal.loop-k-init
loop-k-init c = first_none _ (omega arith)

pub loop-k-preserved : goal.loop-k-preserved
loop-k-preserved c = first_next (item c.args.numbers.now) c.loop-k.invariant c.write_item.ensures

pub returns : goal.returns
returns c = rw (← line_is c.args.numbers.now) (first_whole _ _ (omega arith) c.loop-k.invariant)
