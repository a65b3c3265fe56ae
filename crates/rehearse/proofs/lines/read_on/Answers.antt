-- `read_on` meets its contract: a read that brings nothing ends the input, and what stands before it is the last line.
use Rattle.rehearse.proofs.Turns.{on_brought, on_ended}
use Rattle.rehearse.proofs.lines.read_on.Goals as goal

pub returns-then-n-k : goal.returns-then-n-k
returns-then-n-k c = search on_brought

pub returns : goal.returns
returns c = search on_ended
