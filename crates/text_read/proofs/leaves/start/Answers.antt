-- `start` meets its contract.
use Rattle.text_read.proofs.Plain.{start_missing, start_read, start_moves}
use Rattle.text_read.proofs.leaves.start.Goals as goal

pub returns-in_default-clause-does : goal.returns-in_default-clause-does
returns-in_default-clause-does c = search start_missing

pub returns-clause-does : goal.returns-clause-does
returns-clause-does c = search start_read

pub returns-clause-moves : goal.returns-clause-moves
returns-clause-moves c = search start_moves
