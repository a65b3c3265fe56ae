-- `goal` meets its contract.
use Rattle.text_read.proofs.Plain.{goal_missing, goal_read}
use Rattle.text_read.proofs.leaves.goal.Goals as goal

pub returns-then-not-stands_at-clause-does : goal.returns-then-not-stands_at-clause-does
returns-then-not-stands_at-clause-does c = search goal_missing

pub returns-clause-does : goal.returns-clause-does
returns-clause-does c = search goal_read
