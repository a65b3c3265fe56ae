-- `condition` meets its contract.
use Rattle.text_read.proofs.Plain.{condition_variable, condition_clock, condition_missing}
use Rattle.text_read.proofs.leaves.condition.Goals as goal

pub returns-in-Variable-clause-does : goal.returns-in-Variable-clause-does
returns-in-Variable-clause-does c = search condition_variable

pub returns-in-Clock-clause-does : goal.returns-in-Clock-clause-does
returns-in-Clock-clause-does c = search condition_clock

pub returns-in_default-clause-does : goal.returns-in_default-clause-does
returns-in_default-clause-does c = search condition_missing
