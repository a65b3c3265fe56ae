-- `initialise_step` meets its contract: one law for each way that a part's turn goes.
use Rattle.run_initialise.proofs.Initialising.{turn_passed, turn_begins, turn_idle}
use Rattle.run_initialise.proofs.initialise_step.Goals as goal

pub returns-then-skip-gt0 : goal.returns-then-skip-gt0
returns-then-skip-gt0 c = search turn_passed

pub returns-then-begins : goal.returns-then-begins
returns-then-begins c = search turn_begins

pub returns : goal.returns
returns c = search turn_idle
