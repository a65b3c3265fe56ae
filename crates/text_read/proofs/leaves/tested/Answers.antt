-- `tested` meets its contract.
use Rattle.text_read.proofs.Plain.{test_first, test_second, test_missing}
use Rattle.text_read.proofs.leaves.tested.Goals as goal

pub returns-then-stands_at-clause-does : goal.returns-then-stands_at-clause-does
returns-then-stands_at-clause-does c = search test_first

pub returns-then-stands_at-2-clause-does : goal.returns-then-stands_at-2-clause-does
returns-then-stands_at-2-clause-does c = search test_second

pub returns-clause-does : goal.returns-clause-does
returns-clause-does c = search test_missing
