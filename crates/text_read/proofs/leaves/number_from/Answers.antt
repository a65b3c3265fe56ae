-- `number_from` meets its contract.
use Rattle.text_read.proofs.Plain.{number_got, number_stop}
use Rattle.text_read.proofs.leaves.number_from.Goals as goal

pub returns-in-Number : goal.returns-in-Number
returns-in-Number c = search number_got

pub returns-in_default : goal.returns-in_default
returns-in_default c = search number_stop
