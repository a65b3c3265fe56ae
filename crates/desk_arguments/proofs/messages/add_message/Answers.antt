-- `add_message` meets its contract: each request has its message.
use native.Mathlib.Omega.{arith}
use Rattle.desk_format.proofs.Pages.{adds_none, adds_same}
use Rattle.desk_arguments.specs.Messages.{message_text}
use Rattle.desk_arguments.proofs.Said.{message_none}
use Rattle.desk_arguments.proofs.messages.add_message.Goals as goal

pub returns-in-Help : goal.returns-in-Help
unfolding message_text
returns-in-Help c = rw c.in-Help.is c.write_help.ensures

pub returns-in-Usage : goal.returns-in-Usage
unfolding message_text
returns-in-Usage c = rw c.in-Usage.is (rw c.usage.ensures at c.word.ensures)

pub returns-in-LongName : goal.returns-in-LongName
unfolding message_text
returns-in-LongName c = rw c.in-LongName.is c.word-in-LongName.ensures

pub returns-in-Input : goal.returns-in-Input
returns-in-Input c = adds_same (message_none _ _ c.in-Input.is) (adds_none (omega arith))
