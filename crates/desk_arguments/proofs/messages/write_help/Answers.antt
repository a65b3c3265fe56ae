-- `write_help` meets its contract: the usage line, then what the command does.
use Rattle.desk_format.proofs.Pages.{adds_append}
use Rattle.desk_arguments.specs.Messages.{help_text}
use Rattle.desk_arguments.proofs.messages.write_help.Goals as goal

pub returns : goal.returns
unfolding help_text
returns c = adds_append (rw c.usage.ensures at c.word.ensures) (rw c.purpose.ensures at c.word-2.ensures)
