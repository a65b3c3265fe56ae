-- `write_line_fault` meets its contract: the word, then the number, then the rest.
use Rattle.desk_format.proofs.Pages.{adds_append}
use Rattle.desk_answers.specs.Answers.{line_text}
use Rattle.desk_answers.proofs.write_line_fault.Goals as goal

pub returns : goal.returns
unfolding line_text
returns c = adds_append c.word.ensures (adds_append c.number.ensures c.word-2.ensures)
