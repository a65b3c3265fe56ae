-- `write_goals_text` meets its contract: the word, then the bytes, then the name.
use Rattle.desk_format.proofs.Pages.{adds_append}
use Rattle.desk_answers.specs.Answers.{goals_text}
use Rattle.desk_answers.proofs.write_goals_text.Goals as goal

pub returns : goal.returns
unfolding goals_text
returns c = adds_append c.word.ensures (adds_append (rw c.into.ensures at c.pairs.ensures) c.write_named.ensures)
