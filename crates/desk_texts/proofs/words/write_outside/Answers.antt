-- `write_outside` meets its contract: the words, the line, then the column.
use Rattle.desk_format.proofs.Pages.{adds_append}
use Rattle.desk_texts.specs.Words.{outside_text}
use Rattle.desk_texts.proofs.words.write_outside.Goals as goal

pub returns : goal.returns
unfolding outside_text
returns c = adds_append c.word.ensures (adds_append (rw c.line_of.ensures at c.number.ensures) (rw c.column_of.ensures at c.write_column.ensures))
