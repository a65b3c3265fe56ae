-- `write_column` meets its contract: the words, the number, then the rest.
use Rattle.desk_format.proofs.Pages.{adds_append}
use Rattle.desk_texts.specs.Words.{column_text}
use Rattle.desk_texts.proofs.words.write_column.Goals as goal

pub returns : goal.returns
unfolding column_text
returns c = adds_append c.word.ensures (adds_append c.number.ensures c.word-2.ensures)
