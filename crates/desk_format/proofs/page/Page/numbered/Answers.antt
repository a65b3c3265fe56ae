-- `numbered` meets its contract: the label, then the number, then the line feed.
use Rattle.desk_format.specs.Words.{numbered}
use Rattle.desk_format.proofs.Pages.{adds_append}
use Rattle.desk_format.proofs.page.Page.numbered.Goals as goal

pub returns : goal.returns
unfolding numbered
returns c = adds_append c.word.ensures (adds_append c.number.ensures c.byte.ensures)
