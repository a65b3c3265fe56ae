-- `word` meets its contract: at each turn the bytes before this one are written.
use Rattle.desk_format.proofs.Pages.{word_next}
use Rattle.desk_format.proofs.page.Page.word.Goals as goal

pub loop-b-preserved : goal.loop-b-preserved
loop-b-preserved c = word_next _ c.loop-b-test.true c.loop-b.invariant c.byte.ensures
