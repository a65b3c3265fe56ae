-- `word` meets its contract: at each turn the bytes before this one are written.
use lib.ListN.{take}
use Rattle.desk_format.specs.Pages.{Adds}
use Rattle.desk_format.proofs.page.Page.word.Given as goal

abbrev pub invariant-loop-b : goal.invariant-loop-b
invariant-loop-b l = Adds (take l.b-index l.word) l.fn.self l.self
