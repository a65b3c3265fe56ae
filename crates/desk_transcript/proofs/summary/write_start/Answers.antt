-- `write_start` meets its contract: its two lines are the definition's.
use Rattle.desk_format.proofs.Pages.{adds_same}
use Rattle.desk_transcript.proofs.Summing.{start_one, start_none}
use Rattle.desk_transcript.proofs.summary.write_start.Goals as goal

pub returns-then-is_started : goal.returns-then-is_started
returns-then-is_started c = adds_same (start_one _ _ _ c.requires c.is_started.ensures c.start_of.ensures c.if-is_started.true) (rw c.into.ensures at c.numbered.ensures)

pub returns-else-is_started : goal.returns-else-is_started
returns-else-is_started c = adds_same (start_none _ _ _ c.requires c.is_started.ensures c.if-is_started.false) c.word.ensures
