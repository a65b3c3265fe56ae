-- `write_finishing` meets its contract: the count of cycles where the phase is that of a finished run.
use Rattle.desk_format.proofs.Pages.{adds_same}
use Rattle.desk_transcript.proofs.Summing.{finishing_one, finishing_none}
use Rattle.desk_transcript.proofs.summary.write_finishing.Goals as goal

pub returns-then-phase-eq-FINISHED : goal.returns-then-phase-eq-FINISHED
returns-then-phase-eq-FINISHED c = adds_same (finishing_one _ _ c.phase.ensures c.if-phase-eq-FINISHED.true) c.numbered.ensures

pub returns-else-phase-eq-FINISHED : goal.returns-else-phase-eq-FINISHED
returns-else-phase-eq-FINISHED c = adds_same (finishing_none _ _ c.phase.ensures c.if-phase-eq-FINISHED.false) c.word.ensures
