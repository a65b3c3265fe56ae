-- `write_state` meets its contract: the estimate, then the clocks, then the finishing cycle.
use Rattle.desk_format.proofs.Pages.{adds_append}
use Rattle.desk_transcript.specs.Transcript.{state_text}
use Rattle.desk_transcript.proofs.summary.write_state.Goals as goal

pub returns : goal.returns
unfolding state_text
returns c = adds_append c.write_estimate.ensures (adds_append c.write_clocks.ensures c.write_finishing.ensures)
