-- `write_summary` meets its contract: the phase, then the last time, then the rest.
use Rattle.desk_format.proofs.Pages.{adds_append}
use Rattle.desk_transcript.specs.Transcript.{summary_text}
use Rattle.desk_transcript.proofs.summary.write_summary.Goals as goal

pub returns : goal.returns
unfolding summary_text
returns c = adds_append (rw (c.into.ensures, c.phase.ensures) at c.numbered.ensures) (adds_append (rw (c.into-2.ensures, c.last_time.ensures) at c.numbered-2.ensures) c.write_state.ensures)
