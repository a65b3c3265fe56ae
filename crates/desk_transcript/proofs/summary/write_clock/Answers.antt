-- `write_clock` meets its contract: the word, then the number, then the start.
use Rattle.desk_format.proofs.Pages.{adds_append}
use Rattle.desk_transcript.specs.Transcript.{clock_text}
use Rattle.desk_transcript.proofs.summary.write_clock.Goals as goal

pub returns : goal.returns
unfolding clock_text
returns c = adds_append c.word.ensures (adds_append (rw c.into.ensures at c.number.ensures) c.write_start.ensures)
