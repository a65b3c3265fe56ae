-- `write_estimate` meets its contract: the word, then the bytes, then the line feed.
use Rattle.desk_format.proofs.Pages.{adds_append}
use Rattle.desk_transcript.specs.Transcript.{estimate_text}
use Rattle.desk_transcript.proofs.summary.write_estimate.Goals as goal

pub returns : goal.returns
unfolding estimate_text
returns c = adds_append c.word.ensures (adds_append (rw (c.into.ensures, c.variables.ensures) at c.pairs.ensures) c.byte.ensures)
