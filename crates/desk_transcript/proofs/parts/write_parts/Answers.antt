-- `write_parts` meets its contract: the word, then the marked parts, then the line feed.
use Rattle.desk_format.proofs.Pages.{adds_append}
use Rattle.desk_transcript.specs.Transcript.{parts_text}
use Rattle.desk_transcript.proofs.parts.write_parts.Goals as goal

pub returns : goal.returns
unfolding parts_text
returns c = adds_append c.word.ensures (adds_append c.write_marks.ensures c.byte.ensures)
