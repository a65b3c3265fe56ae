-- `write_marks` meets its contract: at each turn the parts before this one are written.
use Rattle.desk_format.specs.Writing.{texts_from}
use Rattle.desk_format.specs.Pages.{Adds}
use Rattle.desk_transcript.specs.Transcript.{part_text}
use Rattle.desk_transcript.proofs.parts.write_marks.Given as goal

abbrev pub invariant-loop-p : goal.invariant-loop-p
invariant-loop-p l = Adds (texts_from (part_text l.t l.r) 0 l.p) l.fn.page l.page
