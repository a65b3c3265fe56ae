-- `write_marks` meets its contract: at each turn the parts before this one are written.
use native.Mathlib.Omega.{arith}
use Rattle.desk_format.proofs.Pages.{first_none, first_next, first_whole}
use Rattle.desk_transcript.specs.Transcript.{part_text, marks_text}
use Rattle.desk_transcript.proofs.parts.write_marks.Goals as goal

pub loop-p-init : goal.loop-p-init
loop-p-init c = first_none _ (omega arith)

pub loop-p-preserved : goal.loop-p-preserved
loop-p-preserved c = first_next (part_text c.args.t.now c.args.r.now) c.loop-p.invariant c.write_part.ensures

pub returns : goal.returns
unfolding marks_text
returns c = first_whole _ _ (omega arith) c.loop-p.invariant
