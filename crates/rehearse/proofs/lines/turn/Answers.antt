-- `turn` meets its contract: the next line is answered where it ends in the buffer; else the line is too long, or more is read.
use Rattle.rehearse.proofs.Turns.{line_held, on_taken}
use Rattle.rehearse.proofs.lines.turn.Goals as goal

pub slice_bounds-answer-count : goal.slice_bounds-answer-count
slice_bounds-answer-count c = search line_held

pub slice_bounds-answer-start : goal.slice_bounds-answer-start
slice_bounds-answer-start c = search line_held

pub returns : goal.returns
returns c = search on_taken
