-- `shift` meets its contract: at each turn the bytes from place i on are as they were, and moved they complete the whole.
use Rattle.desk_calls.proofs.Shifts.{shift_next}
use Rattle.desk_calls.proofs.pieces.shift.Goals as goal

pub loop-i-preserved : goal.loop-i-preserved
loop-i-preserved c = search shift_next
