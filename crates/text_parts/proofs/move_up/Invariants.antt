-- `move_up` meets its contract. The loop's invariant: the bytes from place i on stand a part's length above, all others as before.
use Rattle.text_parts.proofs.Room.{Moving}
use Rattle.text_parts.proofs.move_up.Given as goal

abbrev pub invariant-loop-i : goal.invariant-loop-i
invariant-loop-i l = Moving l.initial.parts l.from l.to l.parts l.i
