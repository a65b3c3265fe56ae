-- `shift` meets its contract: at each turn the bytes from place i on are as they were, and moved they complete the whole.
use Prim.Native.Nat.{◌-◌}
use Rattle.desk_calls.proofs.Shifts.{Shifting}
use Rattle.desk_calls.proofs.pieces.shift.Given as goal

abbrev pub invariant-loop-i : goal.invariant-loop-i
invariant-loop-i l = Shifting l.initial.buf l.from l.to l.buf l.i

abbrev pub decreases-loop-i : goal.decreases-loop-i
decreases-loop-i l = l.to - l.i
