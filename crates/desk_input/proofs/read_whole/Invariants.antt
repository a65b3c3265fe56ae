-- `read_whole` meets its contract, and ends: a read that brings nothing ends it, and any other leaves less room.
use Prim.Native.Nat.{◌-◌}
use lib.ListN.{length}
use Rattle.desk_input.specs.Reading.{Filled}
use Rattle.desk_input.proofs.read_whole.Given as goal

abbrev pub invariant-loop-n : goal.invariant-loop-n
invariant-loop-n g l = Filled l.initial.buf l.n l.buf

abbrev pub decreases-loop-n : goal.decreases-loop-n
decreases-loop-n g l = length l.initial.buf - l.n
