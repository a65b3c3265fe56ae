-- `brackets` meets its contract: at each turn so many brackets stand before the place.
use Prim.Native.Nat.{◌-◌}
use lib.ListN.{length}
use Rattle.text_read.specs.Reading.{Bracketed}
use Rattle.text_read.proofs.leaves.brackets.Given as goal

abbrev pub invariant-loop-place : goal.invariant-loop-place
invariant-loop-place l = Bracketed l.t l.from l.count l.place

abbrev pub decreases-loop-place : goal.decreases-loop-place
decreases-loop-place l = length l.t - l.place
