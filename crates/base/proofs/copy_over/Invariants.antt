-- `copy_over` meets its contract. The loop's invariant is that of `copy`, from place 0 to place 0.
use lib.ListN.{length}
use Prim.Native.Nat.{◌-◌}
use Rattle.base.proofs.Stores.{Copying}
use Rattle.base.proofs.copy_over.Given as goal

abbrev pub invariant-loop-j : goal.invariant-loop-j
invariant-loop-j l = Copying l.src 0 l.initial.dst 0 (length l.src) l.dst l.j

abbrev pub decreases-loop-j : goal.decreases-loop-j
decreases-loop-j l = length l.src - l.j
