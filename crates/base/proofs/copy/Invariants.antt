-- `copy` meets its contract. The loop's invariant: the bytes still to be copied, stored onto what is there now, give the whole.
use Prim.Native.Nat.{◌-◌}
use Rattle.base.proofs.Stores.{Copying}
use Rattle.base.proofs.copy.Given as goal

abbrev pub invariant-loop-j : goal.invariant-loop-j
invariant-loop-j l = Copying l.src l.from l.initial.dst l.to l.n l.dst l.j

abbrev pub decreases-loop-j : goal.decreases-loop-j
decreases-loop-j l = l.n - l.j
