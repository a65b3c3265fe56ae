-- `marked_children` meets its contract: at each turn the count so far and the marked children among the parts that are left are all of them.
use Prim.Native.Nat.{◌-◌}
use Rattle.run_allowed.proofs.Markings.{Counting}
use Rattle.run_allowed.proofs.marks.marked_children.Given as goal

abbrev pub invariant-loop-q : goal.invariant-loop-q
invariant-loop-q l = Counting l.t.bytes.now l.r.bytes.now l.p l.end l.q l.n

abbrev pub decreases-loop-q : goal.decreases-loop-q
decreases-loop-q l = l.end - l.q
