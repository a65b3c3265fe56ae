-- `initialise` meets its contract. The loop's invariant: the marks still to come, stored onto what is there now, give the whole.
use Prim.Native.Nat.{◌+◌, ◌-◌, ◌<◌}
use mathlib.Core.Path.{◌≡◌}
use lib.ListN.{length}
use lib.Seq.{sets}
use Rattle.meaning.specs.Cycle.{initial_marks_from}
use Rattle.run_initialise.proofs.initialise.Given as goal

abbrev pub invariant-loop-p : goal.invariant-loop-p
invariant-loop-p l = (l.q < l.p) × ((length l.m ≡ length l.initial.m) × (sets l.m (l.from + l.p) (initial_marks_from l.t.bytes.now l.p (l.p-end - l.p) l.skip) ≡ sets l.initial.m (l.from + l.initial.p) (initial_marks_from l.t.bytes.now l.initial.p (l.p-end - l.initial.p) l.initial.skip)))

abbrev pub decreases-loop-p : goal.decreases-loop-p
decreases-loop-p l = l.p-end - l.p
