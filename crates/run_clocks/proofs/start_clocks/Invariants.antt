-- `start_clocks` meets its contract. The loop's invariant: what the parts that are left make of the record as it is now is what all parts make of it as it was.
use Prim.Native.Nat.{◌-◌}
use mathlib.Core.Path.{◌≡◌}
use lib.ListN.{length}
use Rattle.meaning.specs.Program.{parts}
use Rattle.run_clocks.specs.Starting.{parts_started}
use Rattle.run_clocks.proofs.start_clocks.Given as goal

abbrev pub invariant-loop-p : goal.invariant-loop-p
invariant-loop-p l = (length l.r ≡ length l.initial.r) × (parts_started l.t.bytes.now l.time l.p (parts l.t.bytes.now - l.p) l.r ≡ parts_started l.t.bytes.now l.time 0 (parts l.t.bytes.now) l.initial.r)

abbrev pub decreases-loop-p : goal.decreases-loop-p
decreases-loop-p l = l.p-end - l.p
