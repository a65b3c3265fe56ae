-- `check_marks` meets its contract: at each turn, what the parts that are left do to the record as it is now gives the whole.
use Prim.Native.Nat.{◌-◌}
use mathlib.Core.Path.{◌≡◌}
use lib.ListN.{length}
use lib.Seq.{sets}
use Rattle.meaning.specs.Record.{marks_place}
use Rattle.meaning.specs.Cycle.{checked_marks}
use Rattle.run_offer.specs.CheckSteps.{checked_rest}
use Rattle.run_offer.proofs.checks.check_marks.Given as goal

abbrev pub invariant-loop-p : goal.invariant-loop-p
invariant-loop-p l = (length l.r ≡ length l.initial.r) × (checked_rest l.t.bytes.now l.time l.r l.p l.skip ≡ sets l.initial.r marks_place (checked_marks l.t.bytes.now l.initial.r l.time))

abbrev pub decreases-loop-p : goal.decreases-loop-p
decreases-loop-p l = l.p-end - l.p
