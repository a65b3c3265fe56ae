-- `merge_all` meets its contract: at each turn, the values of the leaves that are left, merged into the bytes as they are now, give the whole.
use Prim.Native.Nat.{◌+◌, ◌-◌}
use mathlib.Core.Path.{◌≡◌}
use lib.ListN.{length}
use Rattle.base.specs.Lists.{bytes_at}
use Rattle.meaning.specs.Record.{marks_place, marks_in}
use Rattle.meaning.specs.Cycle.{leaves_from}
use Rattle.run_goals.specs.Merged.{goals_merged}
use Rattle.run_goals.proofs.goals.merge_all.Given as goal

abbrev pub invariant-loop-p : goal.invariant-loop-p
invariant-loop-p l = (length l.g ≡ length l.initial.g) × (goals_merged l.g (leaves_from l.t.bytes.now l.p (bytes_at l.r.bytes.now (marks_place + l.p) (l.p-end - l.p))) ≡ goals_merged l.initial.g (leaves_from l.t.bytes.now 0 (marks_in l.t.bytes.now l.r.bytes.now)))

abbrev pub decreases-loop-p : goal.decreases-loop-p
decreases-loop-p l = l.p-end - l.p
