-- `parts_allowed` meets its contract: at each turn the parts that are left are allowed exactly where all parts are.
use Prim.Native.Nat.{◌-◌}
use mathlib.Core.Path.{◌≡◌}
use lib.ListN.{drop}
use Rattle.meaning.specs.Record.{phase_of, marks_in, parts_allowed}
use Rattle.run_allowed.proofs.marks.parts_allowed.Given as goal

abbrev pub invariant-loop-p : goal.invariant-loop-p
invariant-loop-p l = parts_allowed l.t.bytes.now l.current l.p (drop l.p (marks_in l.t.bytes.now l.r.bytes.now)) ≡ parts_allowed l.t.bytes.now (phase_of l.r.bytes.now) 0 (marks_in l.t.bytes.now l.r.bytes.now)

abbrev pub decreases-loop-p : goal.decreases-loop-p
decreases-loop-p l = l.n - l.p
