-- `store_marks` meets its contract: at each turn the parts from p on are settled, and the lowest marked of them are known.
use Prim.Native.Nat.{◌≤◌}
use Rattle.meaning.specs.Program.{parts}
use Rattle.run_marks.proofs.Settling.{Standing}
use Rattle.run_marks.proofs.settled.Settling.store_marks.Given as goal

abbrev pub invariant-loop-p : goal.invariant-loop-p
invariant-loop-p l = (l.p ≤ parts l.self.table.bytes.now) × Standing l.self.table.bytes.now l.self.record.bytes.now l.self.estimate.now l.initial.m l.p l.m l.low
