-- `works` meets its contract: at each turn something is left in the CHOICE that is kept or in the parts to come exactly where something is left at all.
use Prim.Native.Nat.{◌-◌}
use mathlib.Core.Path.{◌≡◌}
use lib.ListN.{drop}
use Rattle.base.specs.Lists.{bytes_at}
use Rattle.meaning.specs.Program.{parts}
use Rattle.meaning.specs.Cycle.{works_from}
use Rattle.run_settle.specs.Deciding.{works_with}
use Rattle.run_settle.proofs.works.Marks.works.Given as goal

abbrev pub invariant-loop-p : goal.invariant-loop-p
invariant-loop-p l = works_with l.self.table.bytes.now l.pending l.p (drop l.p (bytes_at l.self.bytes.now 0 (parts l.self.table.bytes.now))) ≡ works_from l.self.table.bytes.now 0 (bytes_at l.self.bytes.now 0 (parts l.self.table.bytes.now))

abbrev pub decreases-loop-p : goal.decreases-loop-p
decreases-loop-p l = l.p-end - l.p
