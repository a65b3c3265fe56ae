-- `parent_of` meets its contract: the part at hand is the one around p, or stands inside it, and each turn goes up.
use Rattle.program_table.proofs.RowChecks.{Climbing}
use Rattle.program_table.proofs.checking.Rows.parent_of.Given as goal

abbrev pub invariant-loop-t : goal.invariant-loop-t
invariant-loop-t l = Climbing l.t l.p l.q

abbrev pub decreases-loop-t : goal.decreases-loop-t
decreases-loop-t l = l.q
