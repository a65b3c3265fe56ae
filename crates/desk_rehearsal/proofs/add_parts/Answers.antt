-- `add_parts` meets its contract: the marked parts where they are asked for, and else nothing.
use native.Mathlib.Omega.{arith}
use Rattle.desk_format.proofs.Pages.{adds_none, adds_same}
use Rattle.desk_rehearsal.proofs.Answered.{under_none, under_some}
use Rattle.desk_rehearsal.proofs.add_parts.Goals as goal

pub returns-then-asked : goal.returns-then-asked
returns-then-asked c = adds_same (under_some _ _ _ c.if-asked.true) c.write_parts.ensures

pub returns-else-asked : goal.returns-else-asked
returns-else-asked c = adds_same (under_none _ _ _ c.if-asked.false) (adds_none (omega arith))
