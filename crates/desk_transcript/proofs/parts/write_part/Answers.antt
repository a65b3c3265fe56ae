-- `write_part` meets its contract: a marked part's number after a space, and nothing of one that is not marked.
use native.Mathlib.Omega.{arith}
use Rattle.desk_format.proofs.Pages.{adds_append, adds_none, adds_same}
use Rattle.desk_transcript.proofs.Marked.{part_marked, part_unmarked}
use Rattle.desk_transcript.proofs.parts.write_part.Goals as goal

pub returns-then-is_marked : goal.returns-then-is_marked
returns-then-is_marked c = adds_same (part_marked _ _ _ _ c.requires c.is_marked.ensures c.if-is_marked.true) (adds_append c.byte.ensures (rw c.into.ensures at c.number.ensures))

pub returns-else-is_marked : goal.returns-else-is_marked
returns-else-is_marked c = adds_same (part_unmarked _ _ _ _ c.requires c.is_marked.ensures c.if-is_marked.false) (adds_none (omega arith))
