-- `write_row` meets its contract. The loop's invariant: the rows of the children that are left stand in the buffer, and complete those of the part.
use mathlib.Core.Path.{◌≡◌}
use lib.ListN.{length}
use Rattle.meaning.specs.Kinds.{kind_of}
use Rattle.program_rows.specs.Rows.{Forest, inner_written, end_of}
use Rattle.program_rows.proofs.Forests.{Rowing}
use Rattle.program_rows.proofs.writing.write_row.Given as goal

abbrev pub invariant-loop-remaining : goal.invariant-loop-remaining
invariant-loop-remaining l = (length l.out ≡ length l.initial.out) × (Rowing l.s (kind_of l.part.kind) l.p l.q l.remaining l.out (inner_written l.s l.p l.initial.out) (end_of l.s l.p) × Forest l.s l.out l.q)
