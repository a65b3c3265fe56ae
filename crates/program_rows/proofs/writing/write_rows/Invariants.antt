-- `write_rows` meets its contract. The loop's invariant: the rows from the part at hand on are written, and nothing else.
use Prim.Native.Nat.{◌≤◌}
use mathlib.Core.Path.{◌≡◌}
use lib.ListN.{length}
use Rattle.meaning.specs.Program.{parts}
use Rattle.program_rows.proofs.Forests.{Growing}
use Rattle.program_rows.proofs.writing.write_rows.Given as goal

abbrev pub invariant-loop-p : goal.invariant-loop-p
invariant-loop-p l = (length l.out ≡ length l.initial.out) × ((l.p ≤ parts l.s) × Growing l.s l.initial.out l.out l.p)
