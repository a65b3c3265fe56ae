-- `pack_operands` meets its contract: at each turn the operands of the first parts are stored.
use Prim.Native.Nat.{◌+◌, ◌-◌, ◌*◌}
use mathlib.Core.Path.{◌≡◌}
use Rattle.meaning.specs.Sizes.{header_length, operand_length}
use Rattle.meaning.specs.Program.{entry_operand}
use Rattle.text_assemble.proofs.Arrays.{Packing}
use Rattle.text_assemble.proofs.packing.pack_operands.Given as goal

abbrev pub invariant-loop-p : goal.invariant-loop-p
invariant-loop-p l = (l.p-end ≡ l.n) × Packing entry_operand l.parts l.initial.file (header_length + l.n) l.n l.file (header_length + l.n + operand_length * l.p) l.p

abbrev pub decreases-loop-p : goal.decreases-loop-p
decreases-loop-p l = l.p-end - l.p
