-- `pack_kinds` meets its contract: at each turn the kinds of the first parts are stored.
use Prim.Native.Nat.{◌+◌, ◌-◌}
use mathlib.Core.Path.{◌≡◌}
use Rattle.meaning.specs.Sizes.{header_length}
use Rattle.meaning.specs.Program.{kind_byte}
use Rattle.text_assemble.proofs.Arrays.{Packing}
use Rattle.text_assemble.proofs.packing.pack_kinds.Given as goal

abbrev pub invariant-loop-p : goal.invariant-loop-p
invariant-loop-p l = (l.p-end ≡ l.n) × Packing kind_byte l.parts l.initial.file header_length l.n l.file (header_length + l.p) l.p

abbrev pub decreases-loop-p : goal.decreases-loop-p
decreases-loop-p l = l.p-end - l.p
