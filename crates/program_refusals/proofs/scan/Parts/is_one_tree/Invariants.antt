-- `is_one_tree` meets its contract: at each turn the entries that are left form the trees that remain exactly where all entries form one; each turn adds a number to those.
use Prim.Native.Nat.{◌+◌, ◌-◌, ◌*◌, ◌≤◌}
use mathlib.Core.Path.{◌≡◌}
use lib.ListN.{drop}
use Rattle.meaning.specs.declared.Form.TheVariants.{File}
use Rattle.meaning.specs.Sizes.{number_limit}
use Rattle.meaning.specs.Program.{entries}
use Rattle.program_refusals.specs.Counting.{fills}
use Rattle.program_refusals.proofs.scan.Parts.is_one_tree.Given as goal

abbrev pub invariant-loop-p : goal.invariant-loop-p
invariant-loop-p l = (l.remaining ≤ 1 + number_limit * l.p) × (fills (drop l.p (entries File l.s)) l.remaining ≡ fills (entries File l.s) 1)

abbrev pub decreases-loop-p : goal.decreases-loop-p
decreases-loop-p l = l.p-end - l.p
