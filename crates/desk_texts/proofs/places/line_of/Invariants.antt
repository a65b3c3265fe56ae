-- `line_of` meets its contract: at each turn it has the line of the place it has come to.
use Prim.Native.Nat.{◌+◌, ◌≤◌}
use mathlib.Core.Path.{◌≡◌}
use Rattle.desk_texts.specs.Places.{line_of}
use Rattle.desk_texts.proofs.places.line_of.Given as goal

abbrev pub invariant-loop-b : goal.invariant-loop-b
invariant-loop-b l = (l.line ≡ line_of l.text l.b-index) × (l.line ≤ l.b-index + 1)
