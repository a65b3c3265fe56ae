-- `column_of` meets its contract: at each turn it has the column of the place it has come to.
use Prim.Native.Nat.{◌+◌, ◌≤◌}
use mathlib.Core.Path.{◌≡◌}
use Rattle.desk_texts.specs.Places.{column_of}
use Rattle.desk_texts.proofs.places.column_of.Given as goal

abbrev pub invariant-loop-b : goal.invariant-loop-b
invariant-loop-b l = (l.column ≡ column_of l.text l.b-index) × (l.column ≤ l.b-index + 1)
