-- The steps of a few walks, and the parts around each part, computed by the definitions.
use Prim.Native.Nat.{ℕ}
use mathlib.Core.Path.{◌≡◌, refl}
use mathlib.Core.Option
use mathlib.Core.Option.{Option, some}
use mathlib.Core.List.{List, [], ◌∷◌, ◌++◌, map}
use lib.ListN.{length, replicate}
use Rattle.base.specs.Lists.{tabulate, flag}
use Rattle.meaning.specs.declared.Form.TheVariants.{File}
use Rattle.meaning.specs.Program.{tree_of}
use Rattle.meaning.specs.Table.{compiled}
use Rattle.meaning.proofs.Computed.{◌gets◌, Holds, file, compile}
use Rattle.program_part.specs.Children.{children_of}
use Rattle.program_walk.specs.Walk.{along, part_end, parts_end}
use Rattle.program_walk.specs.Steps.{Step, down, up, tour, tree_steps, around, around_by, part_steps, along_steps, parts_steps, walk_steps}

-- SEQ(REPEAT(GOAL), CHOICE(MAINTAIN(WAIT), GOAL), PAR(WAIT)), with every kind that has children
abbrev every_kind : List ℕ
every_kind = file ((4, 3) ∷ (8, 0) ∷ (1, 0) ∷ (7, 1) ∷ (6, 1) ∷ (3, 1) ∷ (1, 0) ∷ (5, 1) ∷ (3, 1) ∷ [])

abbrev every_step : List Step
every_step =
    down 0 1
    ∷ down 1 2 ∷ down 2 3 ∷ up 2 3 ∷ up 1 2
    ∷ down 3 2 ∷ down 4 3 ∷ down 5 4 ∷ up 5 4 ∷ up 4 3 ∷ down 6 3 ∷ up 6 3 ∷ up 3 2
    ∷ down 7 2 ∷ down 8 3 ∷ up 8 3 ∷ up 7 2
    ∷ up 0 1
    ∷ []

-- n REPEATs above a GOAL
abbrev repeats : ℕ → List ℕ
repeats n = file (replicate n (8, 0) ++ ((1, 0) ∷ []))

unfoldable pub steps : List ℕ → List Step
unfolding compile children_of along part_end parts_end part_steps along_steps parts_steps walk_steps
steps s = walk_steps s

-- over a whole file, and over its tree
pub tree_walked : Option.map tree_steps (tree_of File every_kind) ≡ some every_step
unfolding compile tour
tree_walked = refl

-- to the end of a file, or to where it stops: a child is missing, or not allowed; a second tree is not looked at
pub file_walked : Holds
    (steps every_kind gets every_step
    ∷ steps (file ((4, 2) ∷ (1, 0) ∷ [])) gets (down 0 1 ∷ down 1 2 ∷ up 1 2 ∷ [])
    ∷ steps (file ((4, 2) ∷ (1, 0) ∷ (1, 1) ∷ [])) gets (down 0 1 ∷ down 1 2 ∷ up 1 2 ∷ down 2 2 ∷ [])
    ∷ steps (file ((1, 1) ∷ [])) gets (down 0 1 ∷ [])
    ∷ steps (file ((1, 0) ∷ (1, 0) ∷ [])) gets (down 0 1 ∷ up 0 1 ∷ [])
    ∷ [])
unfolding steps
file_walked = refl

-- which of these steps go down
pub ways_walked : map (λ m. flag m.goes_down) every_step ≡ 1 ∷ 1 ∷ 1 ∷ 0 ∷ 0 ∷ 1 ∷ 1 ∷ 1 ∷ 0 ∷ 0 ∷ 1 ∷ 0 ∷ 0 ∷ 1 ∷ 1 ∷ 0 ∷ 0 ∷ 0 ∷ []
ways_walked = refl

-- at the greatest depth the walk turns round; where a child would stand deeper, it has gone down 16 times
pub depth_limited : Holds (length (steps (repeats 15)) gets 32 ∷ length (steps (repeats 16)) gets 16 ∷ [])
unfolding steps
depth_limited = refl

-- how many parts stand around each part, by the tree and by the table's ends
abbrev every_around : List ℕ
every_around = 0 ∷ 1 ∷ 2 ∷ 1 ∷ 2 ∷ 3 ∷ 2 ∷ 1 ∷ 2 ∷ []

pub tree_around : Option.map around (tree_of File every_kind) ≡ some every_around
unfolding compile around
tree_around = refl

pub table_around : tabulate (around_by (compiled File every_kind)) 0 9 ≡ every_around
unfolding compile around_by
table_around = refl
