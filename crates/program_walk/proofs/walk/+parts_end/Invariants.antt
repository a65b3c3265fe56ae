-- `parts_end` meets its contract. The measure is the parts that are left; the loop's invariant: the parts that are left end where all of them do, and so do the steps.
use Prim.Native.Nat.{◌+◌, ◌-◌}
use lib.ListN.{length}
use Rattle.meaning.specs.declared.Form.TheVariants.{File}
use Rattle.meaning.specs.Sizes.{max_depth}
use Rattle.meaning.specs.Program.{parts}
use Rattle.program_walk.specs.Walk.{any_end, parts_end}
use Rattle.program_walk.specs.Steps.{row_steps}
use Rattle.program_walk.proofs.Turns.{Going}
use Rattle.program_walk.proofs.walk.+parts_end.Given as goal

abbrev pub decreases-parts_end : goal.decreases-parts_end
decreases-parts_end l = parts l.s.now - l.p

abbrev pub invariant-loop : goal.invariant-loop
invariant-loop l = Going l.s l.outer l.depth l.steps l.p l.q (l.count - l.counter) (parts_end File l.s any_end (max_depth - l.outer) l.count l.p) (l.initial.steps + length (row_steps l.s l.outer l.count l.p))
