-- `parts_end` meets its contract, as that of `walk` does, with each end compared. The measure is the parts that are left; the loop's invariant: the parts that are left end where all of them do.
use Prim.Native.Nat.{◌+◌, ◌-◌}
use Rattle.meaning.specs.declared.Form.TheVariants.{Table}
use Rattle.meaning.specs.Sizes.{max_depth}
use Rattle.meaning.specs.Program.{parts}
use Rattle.program_walk.specs.Walk.{parts_end}
use Rattle.program_table.specs.Checking.{end_stored}
use Rattle.program_walk.proofs.Walking.{Walking}
use Rattle.program_table.proofs.checking.+parts_end.Given as goal

abbrev pub decreases-parts_end : goal.decreases-parts_end
decreases-parts_end l = parts l.t.now - l.p

abbrev pub invariant-loop : goal.invariant-loop
invariant-loop l = Walking Table l.t (end_stored l.t) (max_depth - (l.outer + 1)) l.p l.q (l.count - l.counter) (parts_end Table l.t (end_stored l.t) (max_depth - l.outer) l.count l.p)
