-- `walk` meets its contract: the walk comes to the root first, with all of its steps ahead.
use Rattle.program_walk.proofs.Turns.{root_next, root_steps}
use Rattle.program_walk.proofs.walk.walk.Goals as goal

pub parts_end-end-requires-clause-next : goal.parts_end-end-requires-clause-next
parts_end-end-requires-clause-next c =
    root_next _ _ c.requires

pub returns-clause-steps_value : goal.returns-clause-steps_value
returns-clause-steps_value c =
    (root_steps _ _ _ c.requires c.parts_end-end.ensures.steps_after).0

pub returns-clause-steps_bound : goal.returns-clause-steps_bound
returns-clause-steps_bound c =
    (root_steps _ _ _ c.requires c.parts_end-end.ensures.steps_after).1
