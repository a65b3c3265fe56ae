-- `transition` meets its contract: each kind has its arm, and what it asks of the operand the entry allows.
use Rattle.run_marks.proofs.Judged.{goal_inside, goal_judged, wait_fits, choice_fits}
use Rattle.run_marks.proofs.transitions.transition.Goals as goal

pub has_value-requires : goal.has_value-requires
has_value-requires c = goal_inside _ _ _ c.requires _ c.from.ensures _ c.args.sit.estimated c.in-Goal.is

pub satisfied-requires : goal.satisfied-requires
satisfied-requires c = wait_fits _ _ _ c.requires _ c.from.ensures c.in-Wait.is

pub of_choice-requires : goal.of_choice-requires
of_choice-requires c = choice_fits _ _ _ c.requires _ c.from.ensures c.in-Choice.is

pub returns-in-Goal : goal.returns-in-Goal
returns-in-Goal c = goal_judged _ _ _ c.requires _ c.from.ensures _ _ _ _ _ c.in-Goal.is c.has_value.ensures c.ends_if.ensures
