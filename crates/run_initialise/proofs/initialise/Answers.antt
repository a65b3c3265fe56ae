-- `initialise` meets its contract. The loop's invariant: the marks still to come, stored onto what is there now, give the whole.
use native.Mathlib.Omega.{arith}
use mathlib.Core.Path.{refl, ◌∙◌}
use borrow.Author.Rules.{rules}
use Rattle.program_part.proofs.Places.{parts_fit}
use Rattle.run_initialise.proofs.Initialising.{turn_there, initial_starts, initial_next, initial_ends}
use Rattle.run_initialise.proofs.initialise.Goals as goal

pub overflow_step-p : goal.overflow_step-p
overflow_step-p c = omega (arith, parts_fit _ c.args.t.checked, c.requires.q_bound)

pub initialise_step-skip-requires-clause-p_bound : goal.initialise_step-skip-requires-clause-p_bound
initialise_step-skip-requires-clause-p_bound c =
    turn_there _ _ c.args.t.checked c.requires.q_bound _ _ c.end-p-end.ensures c.loop-p-test.true

pub loop-p-preserved : goal.loop-p-preserved
loop-p-preserved c = (
  search rules,
  (
    c.initialise_step-skip.auto.m ∙ c.loop-p.invariant.1.0,
    initial_next _ _ _ _ _ _ _ _ _ c.loop-p-test.true c.initialise_step-skip.ensures c.loop-p.invariant.1.1,
  ),
)

pub returns : goal.returns
returns c =
    initial_ends _ _ _ _ _ _ _ c.loop-p-test.false c.loop-p.invariant.1.1
    ∙ initial_starts _ _ _ _ _ _ _ c.from.ensures c.end-p-end.ensures refl
