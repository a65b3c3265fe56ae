-- `merge_all` meets its contract: at each turn, the values of the leaves that are left, merged into the bytes as they are now, give the whole.
use mathlib.Core.Path.{◌∙◌}
use Rattle.run_goals.proofs.Merging.{merge_step, merge_end}
use Rattle.run_goals.proofs.goals.merge_all.Goals as goal

pub loop-p-preserved : goal.loop-p-preserved
loop-p-preserved c = (
  c.merge_part.auto.g ∙ c.loop-p.invariant.0,
  merge_step _ _ _ _ _ _ c.parts-p-end.ensures _ c.loop-p-test.true c.merge_part.ensures c.loop-p.invariant.1,
)

pub returns : goal.returns
returns c = search merge_end
