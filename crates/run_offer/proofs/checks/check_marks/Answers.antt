-- `check_marks` meets its contract: at each turn, what the parts that are left do to the record as it is now gives the whole.
use mathlib.Core.Path.{refl, ◌∙◌}
use Rattle.run_offer.proofs.Checking.{checked_start, checked_step, checked_end}
use Rattle.run_offer.proofs.checks.check_marks.Goals as goal

pub loop-p-init : goal.loop-p-init
loop-p-init c = (refl, search checked_start)

pub loop-p-preserved : goal.loop-p-preserved
loop-p-preserved c = (
  c.check_part-skip.auto.r ∙ c.loop-p.invariant.0,
  checked_step _ _ _ _ _ _ _ _ _ c.args.t.checked c.parts-p-end.ensures c.loop-p-test.true c.check_part-skip.ensures.r_after c.check_part-skip.ensures.value c.loop-p.invariant.1,
)

pub returns : goal.returns
returns c = search checked_end
