-- `store_marks` meets its contract: at each turn the parts from p on are settled, and the lowest marked of them are known.
use native.Mathlib.Omega.{arith}
use Rattle.run_marks.proofs.Settling.{settle_starts, settle_step}
use Rattle.run_marks.proofs.settled.Settling.store_marks.Goals as goal

pub loop-p-init : goal.loop-p-init
loop-p-init c = (omega (arith, c.parts-parts.ensures), settle_starts _ _ _ _ _ c.parts-parts.ensures)

pub loop-p-preserved : goal.loop-p-preserved
loop-p-preserved c = (
  omega (arith, c.loop-p.invariant.0),
  settle_step _ _ _ _ _ _ _ _ _ c.args.self.table.checked (omega (arith, c.loop-p-test.true)) c.loop-p.invariant.0 c.loop-p.invariant.1 c.settle_part-low.ensures.value c.settle_part-low.ensures.m_after,
)
