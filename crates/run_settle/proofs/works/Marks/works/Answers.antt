-- `works` meets its contract: at each turn something is left in the CHOICE that is kept or in the parts to come exactly where something is left at all.
use Rattle.run_settle.proofs.Deciding.{works_next}
use Rattle.run_settle.proofs.works.Marks.works.Goals as goal

pub loop-p-preserved : goal.loop-p-preserved
loop-p-preserved c =
    works_next _ _ _ _ c.parts-p-end.ensures _ _ _ c.loop-p-test.true c.shows.ensures c.loop-p.invariant _ c.if-shows.false c.pending_after-pending.ensures
