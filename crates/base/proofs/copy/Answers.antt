-- `copy` meets its contract. The loop's invariant: the bytes still to be copied, stored onto what is there now, give the whole.
use Rattle.base.proofs.Stores.{copy_step}
use Rattle.base.proofs.copy.Goals as goal

pub loop-j-preserved : goal.loop-j-preserved
loop-j-preserved c =
    copy_step _ _ _ _ _ _ _ c.loop-j.invariant _ _ c.loop-j-test.true c.at.ensures c.put.ensures c.put.auto.s
