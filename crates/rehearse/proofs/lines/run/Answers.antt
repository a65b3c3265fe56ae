-- `run` meets its contract: at each turn those before it were taken, each while the run went on.
use Rattle.rehearse.specs.Standing.{begun}
use Rattle.rehearse.proofs.Turns.{ran_stands, going_on, turn_more}
use Rattle.rehearse.proofs.lines.run.Goals as goal

pub loop-init : goal.loop-init
loop-init c = rw c.start-s.ensures begun

pub turn-s-requires : goal.turn-s-requires
turn-s-requires c = ran_stands _ _ _ _ _ _ _ _ c.loop.invariant

pub loop-preserved : goal.loop-preserved
loop-preserved c = turn_more _ _ _ _ _ _ _ _ c.loop.invariant _ _ _ (going_on _ c.if-not-s.false) c.turn-s.ensures
