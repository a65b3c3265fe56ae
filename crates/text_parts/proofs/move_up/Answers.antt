-- `move_up` meets its contract. The loop's invariant: the bytes from place i on stand a part's length above, all others as before.
use mathlib.Core.Path.{refl}
use native.Mathlib.Omega.{arith}
use Rattle.text_parts.proofs.Room.{move_step}
use Rattle.text_parts.proofs.move_up.Goals as goal

pub loop-i-preserved : goal.loop-i-preserved
loop-i-preserved c =
    move_step _ _ _ _ _ c.loop-i.invariant _ _ _ c.loop-i-test.true (omega arith) refl c.put.ensures c.put.auto.s
