-- `copy_over` meets its contract.
use native.Mathlib.Omega.{arith}
use native.Mathlib.Nat.{zero-add}
use mathlib.Core.Path.{refl}
use lib.ListN.{length, get_or, set, length-set}
use Rattle.base.proofs.Stores.{copy_step, copied_over}
use Rattle.base.proofs.copy_over.Goals as goal

pub loop-j-preserved : goal.loop-j-preserved
loop-j-preserved c =
    copy_step c.args.src.now 0 _ 0 (length c.args.src.now) c.loop-j.dst c.loop-j.j c.loop-j.invariant (set c.loop-j.dst c.loop-j.j (get_or c.args.src.now c.loop-j.j 0)) (get_or c.args.src.now c.loop-j.j 0) (omega (arith, c.loop-j-test.true)) (rw zero-add refl) (rw zero-add refl) (length-set _ _ _)

pub returns : goal.returns
returns c = copied_over _ _ _ _ c.loop-j.invariant (omega (arith, c.loop-j-test.false)) c.requires
