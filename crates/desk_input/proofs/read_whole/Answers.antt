-- `read_whole` meets its contract, and ends: a read that brings nothing ends it, and any other leaves less room.
use native.Mathlib.Omega.{arith}
use mathlib.Core.Path.{refl}
use Rattle.desk_input.specs.Reading.{none, full}
use Rattle.desk_input.proofs.Brought.{filled_inside, read_failed, nothing_brought, less_room, more_brought}
use Rattle.desk_input.proofs.read_whole.Goals as goal

pub loop-n-init : goal.loop-n-init
loop-n-init g c = none

pub returns-in_err-k : goal.returns-in_err-k
returns-in_err-k g c = read_failed _ _ _ _ _ c.loop-n.invariant c.loop-n-test.true c.read_piece.ensures _ c.in_err-k.was c.from_residual.ensures

pub returns-then-k-n : goal.returns-then-k-n
returns-then-k-n g c = nothing_brought _ _ _ _ _ c.loop-n.invariant c.loop-n-test.true c.read_piece.ensures _ c.in_ok-k.was c.if-k-n.true

pub loop-n-smaller : goal.loop-n-smaller
loop-n-smaller g c = less_room _ _ _ _ _ c.loop-n.invariant c.loop-n-test.true c.read_piece.ensures _ c.in_ok-k.was c.if-k-n.false

pub loop-n-preserved : goal.loop-n-preserved
loop-n-preserved g c = more_brought _ _ _ _ _ c.loop-n.invariant c.loop-n-test.true c.read_piece.ensures _ c.in_ok-k.was c.if-k-n.false

pub returns : goal.returns
returns g c = full _ c.loop-n.invariant (omega (arith, (filled_inside _ _ _ c.loop-n.invariant).1, c.loop-n-test.false)) refl
