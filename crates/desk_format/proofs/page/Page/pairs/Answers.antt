-- `pairs` meets its contract: at each turn the bytes before this one are written.
use native.Mathlib.Omega.{arith}
use Rattle.desk_format.proofs.Pages.{texts_none, texts_next, pairs_whole}
use Rattle.desk_format.proofs.page.Page.pairs.Goals as goal

pub loop-k-init : goal.loop-k-init
loop-k-init c = (omega arith, texts_none _ _ (omega arith))

pub loop-k-preserved : goal.loop-k-preserved
loop-k-preserved c = (omega arith, texts_next _ c.loop-k.invariant.0 c.loop-k.invariant.1 (rw (← c.at.ensures) c.pair.ensures))

pub returns : goal.returns
returns c = pairs_whole _ _ _ (omega arith) c.loop-k.invariant.1
