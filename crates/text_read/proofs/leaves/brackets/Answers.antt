-- `brackets` meets its contract: at each turn so many brackets stand before the place.
use Rattle.text_read.proofs.Plain.{bracket_none, bracket_more, bracket_less}
use Rattle.text_read.proofs.leaves.brackets.Goals as goal

pub loop-place-init : goal.loop-place-init
loop-place-init c = search bracket_none

pub loop-place-smaller : goal.loop-place-smaller
loop-place-smaller c = search bracket_less

pub loop-place-preserved : goal.loop-place-preserved
loop-place-preserved c = search bracket_more
