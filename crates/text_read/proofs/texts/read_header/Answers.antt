-- `read_header` meets its contract: one law for each return.
use mathlib.Core.Path.{refl}
use Rattle.text_read.proofs.Whole.{no_variables, no_clocks, no_colon, header_read}
use Rattle.text_read.proofs.texts.read_header.Goals as goal

pub returns-in_err-variables : goal.returns-in_err-variables
returns-in_err-variables c = no_variables _ _ _ c.after-second.ensures c.after-third.ensures _ _ c.in_err-variables.ensures c.from_residual.ensures.1

pub returns-in_err-clocks : goal.returns-in_err-clocks
returns-in_err-clocks c = no_clocks _ _ _ c.after-second.ensures c.after-third.ensures _ _ c.in_ok-variables.ensures _ c.in_err-clocks.ensures c.from_residual-in_err-clocks.ensures.1

pub returns-then-not-stands_at : goal.returns-then-not-stands_at
returns-then-not-stands_at c = no_colon _ _ _ c.after-second.ensures c.after-third.ensures _ _ c.in_ok-variables.ensures _ c.in_ok-clocks.ensures _ c.stands_at.ensures c.if-not-stands_at.true refl

pub returns : goal.returns
returns c = header_read _ _ _ c.after-second.ensures c.after-third.ensures _ _ c.in_ok-variables.ensures _ c.in_ok-clocks.ensures _ c.stands_at.ensures _ c.if-not-stands_at.false c.after.ensures refl
