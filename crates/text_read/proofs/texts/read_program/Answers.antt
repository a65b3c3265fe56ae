-- `read_program` meets its contract: one law for each return.
use mathlib.Core.Path.{refl, sym, ◌∙◌}
use Rattle.text_read.proofs.Whole.{more_text, whole_text, no_body_lem}
use Rattle.text_read.proofs.texts.read_program.Goals as goal

pub returns-in_err-end : goal.returns-in_err-end
returns-in_err-end c = no_body_lem _ _ _ _ _ _ _ c.in_err-end.ensures.does c.in_err-end.ensures.moves _ c.from_residual.ensures.1

pub returns-then-goes_on : goal.returns-then-goes_on
returns-then-goes_on c = more_text _ _ _ _ _ _ _ c.in_ok-end.ensures.does _ refl (sym c.goes_on.ensures ∙ c.if-goes_on.true) c.in_ok-end.ensures.moves

pub returns : goal.returns
returns c = whole_text _ _ _ _ _ _ _ c.in_ok-end.ensures.does _ refl (sym c.goes_on.ensures ∙ c.if-goes_on.false)
