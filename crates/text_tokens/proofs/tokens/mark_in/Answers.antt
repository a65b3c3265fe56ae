-- `mark_in` meets its contract: the mark that begins as the run does is the run's, or none is.
use mathlib.Core.Path.{sym, ◌∙◌}
use Rattle.text_tokens.proofs.Marks.{mark_begun}
use Rattle.text_tokens.proofs.tokens.mark_in.Goals as goal

pub returns : goal.returns
returns c = mark_begun _ _ _ _ c.in-len1-up.len_at_least (sym c.in_ok-mark.was ∙ c.mark_from.ensures) c.spells.ensures c.then_some.ensures
