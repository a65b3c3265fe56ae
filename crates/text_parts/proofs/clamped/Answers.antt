-- `clamped` meets its contract: a byte holds the number, or none does.
use mathlib.Core.Path.{◌∙◌}
use Rattle.text_parts.proofs.Storing.{clamped_lem}
use Rattle.text_parts.proofs.clamped.Goals as goal

pub returns : goal.returns
returns c = c.unwrap_or.ensures ∙ clamped_lem _ _ c.try_from.ensures
