-- `one_more` meets its contract: the count saturates.
use Rattle.desk_dispatch.proofs.Counted.{more_saturates}
use mathlib.Core.Path.{◌∙◌}
use Rattle.desk_dispatch.proofs.counting.one_more.Goals as goal

pub returns : goal.returns
returns c = c.saturating_add.ensures ∙ more_saturates _ c.ranges.n.fits
