-- `offer_call` meets its contract: it lends the beginning of a buffer of zeros.
use Rattle.desk_dispatch.specs.Making.{max_goals}
use Rattle.desk_format.proofs.Pages.{adds_same}
use Rattle.desk_dispatch.proofs.Calls.{offer_lent}
use Rattle.desk_dispatch.proofs.making.offer_call.Goals as goal

pub returns-clause-written : goal.returns-clause-written
returns-clause-written c = adds_same (offer_lent _ _ _ _ max_goals c.requires) c.offer_into.ensures.written
