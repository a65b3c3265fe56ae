-- `offer_into` meets its contract: the answer of `offer` is written with the goal bytes that it has left.
use Rattle.desk_format.proofs.Pages.{adds_same}
use Rattle.desk_dispatch.proofs.Calls.{offer_told}
use Rattle.desk_dispatch.proofs.making.offer_into.Goals as goal

pub returns-clause-written : goal.returns-clause-written
returns-clause-written c = adds_same (offer_told _ _ _ _ _ _ _ c.offer-answer.ensures.offered _ c.variables.ensures) c.write_offered.ensures
