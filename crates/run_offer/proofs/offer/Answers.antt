-- `offer` meets its contract: a refused offer writes nothing, and any other is made.
use mathlib.Core.Path.{ap, subst, ◌∙◌}
use lib.ListN.{length}
use Rattle.std.specs.Prelude.{Ok}
use Rattle.std.proofs.lemmas.Result.{err_from_is_err_and}
use Rattle.meaning.specs.Cycle.{offer_refusal}
use Rattle.meaning.specs.Answers.{offer_number}
use Rattle.meaning.specs.Operations.{Offered}
use Rattle.run_offer.proofs.Offering.{offer_refused, offer_made_lem}
use Rattle.run_offer.proofs.offer.Goals as goal

pub returns-in_err-table-clause-offered : goal.returns-in_err-table-clause-offered
returns-in_err-table-clause-offered c =
    let p = err_from_is_err_and c.from_residual.result c.from_residual.ensures.1 in
    rw (p.1, p.2) (offer_refused c.args.t.now c.args.r.now c.args.goals.now c.args.time _ c.in_err-table.ensures.refused)

pub returns-clause-offered : goal.returns-clause-offered
returns-clause-offered c =
    let same = c.in_ok-table.ensures.ok.0 in
    let free = ap (λ t. offer_refusal t.now c.args.r.now c.args.time (length c.args.goals.now)) same ∙ c.in_ok-table.ensures.ok.1 in
    let made = offer_made_lem c.in_ok-table.table.bytes.now c.args.r.now c.args.goals.now _ _ c.args.time _ free c.make_offer.ensures.result_value c.make_offer.ensures.r_after c.make_offer.ensures.goals_after in
    subst (λ t. Offered t.now c.args.r.now c.args.time c.args.goals.now (offer_number (Ok c.make_offer.result)) c.make_offer.new.r c.make_offer.new.goals) same made
