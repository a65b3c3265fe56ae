-- `accepted` meets its contract: one law of Offering for each answer.
use mathlib.Core.Path.{sym, ap, ◌∙◌}
use Rattle.std.proofs.lemmas.Result.{err_from_is_err_and}
use Rattle.meaning.specs.Program.{variables}
use Rattle.meaning.specs.Record.{last_time}
use Rattle.run_offer.proofs.Offering.{refused_early, offered_already, too_early, no_room, none_refuses}
use Rattle.run_offer.proofs.accepted.Goals as goal

pub returns-in_err-table-clause-refused : goal.returns-in_err-table-clause-refused
returns-in_err-table-clause-refused c =
    let p = err_from_is_err_and c.from_residual.result c.from_residual.ensures.1 in
    rw (p.1, p.2) (refused_early c.args.t.now c.args.r.now c.args.time c.args.room _ c.in_err-table.ensures.refused)

pub returns-then-phase-eq-OFFERED-clause-refused :
    goal.returns-then-phase-eq-OFFERED-clause-refused
returns-then-phase-eq-OFFERED-clause-refused c =
    offered_already c.args.t.now c.args.r.now c.args.time c.args.room c.in_ok-table.ensures.accepted.2 _ c.phase.ensures c.if-phase-eq-OFFERED.true

pub returns-then-time-last_time-clause-refused : goal.returns-then-time-last_time-clause-refused
returns-then-time-last_time-clause-refused c =
    let run = c.in_ok-table.ensures.accepted in
    too_early c.args.t.now c.args.r.now c.args.time c.args.room run.2 _ c.phase.ensures c.if-phase-eq-OFFERED.false _ (c.last_time.ensures ∙ ap (λ r. last_time r.now) run.1) c.if-time-last_time.true

pub returns-then-room-from-clause-refused : goal.returns-then-room-from-clause-refused
returns-then-room-from-clause-refused c =
    let run = c.in_ok-table.ensures.accepted in
    no_room c.args.t.now c.args.r.now c.args.time c.args.room run.2 _ c.phase.ensures c.if-phase-eq-OFFERED.false _ (c.last_time.ensures ∙ ap (λ r. last_time r.now) run.1) _ _ (c.variables.ensures ∙ ap (λ t. variables t.now) run.0) c.from.ensures c.if-time-last_time.false c.if-room-from.true

pub returns-clause-ok : goal.returns-clause-ok
returns-clause-ok c =
    let run = c.in_ok-table.ensures.accepted in
    (run.0, sym (none_refuses c.args.t.now c.args.r.now c.args.time c.args.room run.2 _ c.phase.ensures c.if-phase-eq-OFFERED.false _ (c.last_time.ensures ∙ ap (λ r. last_time r.now) run.1) _ _ (c.variables.ensures ∙ ap (λ t. variables t.now) run.0) c.from.ensures c.if-time-last_time.false c.if-room-from.false))
