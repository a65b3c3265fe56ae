-- `accepted` meets its contract: one law of Answering for each answer.
use Rattle.std.proofs.lemmas.Result.{err_from_is_err_and}
use Rattle.run_settle.proofs.Answering.{not_running, is_waiting, not_estimate, none_early}
use Rattle.run_settle.proofs.accepted.Goals as goal

pub returns-in_err-run-clause-refused : goal.returns-in_err-run-clause-refused
returns-in_err-run-clause-refused c =
    let p = err_from_is_err_and c.from_residual.result c.from_residual.ensures.1 in
    rw (p.1, p.2) (not_running _ _ c.args.est.now _ c.in_err-run.ensures.refused)

pub returns-then-phase-eq-WAITING-clause-refused : goal.returns-then-phase-eq-WAITING-clause-refused
returns-then-phase-eq-WAITING-clause-refused c =
    is_waiting _ _ c.args.est.now c.in_ok-run.ensures.accepted.2 _ c.phase.ensures c.if-phase-eq-WAITING.true

pub returns-then-not-estimate_allowed-clause-refused : goal.returns-then-not-estimate_allowed-clause-refused
returns-then-not-estimate_allowed-clause-refused c =
    not_estimate _ _ _ c.in_ok-run.ensures.accepted.2 _ c.phase.ensures c.if-phase-eq-WAITING.false _ c.estimate_allowed.ensures c.if-not-estimate_allowed.true

pub returns-clause-ok : goal.returns-clause-ok
returns-clause-ok c =
    let run = c.in_ok-run.ensures.accepted in
    (run.0, run.1, none_early _ _ _ run.2 _ c.phase.ensures c.if-phase-eq-WAITING.false _ c.estimate_allowed.ensures c.if-not-estimate_allowed.false)
