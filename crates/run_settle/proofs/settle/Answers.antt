-- `settle` meets its contract: one law of Answering for each answer.
use native.Mathlib.Omega.{arith}
use Rattle.std.proofs.lemmas.Result.{err_from_is_err_and}
use Rattle.program_part.proofs.Places.{parts_fit}
use Rattle.run_settle.proofs.Answering.{settled_refused, commit_long, commit_estimate, settled_finished, settled_running}
use Rattle.run_settle.proofs.settle.Goals as goal

pub returns-in_err-table : goal.returns-in_err-table
returns-in_err-table c =
    let p = err_from_is_err_and c.from_residual.result c.from_residual.ensures.1 in
    rw (p.1, p.2) (settled_refused _ _ _ _ _ c.in_err-table.ensures.refused)

pub commit-requires-clause-record_length_in_bounds : goal.commit-requires-clause-record_length_in_bounds
commit-requires-clause-record_length_in_bounds c = commit_long _ _ _ _ c.in_ok-table.ensures.ok.1

pub commit-requires-clause-t_in_bounds : goal.commit-requires-clause-t_in_bounds
commit-requires-clause-t_in_bounds c = omega (arith, parts_fit _ c.in_ok-table.table.checked)

pub commit-requires-clause-est_value : goal.commit-requires-clause-est_value
commit-requires-clause-est_value c =
    let judged = c.in_ok-table.ensures.ok in
    rw judged.0 (commit_estimate _ _ _ _ judged.1)

pub returns-then-root_ended : goal.returns-then-root_ended
returns-then-root_ended c =
    let judged = c.in_ok-table.ensures.ok in
    settled_finished _ _ _ _ judged.1 _ _ (rw judged.0 at c.commit.ensures) c.root_ended.ensures c.if-root_ended.true

pub returns-else-root_ended : goal.returns-else-root_ended
returns-else-root_ended c =
    let judged = c.in_ok-table.ensures.ok in
    settled_running _ _ _ _ judged.1 _ _ (rw judged.0 at c.commit.ensures) c.root_ended.ensures c.if-root_ended.false
