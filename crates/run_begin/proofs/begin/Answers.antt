-- `begin` meets its contract: one law of Beginning for each answer.
use Rattle.std.proofs.lemmas.Result.{err_from_is_err_and}
use Rattle.run_begin.proofs.Beginning.{begin_no_table, begin_no_estimate, begin_short, begin_not_refused, begin_done}
use Rattle.run_begin.proofs.begin.Goals as goal

pub returns-in_err-table : goal.returns-in_err-table
returns-in_err-table c =
    let p = err_from_is_err_and c.from_residual.result c.from_residual.ensures.1 in
    rw (p.1, p.2) (begin_no_table _ _ _ _ c.in_err-table.ensures.err)

pub returns-then-not-estimate_allowed : goal.returns-then-not-estimate_allowed
returns-then-not-estimate_allowed c =
    begin_no_estimate _ _ _ (rw c.in_ok-table.ensures.ok at c.in_ok-table.table.checked) _ c.estimate_allowed.ensures c.if-not-estimate_allowed.true

pub returns-then-r-lt-RECORD : goal.returns-then-r-lt-RECORD
returns-then-r-lt-RECORD c =
    begin_short _ _ _ (rw c.in_ok-table.ensures.ok at c.in_ok-table.table.checked) _ c.estimate_allowed.ensures c.if-not-estimate_allowed.false c.if-r-lt-RECORD.true

pub write_fresh_record-requires : goal.write_fresh_record-requires
write_fresh_record-requires c =
    rw c.in_ok-table.ensures.ok (begin_not_refused _ _ _ (rw c.in_ok-table.ensures.ok at c.in_ok-table.table.checked) _ c.estimate_allowed.ensures c.if-not-estimate_allowed.false c.if-r-lt-RECORD.false)

pub returns : goal.returns
returns c =
    begin_done _ _ _ (rw c.in_ok-table.ensures.ok at c.in_ok-table.table.checked) _ c.estimate_allowed.ensures c.if-not-estimate_allowed.false _ c.if-r-lt-RECORD.false (rw c.in_ok-table.ensures.ok at c.write_fresh_record.ensures)
