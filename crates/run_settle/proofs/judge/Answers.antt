-- `judge` meets its contract: one law of Answering for each answer.
use mathlib.Core.Path.{◌∙◌}
use Rattle.std.proofs.lemmas.Result.{err_from_is_err_and}
use Rattle.run_settle.proofs.Answering.{judged_early, is_estimate, is_room, judged_done, judged_stuck}
use Rattle.run_settle.proofs.judge.Goals as goal

pub returns-in_err-table-clause-refused : goal.returns-in_err-table-clause-refused
returns-in_err-table-clause-refused c =
    let p = err_from_is_err_and c.from_residual.result c.from_residual.ensures.1 in
    rw (p.1, p.2) (judged_early _ _ _ _ _ c.in_err-table.ensures.refused)

pub invariant_of-settling : goal.invariant_of-settling
invariant_of-settling c =
    let run = c.in_ok-table.ensures.ok in
    record { estimated = rw run.0 (is_estimate _ _ _ run.2) }

pub store_marks-requires : goal.store_marks-requires
store_marks-requires c =
    let run = c.in_ok-table.ensures.ok in
    rw run.0 (is_room _ _ _ run.2 _ c.requires)

pub invariant_of-may_be_left : goal.invariant_of-may_be_left
invariant_of-may_be_left c =
    let run = c.in_ok-table.ensures.ok in
    record { long = rw run.0 (is_room _ _ _ run.2 _ (c.store_marks.auto.m ∙ c.requires)) }

pub returns-then-may_be_left-clause-ok : goal.returns-then-may_be_left-clause-ok
returns-then-may_be_left-clause-ok c =
    let run = c.in_ok-table.ensures.ok in
    (run.0, judged_done _ _ _ run.2 _ _ _ c.requires (rw (run.0, run.1) at c.store_marks.ensures) (rw run.0 at c.may_be_left.ensures) c.if-may_be_left.true)

pub returns-else-may_be_left-clause-refused : goal.returns-else-may_be_left-clause-refused
returns-else-may_be_left-clause-refused c =
    let run = c.in_ok-table.ensures.ok in
    judged_stuck _ _ _ run.2 _ _ _ c.requires (rw (run.0, run.1) at c.store_marks.ensures) (rw run.0 at c.may_be_left.ensures) c.if-may_be_left.false
