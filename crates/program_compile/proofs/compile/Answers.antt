-- `compile` meets its contract: one law of Compiling for each answer.
use mathlib.Core.Path.{sym}
use Rattle.std.proofs.lemmas.Result.{err_from_is_err_and}
use Rattle.program_compile.proofs.Compiling.{compile_refused, compile_short, compile_done}
use Rattle.program_compile.proofs.compile.Goals as goal

pub returns-in_err-program_refusal-clause-result_value : goal.returns-in_err-program_refusal-clause-result_value
returns-in_err-program_refusal-clause-result_value c =
    let p = err_from_is_err_and c.from_residual.result c.from_residual.ensures.1 in
    rw (p.1, p.2) (compile_refused _ _ _ c.in_err-program_refusal.ensures).0

pub returns-in_err-program_refusal-clause-table_after : goal.returns-in_err-program_refusal-clause-table_after
returns-in_err-program_refusal-clause-table_after c = (compile_refused _ _ _ c.in_err-program_refusal.ensures).1

pub returns-then-table-length_of-clause-result_value : goal.returns-then-table-length_of-clause-result_value
returns-then-table-length_of-clause-result_value c =
    (compile_short _ _ _ _ (sym c.in_ok-program_refusal.ensures) c.parts.ensures c.length_of.ensures c.if-table-length_of.true).0

pub returns-then-table-length_of-clause-table_after : goal.returns-then-table-length_of-clause-table_after
returns-then-table-length_of-clause-table_after c =
    (compile_short _ _ _ _ (sym c.in_ok-program_refusal.ensures) c.parts.ensures c.length_of.ensures c.if-table-length_of.true).1

pub returns-clause-result_value : goal.returns-clause-result_value
returns-clause-result_value c =
    (compile_done _ _ _ _ (sym c.in_ok-program_refusal.ensures) c.parts.ensures c.length_of.ensures _ c.if-table-length_of.false c.write_table.ensures).0

pub returns-clause-table_after : goal.returns-clause-table_after
returns-clause-table_after c =
    (compile_done _ _ _ _ (sym c.in_ok-program_refusal.ensures) c.parts.ensures c.length_of.ensures _ c.if-table-length_of.false c.write_table.ensures).1
