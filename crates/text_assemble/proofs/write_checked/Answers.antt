-- `write_checked` meets its contract: one law for each answer.
use Rattle.text_assemble.proofs.Operation.{checked_refused, checked_short, checked_done}
use Rattle.text_assemble.proofs.write_checked.Goals as goal

pub returns-in_err-program_refusal : goal.returns-in_err-program_refusal
returns-in_err-program_refusal c = checked_refused _ _ _ c.requires _ c.in_err-program_refusal.ensures _ c.from_residual.ensures.1

pub returns-then-file-size : goal.returns-then-file-size
returns-then-file-size c = checked_short _ _ _ c.requires c.in_ok-program_refusal.ensures c.if-file-size.true

pub returns : goal.returns
returns c = checked_done _ _ _ c.requires c.in_ok-program_refusal.ensures _ c.if-file-size.false (rw c.copy_from_slice.ensures.after)
