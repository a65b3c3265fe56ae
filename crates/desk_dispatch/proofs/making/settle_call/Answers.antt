-- `settle_call` meets its contract: the answer of `settle` is written, and the count follows from it.
use Rattle.desk_format.proofs.Pages.{adds_same}
use Rattle.desk_dispatch.proofs.Calls.{settle_counted_at, settle_told}
use Rattle.desk_dispatch.proofs.making.settle_call.Goals as goal

pub returns-clause-count : goal.returns-clause-count
returns-clause-count c = settle_counted_at _ _ _ _ _ c.settle-answer.ensures _ _ c.after_settle.ensures

pub returns-clause-written : goal.returns-clause-written
returns-clause-written c = adds_same (settle_told _ _ _ _ _ c.settle-answer.ensures) c.write_settled.ensures
