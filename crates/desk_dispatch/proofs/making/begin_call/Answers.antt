-- `begin_call` meets its contract: the answer of `begin` is written, and the count follows from it.
use Rattle.desk_format.proofs.Pages.{adds_same}
use Rattle.desk_dispatch.proofs.Calls.{begin_counted, begin_told}
use Rattle.desk_dispatch.proofs.making.begin_call.Goals as goal

pub returns-clause-count : goal.returns-clause-count
returns-clause-count c = begin_counted _ _ _ _ _ c.begin-answer.ensures _ _ c.after_begin.ensures

pub returns-clause-written : goal.returns-clause-written
returns-clause-written c = adds_same (begin_told _ _ _ _ _ c.begin-answer.ensures) c.write_begun.ensures
