-- `open_program` meets its contract: one law for each answer.
use Rattle.desk_rehearsal.proofs.Opens.{open_done, open_refused}
use Rattle.desk_rehearsal.proofs.opening.open_program.Goals as goal

pub returns-in-Ok : goal.returns-in-Ok
returns-in-Ok c = search open_done

pub returns-in-Err : goal.returns-in-Err
returns-in-Err c = search open_refused
