-- `write_offered` meets its contract: each answer has its line.
use Rattle.desk_format.proofs.Pages.{adds_same}
use Rattle.desk_answers.proofs.Answering.{offered_refused, offered_named}
use Rattle.desk_answers.proofs.write_offered.Goals as goal

pub returns-in-Ok : goal.returns-in-Ok
returns-in-Ok c = adds_same (offered_named _ c.in-Ok.is) (rw (← c.unwrap_or.ensures) c.write_goals_text.ensures)

pub returns-in-Err : goal.returns-in-Err
returns-in-Err c = adds_same (offered_refused _ c.in-Err.is) c.write_refused.ensures
