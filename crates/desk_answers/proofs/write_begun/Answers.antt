-- `write_begun` meets its contract: each answer has its line.
use Rattle.desk_format.proofs.Pages.{adds_same}
use Rattle.desk_answers.proofs.Answering.{begun_done_text, begun_refused_text}
use Rattle.desk_answers.proofs.write_begun.Goals as goal

pub returns-in-Ok : goal.returns-in-Ok
returns-in-Ok c = adds_same (begun_done_text c.in-Ok.is) c.word.ensures

pub returns-in-Err : goal.returns-in-Err
returns-in-Err c = adds_same (begun_refused_text c.in-Err.is) c.write_refused.ensures
