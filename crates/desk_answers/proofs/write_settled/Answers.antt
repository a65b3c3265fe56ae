-- `write_settled` meets its contract: each answer has its line.
use Rattle.std.proofs.Common.{rules}
use Rattle.desk_format.proofs.Pages.{adds_same}
use Rattle.desk_answers.proofs.Answering.{by_progress, settled_refused_text, settled_running_text, settled_finished_text}
use Rattle.desk_answers.proofs.write_settled.Goals as goal

pub returns-in-Ok-Running : goal.returns-in-Ok-Running
returns-in-Ok-Running c = adds_same (settled_running_text (by_progress c.in-Ok-Running.is (search rules))) c.word.ensures

pub returns-in-Ok-Finished : goal.returns-in-Ok-Finished
returns-in-Ok-Finished c = adds_same (settled_finished_text (by_progress c.in-Ok-Finished.is (search rules))) c.word-in-Ok-Finished.ensures

pub returns-in-Err : goal.returns-in-Err
returns-in-Err c = adds_same (settled_refused_text c.in-Err.is) c.write_refused.ensures
