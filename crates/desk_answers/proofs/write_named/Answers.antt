-- `write_named` meets its contract: a variable's number, or that there is none.
use Rattle.desk_format.proofs.Pages.{adds_same}
use Rattle.desk_answers.proofs.Answering.{named_none, named_one}
use Rattle.desk_answers.proofs.write_named.Goals as goal

pub returns-then-v-eq-NO_VARIABLE : goal.returns-then-v-eq-NO_VARIABLE
returns-then-v-eq-NO_VARIABLE c = adds_same (named_none c.if-v-eq-NO_VARIABLE.true) c.word.ensures

pub returns-else-v-eq-NO_VARIABLE : goal.returns-else-v-eq-NO_VARIABLE
returns-else-v-eq-NO_VARIABLE c = adds_same (named_one c.if-v-eq-NO_VARIABLE.false) (rw c.into.ensures at c.numbered.ensures)
