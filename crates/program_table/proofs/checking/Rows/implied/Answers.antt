-- `implied` meets its contract: three bytes of a row are the links, and every other is what the row itself holds.
use Rattle.program_table.proofs.RowChecks.{implied_own}
use Rattle.program_table.proofs.checking.Rows.implied.Goals as goal

pub returns-in_default : goal.returns-in_default
returns-in_default c = search implied_own
