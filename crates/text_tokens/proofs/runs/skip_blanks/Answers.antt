-- `skip_blanks` meets its contract: the blanks that are counted are passed.
use Rattle.text_tokens.proofs.Ends.{skipped_lem}
use Rattle.text_tokens.proofs.runs.skip_blanks.Goals as goal

pub returns : goal.returns
returns c = search skipped_lem
