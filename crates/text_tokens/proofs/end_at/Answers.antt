-- `end_at` meets its contract: behind the blanks stands the first token, or the text's end.
use Rattle.text_tokens.proofs.Ends.{passed_none, passed_one}
use Rattle.text_tokens.proofs.end_at.Goals as goal

pub returns-then-t-i : goal.returns-then-t-i
returns-then-t-i c = search passed_none

pub returns : goal.returns
returns c = search passed_one
