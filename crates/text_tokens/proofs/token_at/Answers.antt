-- `token_at` meets its contract: behind the blanks stands the first token.
use Rattle.text_tokens.proofs.Ends.{token_first}
use Rattle.text_tokens.proofs.token_at.Goals as goal

pub returns : goal.returns
returns c = search token_first
