-- `stands` meets its contract: the run that stands behind the blanks is spelled as the mark, or no token stands there.
use Rattle.text_tokens.proofs.Ends.{token_none, token_first}
use Rattle.text_tokens.proofs.Marks.{mark_absent, mark_present}
use Rattle.text_tokens.proofs.stands.Goals as goal

pub returns-then-t-i : goal.returns-then-t-i
returns-then-t-i c = mark_absent _ _ (search token_none)

pub returns : goal.returns
returns c = mark_present _ _ _ _ (search token_first) c.spells.ensures
