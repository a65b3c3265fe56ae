-- `word_end` meets its contract: the letters and digits that are counted are passed.
use Rattle.text_tokens.proofs.Ends.{word_ends_lem}
use Rattle.text_tokens.proofs.runs.word_end.Goals as goal

pub returns : goal.returns
returns c = search word_ends_lem
