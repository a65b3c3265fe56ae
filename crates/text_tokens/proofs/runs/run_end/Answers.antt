-- `run_end` meets its contract: one law for each way in which a run ends.
use Rattle.text_tokens.proofs.Ends.{run_word, run_pair, run_single}
use Rattle.text_tokens.proofs.runs.run_end.Goals as goal

pub returns-then-is_word_byte : goal.returns-then-is_word_byte
returns-then-is_word_byte c = search run_word

pub returns-then-b-next : goal.returns-then-b-next
returns-then-b-next c = search run_pair

pub returns : goal.returns
returns c = search run_single
