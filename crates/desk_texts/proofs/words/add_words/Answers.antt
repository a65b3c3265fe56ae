-- `add_words` meets its contract: each refusal has its line.
use mathlib.Core.Path.{refl}
use Rattle.desk_format.proofs.Pages.{adds_same}
use Rattle.desk_texts.specs.Words.{refusal_text}
use Rattle.desk_texts.proofs.Saying.{without_words}
use Rattle.desk_texts.proofs.words.add_words.Goals as goal

pub returns-in-SizeOutOfRange : goal.returns-in-SizeOutOfRange
unfolding refusal_text
returns-in-SizeOutOfRange c = rw c.in-SizeOutOfRange.is c.word.ensures

pub returns-in-OperandNotAllowed : goal.returns-in-OperandNotAllowed
unfolding refusal_text
returns-in-OperandNotAllowed c = rw c.in-OperandNotAllowed.is c.word-in-OperandNotAllowed.ensures

pub returns-in-TooDeep : goal.returns-in-TooDeep
unfolding refusal_text
returns-in-TooDeep c = rw c.in-TooDeep.is c.word-in-TooDeep.ensures

pub returns-in-NotAText : goal.returns-in-NotAText
unfolding refusal_text
returns-in-NotAText c = rw c.in-NotAText.is c.write_not_a_text.ensures

pub returns-in_default : goal.returns-in_default
unfolding refusal_text
returns-in_default c = adds_same (without_words _ _ _ c.in_default.not-SizeOutOfRange c.in_default.not-OperandNotAllowed c.in_default.not-TooDeep c.in_default.not-NotAText _ refl) c.write_refused.ensures
