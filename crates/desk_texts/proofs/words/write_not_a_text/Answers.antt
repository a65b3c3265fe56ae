-- `write_not_a_text` meets its contract: that it is too long, or from where on it does not fit.
use Rattle.desk_format.proofs.Pages.{adds_same}
use Rattle.desk_texts.proofs.Saying.{too_long_lem, not_fitting}
use Rattle.desk_texts.proofs.words.write_not_a_text.Goals as goal

pub returns-then-text-gt-MAX_TEXT : goal.returns-then-text-gt-MAX_TEXT
returns-then-text-gt-MAX_TEXT c = adds_same (too_long_lem _ _ c.if-text-gt-MAX_TEXT.true) c.word.ensures

pub returns : goal.returns
returns c = adds_same (not_fitting _ _ c.if-text-gt-MAX_TEXT.false) c.write_outside.ensures
