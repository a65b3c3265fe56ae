-- `is_text` meets its contract: the bytes that tell are there, and all of them pass.
use Rattle.std.proofs.Common.{rules, tests}
use Rattle.std.proofs.lemmas.Iterator.{YieldsList-from_slice}
use Rattle.std.proofs.lemmas.Iterator.Search.{all_from_yields_List}
use lib.Dec.{leb}
use lib.ListN.{take}
use Rattle.desk_texts.specs.Forms.{least_byte}
use Rattle.desk_texts.proofs.Telling.{some_text, none_text}
use Rattle.desk_texts.proofs.forms.is_text.Goals as goal

pub returns-then-not-is_empty : goal.returns-then-not-is_empty
returns-then-not-is_empty c =
    some_text _ _ c.min.ensures _ c.is_empty.ensures _ c.if-not-is_empty.true
    (all_from_yields_List (leb least_byte) _ _ _ c.all.ensures.ran (YieldsList-from_slice (take c.min.result c.args.input.now) cc) (λ x b q k. search (rules, tests)))

pub returns-else-not-is_empty : goal.returns-else-not-is_empty
returns-else-not-is_empty c = none_text _ _ c.min.ensures _ c.is_empty.ensures c.if-not-is_empty.false
