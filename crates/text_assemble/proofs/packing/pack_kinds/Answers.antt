-- `pack_kinds` meets its contract: at each turn the kinds of the first parts are stored.
use borrow.Author.Rules.{rules}
use Rattle.text_assemble.proofs.Arrays.{kinds_start, kinds_more}
use Rattle.text_assemble.proofs.packing.pack_kinds.Goals as goal

pub loop-p-init : goal.loop-p-init
loop-p-init c = (search rules, search kinds_start)

pub loop-p-preserved : goal.loop-p-preserved
loop-p-preserved c = (search rules, search kinds_more)
