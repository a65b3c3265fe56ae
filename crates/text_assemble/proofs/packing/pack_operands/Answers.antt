-- `pack_operands` meets its contract: at each turn the operands of the first parts are stored.
use borrow.Author.Rules.{rules}
use Rattle.text_assemble.proofs.Arrays.{operands_start, operands_more}
use Rattle.text_assemble.proofs.packing.pack_operands.Goals as goal

pub loop-p-init : goal.loop-p-init
loop-p-init c = (search rules, search operands_start)

pub loop-p-preserved : goal.loop-p-preserved
loop-p-preserved c = (search rules, search operands_more)
