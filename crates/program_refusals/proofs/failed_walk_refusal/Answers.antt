-- `failed_walk_refusal` meets its contract: one law of Refusals for each answer.
use Rattle.meaning.specs.declared.Form.TheVariants.{File}
use Rattle.program_refusals.proofs.Refusals.{tree_refused, depth_refused}
use mathlib.Core.Path.{ap}
use mathlib.Core.Bool.{not}
use Rattle.program_refusals.proofs.failed_walk_refusal.Goals as goal

pub returns-then-not-is_one_tree : goal.returns-then-not-is_one_tree
returns-then-not-is_one_tree c =
    tree_refused File _ _ c.kinds_known.ensures (ap not c.if-not-kinds_known.false) _ c.operands_allowed.ensures (ap not c.if-not-operands_allowed.false) _ c.is_one_tree.ensures (ap not c.if-not-is_one_tree.true)

pub returns : goal.returns
returns c =
    depth_refused File _ _ c.kinds_known.ensures (ap not c.if-not-kinds_known.false) _ c.operands_allowed.ensures (ap not c.if-not-operands_allowed.false) _ c.is_one_tree.ensures (ap not c.if-not-is_one_tree.false) c.requires
