-- `merge_part` meets its contract: the value of a marked GOAL is merged, and any other part is passed over.
use borrow.Author.Rules.{rules}
use mathlib.Core.Path.{refl}
use Rattle.run_record.proofs.Marks.{mark_inside}
use Rattle.run_goals.proofs.Merging.{part_merged, part_unmarked, part_other, merge_fits, merge_inside}
use Rattle.run_goals.proofs.goals.merge_part.Goals as goal
use Rattle.run_goals.proofs.goals.merge_part.Goals.{else-eq-via-then-eq+else-is_marked, else-eq-via-else-eq}

pub is_marked-requires : goal.is_marked-requires
is_marked-requires c = mark_inside _ c.args.t.checked _ _ c.args.r.long c.requires.p_bound

pub merge_goal-requires-clause-o_bound : goal.merge_goal-requires-clause-o_bound
merge_goal-requires-clause-o_bound c =
    merge_fits _ c.args.g.now _ _ _ c.is_marked.ensures _ c.kind.ensures (search rules) _ c.entry.ensures c.args.t.checked c.requires.p_bound

pub merge_goal-requires-clause-b1_in_bounds : goal.merge_goal-requires-clause-b1_in_bounds
merge_goal-requires-clause-b1_in_bounds c =
    merge_inside _ c.args.g.now _ _ _ c.is_marked.ensures _ c.kind.ensures (search rules) _ c.entry.ensures c.args.t.checked c.requires.p_bound c.requires.t_in_bounds

pub returns-then-is_marked : goal.returns-then-is_marked
returns-then-is_marked c =
    part_merged _ _ _ _ _ c.is_marked.ensures _ c.kind.ensures (search rules) _ c.entry.ensures _ c.if-is_marked.true c.merge_goal.ensures

pub returns-else-eq : goal.returns-else-eq
returns-else-eq c =
    elim c.else-eq.branch [ else-eq-via-then-eq+else-is_marked w ↦ part_unmarked _ _ _ _ _ w.is_marked.ensures w.if-is_marked.false | else-eq-via-else-eq w ↦ part_other _ _ _ _ _ refl _ c.kind.ensures (search rules) ]
