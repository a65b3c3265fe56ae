-- `settle_part` meets its contract: an unmarked part stays so, and a marked one is marked by its transition.
use mathlib.Core.Path.{refl}
use Rattle.run_record.proofs.Marks.{mark_inside}
use Rattle.run_marks.proofs.Settling.{transition_possible, follower_there, unmarked_lowest, unmarked_marks, marked_lowest, marked_marks}
use Rattle.run_marks.proofs.settled.Settling.settle_part.Goals as goal

pub is_marked-requires : goal.is_marked-requires
is_marked-requires c = mark_inside _ c.args.self.table.checked _ _ c.args.self.record.long c.requires.p_bound

pub returns-then-not-is_marked-clause-value : goal.returns-then-not-is_marked-clause-value
returns-then-not-is_marked-clause-value c =
    unmarked_lowest _ _ _ _ _ _ c.is_marked.ensures c.if-not-is_marked.true

pub returns-then-not-is_marked-clause-m_after : goal.returns-then-not-is_marked-clause-m_after
returns-then-not-is_marked-clause-m_after c =
    unmarked_marks _ _ _ _ _ _ c.is_marked.ensures _ _ _ c.if-not-is_marked.true c.from.ensures refl

pub follower-q-requires-clause-possible_transition : goal.follower-q-requires-clause-possible_transition
follower-q-requires-clause-possible_transition c =
    transition_possible _ c.args.self.table.checked _ _ _ _ _ c.requires.p_bound c.transition-f.ensures

pub store_mark-requires-clause-q_bound : goal.store_mark-requires-clause-q_bound
store_mark-requires-clause-q_bound c =
    follower_there _ c.args.self.table.checked _ _ _ _ _ c.requires.p_bound c.transition-f.ensures _ c.follower-q.ensures

pub returns-clause-value : goal.returns-clause-value
returns-clause-value c =
    marked_lowest _ _ _ _ _ _ c.is_marked.ensures _ _ _ c.if-not-is_marked.false c.transition-f.ensures c.mark_after-x.ensures c.follower-q.ensures _ c.lowest_with.ensures

pub returns-clause-m_after : goal.returns-clause-m_after
returns-clause-m_after c =
    marked_marks _ _ _ _ _ _ c.is_marked.ensures _ _ _ c.if-not-is_marked.false c.transition-f.ensures c.mark_after-x.ensures c.follower-q.ensures _ _ c.store_mark.ensures
