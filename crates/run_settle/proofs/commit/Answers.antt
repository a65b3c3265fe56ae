-- `commit` meets its contract: phase and estimate stand apart from the clocks, so that it does not matter which are stored first.
use mathlib.Core.Path.{◌∙◌}
use Rattle.run_settle.proofs.Committing.{estimate_room, marks_room, record_committed}
use Rattle.run_settle.proofs.commit.Goals as goal

pub slice_bounds-copy_over-end : goal.slice_bounds-copy_over-end
slice_bounds-copy_over-end c =
    estimate_room _ _ _ _ c.args.t.checked c.requires.est_value c.requires.m_value _ _ c.requires.record_length_in_bounds c.start_clocks.auto.r

pub slice_bounds-copy_over-end-3 : goal.slice_bounds-copy_over-end-3
slice_bounds-copy_over-end-3 c =
    marks_room _ _ _ _ c.args.t.checked c.requires.est_value c.requires.m_value _ _ c.requires.record_length_in_bounds c.start_clocks.auto.r _ c.copy_over.ensures _ (c.from-parts.ensures ∙ c.parts.ensures)

pub returns : goal.returns
returns c =
    record_committed _ _ _ _ c.args.t.checked c.requires.est_value c.requires.m_value _ _ c.requires.record_length_in_bounds c.start_clocks.auto.r _ c.copy_over.ensures _ (c.from-parts.ensures ∙ c.parts.ensures) _ c.requires.t_in_bounds c.copy_over-2.ensures c.start_clocks.ensures c.phase_after.ensures
