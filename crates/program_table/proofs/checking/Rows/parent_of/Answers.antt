-- `parent_of` meets its contract: the part at hand is the one around p, or stands inside it, and each turn goes up.
use Rattle.program_table.proofs.RowChecks.{climb_first, climb_up, climb_found}
use Rattle.program_table.proofs.checking.Rows.parent_of.Goals as goal

pub loop-t-init : goal.loop-t-init
loop-t-init c = climb_first _ _ c.requires.p_nonzero c.requires.there c.requires.parents_agree

pub loop-t-smaller : goal.loop-t-smaller
loop-t-smaller c =
    (climb_up _ _ c.requires.p_nonzero c.requires.there c.requires.parents_agree _ _ c.loop-t.invariant c.end_at.ensures _ c.parent_at-q.ensures c.loop-t-test.true).1

pub loop-t-preserved : goal.loop-t-preserved
loop-t-preserved c =
    (climb_up _ _ c.requires.p_nonzero c.requires.there c.requires.parents_agree _ _ c.loop-t.invariant c.end_at.ensures _ c.parent_at-q.ensures c.loop-t-test.true).0

pub returns : goal.returns
returns c =
    climb_found _ _ c.requires.p_nonzero c.requires.there c.requires.parents_agree _ _ c.loop-t.invariant c.end_at.ensures c.loop-t-test.false
