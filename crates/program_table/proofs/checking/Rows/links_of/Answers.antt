-- `links_of` meets its contract: the next of a part follows from the part around it.
use Rattle.program_table.proofs.RowChecks.{parent_readable, part_links}
use Rattle.program_table.proofs.checking.Rows.links_of.Goals as goal

pub entry_at-around-requires : goal.entry_at-around-requires
entry_at-around-requires c = parent_readable _ _ c.requires.parents_agree (record { long = c.args.self.readable.long; there = c.requires.there }) c.requires.p_nonzero _ c.parent_of-parent.ensures

pub end_at-requires : goal.end_at-requires
end_at-requires c =
    parent_readable _ _ c.requires.parents_agree (record { long = c.args.self.readable.long; there = c.requires.there }) c.requires.p_nonzero _ c.parent_of-parent.ensures

pub returns : goal.returns
returns c =
    part_links _ _ c.requires.parents_agree _ c.end_at-end.ensures c.requires.there c.requires.p_nonzero _ _ _ _ c.parent_of-parent.ensures c.entry_at-around.ensures c.end_at.ensures c.next_of-next.ensures
