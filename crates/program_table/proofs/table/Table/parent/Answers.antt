-- `parent` meets its contract: a part of a table can be read.
use Rattle.program_part.proofs.Places.{row_readable}
use Rattle.program_table.proofs.table.Table.parent.Goals as goal

pub parent_at-requires : goal.parent_at-requires
parent_at-requires c = row_readable _ _ c.args.self.checked c.requires
