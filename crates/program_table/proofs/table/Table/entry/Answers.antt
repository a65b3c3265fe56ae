-- `entry` meets its contract: a part of a table can be read.
use Rattle.program_part.proofs.Places.{row_readable}
use Rattle.program_table.proofs.table.Table.entry.Goals as goal

pub entry_at-requires : goal.entry_at-requires
entry_at-requires c = row_readable _ _ c.args.self.checked c.requires
