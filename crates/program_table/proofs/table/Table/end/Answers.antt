-- `end` meets its contract: a part of a table can be read.
use Rattle.program_part.proofs.Places.{row_readable}
use Rattle.program_table.proofs.table.Table.end.Goals as goal

pub end_at-requires : goal.end_at-requires
end_at-requires c = row_readable _ _ c.args.self.checked c.requires
