-- `inside` meets its contract: a part of a table can be read.
use Rattle.program_part.proofs.Places.{row_readable}
use Rattle.program_table.proofs.table.Table.inside.Goals as goal

pub inside_of-requires : goal.inside_of-requires
inside_of-requires c = row_readable _ _ c.args.self.checked c.requires
