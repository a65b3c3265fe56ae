-- `next` meets its contract: a part of a table can be read.
use Rattle.program_part.proofs.Places.{row_readable}
use Rattle.program_table.proofs.table.Table.next.Goals as goal

pub next_at-requires : goal.next_at-requires
next_at-requires c = row_readable _ _ c.args.self.checked c.requires
