-- `root_matches` meets its contract: of the root's row only the parent and the next are not its own.
use Rattle.program_table.proofs.RowChecks.{root_compared}
use Rattle.program_table.proofs.checking.Rows.root_matches.Goals as goal

pub returns : goal.returns
returns c =
    root_compared _ c.args.self.ending c.args.self.readable.there _ _ c.parent_at.ensures c.next_at.ensures
