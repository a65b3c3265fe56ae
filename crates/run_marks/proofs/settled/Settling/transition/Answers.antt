-- `transition` meets its contract: the lowest marked parts tell what is marked inside.
use Rattle.meaning.proofs.Entries.{read_allowed}
use Rattle.run_record.proofs.Marks.{clocks_fit}
use Rattle.run_marks.proofs.Settling.{transition_found}
use Rattle.run_marks.proofs.settled.Settling.transition.Goals as goal

pub invariant_of-sit : goal.invariant_of-sit
invariant_of-sit c = record { estimated = c.args.self.estimated; clocked = clocks_fit _ c.args.self.table.checked }

pub transition-requires : goal.transition-requires
transition-requires c = read_allowed _ _ _ c.args.self.table.checked c.requires c.entry.ensures

pub returns : goal.returns
returns c = transition_found _ _ _ _ _ _ _ _ _ c.end-end.ensures c.entry.ensures c.last_time.ensures c.transition.ensures
