-- `begins` meets its contract: the kind of p's parent, which stands in the table, decides.
use Rattle.run_initialise.proofs.Initialising.{parent_there}
use Rattle.run_initialise.proofs.begins.Goals as goal

pub kind-requires : goal.kind-requires
kind-requires c = parent_there _ _ _ c.args.t.checked c.requires.p_nonzero c.requires.p_bound c.parent-q.ensures
