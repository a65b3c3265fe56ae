-- `root_allowed` meets its contract: the two phases that it tells apart are the definition's.
use Rattle.run_allowed.proofs.Places.{marks_long}
use Rattle.run_allowed.proofs.Markings.{root_runs}
use Rattle.run_allowed.proofs.marks.root_allowed.Goals as goal

pub any_marked-requires-clause-inside : goal.any_marked-requires-clause-inside
any_marked-requires-clause-inside c = search marks_long

pub returns : goal.returns
returns c = search root_runs
