-- `write_goals` meets its contract: bytes that no GOAL names, and the values of all marked GOALs merged into them.
use Rattle.run_goals.proofs.Merging.{goals_made}
use Rattle.run_goals.proofs.goals.write_goals.Goals as goal

pub returns : goal.returns
returns c = search goals_made
