-- `read_open` meets its contract: a file that is open is read.
use mathlib.Core.Path.{ap}
use Rattle.std.specs.Option.{is_some}
use Rattle.desk_input.specs.Reading.{opened}
use Rattle.desk_input.proofs.read_open.Goals as goal

pub returns : goal.returns
returns g c = opened (ap is_some c.in_ok-file.was) c.read_whole.ensures
