-- `parse_line` meets its contract: a line that is too long is no call, and any other is read.
use Rattle.desk_rehearsal.proofs.Estimates.{parsed_long, parsed_short}
use Rattle.desk_rehearsal.proofs.parsing.parse_line.Goals as goal

pub returns-then-line-gt-MAX_LINE : goal.returns-then-line-gt-MAX_LINE
returns-then-line-gt-MAX_LINE c = search parsed_long

pub returns : goal.returns
returns c = search parsed_short
