-- `write_clocks` meets its contract: at each turn the clocks before this one are written.
use Rattle.desk_format.specs.Writing.{texts_from}
use Rattle.desk_format.specs.Pages.{Adds}
use Rattle.desk_transcript.specs.Transcript.{clock_text}
use Rattle.desk_transcript.proofs.summary.write_clocks.Given as goal

abbrev pub invariant-loop-c : goal.invariant-loop-c
invariant-loop-c l = Adds (texts_from (clock_text l.t l.r) 0 l.c) l.fn.page l.page
