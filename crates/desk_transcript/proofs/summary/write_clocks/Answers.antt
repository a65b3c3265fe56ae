-- `write_clocks` meets its contract: at each turn the clocks before this one are written.
use native.Mathlib.Omega.{arith}
use Rattle.desk_format.proofs.Pages.{first_none, first_next, first_whole}
use Rattle.desk_transcript.specs.Transcript.{clock_text, clocks_text}
use Rattle.desk_transcript.proofs.summary.write_clocks.Goals as goal

pub loop-c-init : goal.loop-c-init
loop-c-init c = first_none _ (omega arith)

pub loop-c-preserved : goal.loop-c-preserved
loop-c-preserved c = first_next (clock_text c.args.t.now c.args.r.now) c.loop-c.invariant c.write_clock.ensures

pub returns : goal.returns
unfolding clocks_text
returns c = first_whole _ _ (omega arith) c.loop-c.invariant
