-- `start_clocks` meets its contract. The loop's invariant: what the parts that are left make of the record as it is now is what all parts make of it as it was.
use mathlib.Core.Path.{◌∙◌}
use borrow.Author.Rules.{rules}
use Rattle.run_clocks.proofs.Starting.{parts_step, parts_started_end}
use Rattle.run_clocks.proofs.Pass.{clocks_made}
use Rattle.run_clocks.proofs.start_clocks.Goals as goal

pub loop-p-preserved : goal.loop-p-preserved
loop-p-preserved c =
    (c.start_part.auto.r ∙ c.loop-p.invariant.0, parts_step _ _ _ _ _ _ _ c.parts-p-end.ensures c.loop-p-test.true c.start_part.ensures c.loop-p.invariant.1)

pub returns : goal.returns
returns c =
    clocks_made _ _ c.args.t.checked c.requires (search rules) _ _ c.last_time-time.ensures (search parts_started_end)
