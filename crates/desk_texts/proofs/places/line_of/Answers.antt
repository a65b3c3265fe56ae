-- `line_of` meets its contract: at each turn it has the line of the place it has come to.
use native.Mathlib.Omega.{arith}
use mathlib.Core.Path.{◌∙◌}
use lib.ListN.{length-take}
use Rattle.desk_texts.proofs.Counting.{first_line, next_line, same_line}
use Rattle.desk_texts.proofs.places.line_of.Goals as goal
use Rattle.desk_texts.proofs.places.line_of.Goals.{then-b-eq-LINE_END, else-b-eq-LINE_END}

pub loop-b-init : goal.loop-b-init
loop-b-init c = (first_line _, omega arith)

pub loop-b-preserved : goal.loop-b-preserved
loop-b-preserved c = (
  elim c.if-b-eq-LINE_END.branch [ then-b-eq-LINE_END w ↦ w.line-is ∙ next_line c.args.text.now c.args.place _ _ (omega (arith, length-take c.args.place c.args.text.now)) (omega (arith, length-take c.args.place c.args.text.now)) w.if-b-eq-LINE_END.true c.loop-b.invariant.0 | else-b-eq-LINE_END w ↦ w.line-is ∙ same_line c.args.text.now c.args.place _ _ (omega (arith, length-take c.args.place c.args.text.now)) (omega (arith, length-take c.args.place c.args.text.now)) w.if-b-eq-LINE_END.false c.loop-b.invariant.0 ],
  elim c.if-b-eq-LINE_END.branch [ then-b-eq-LINE_END w ↦ omega arith | else-b-eq-LINE_END w ↦ omega arith ],
)
