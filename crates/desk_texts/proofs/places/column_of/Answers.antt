-- `column_of` meets its contract: at each turn it has the column of the place it has come to.
use native.Mathlib.Omega.{arith}
use mathlib.Core.Path.{◌∙◌}
use lib.ListN.{length-take}
use Rattle.desk_texts.proofs.Counting.{first_column, column_back, next_column}
use Rattle.desk_texts.proofs.places.column_of.Goals as goal
use Rattle.desk_texts.proofs.places.column_of.Goals.{then-b-eq-LINE_END, else-b-eq-LINE_END}

pub loop-b-init : goal.loop-b-init
loop-b-init c = (first_column _, omega arith)

pub loop-b-preserved : goal.loop-b-preserved
loop-b-preserved c = (
  elim c.if-b-eq-LINE_END.branch [ then-b-eq-LINE_END w ↦ w.column-is ∙ column_back c.args.text.now c.args.place _ 0 (omega (arith, length-take c.args.place c.args.text.now)) (omega (arith, length-take c.args.place c.args.text.now)) w.if-b-eq-LINE_END.true | else-b-eq-LINE_END w ↦ w.column-is ∙ next_column c.args.text.now c.args.place _ _ (omega (arith, length-take c.args.place c.args.text.now)) (omega (arith, length-take c.args.place c.args.text.now)) w.if-b-eq-LINE_END.false c.loop-b.invariant.0 ],
  elim c.if-b-eq-LINE_END.branch [ then-b-eq-LINE_END w ↦ omega arith | else-b-eq-LINE_END w ↦ omega arith ],
)
