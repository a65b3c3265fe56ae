-- `numeral` meets its contract: at each turn the digits that are left, read on from x, give the number.
use Rattle.desk_parse.proofs.Digits.{value_next}
use Rattle.desk_parse.proofs.decimal.numeral.Goals as goal

pub loop-d-preserved : goal.loop-d-preserved
loop-d-preserved c = value_next _ _ _ _ _ c.next_value.ensures c.loop-d.invariant _ c.loop-d-test.true c.in_ok-x.was
