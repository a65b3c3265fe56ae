-- `numeral` meets its contract: at each turn the digits that are left, read on from x, give the number.
use mathlib.Core.Path.{◌≡◌}
use lib.ListN.{drop}
use Rattle.desk_parse.specs.Words.{decimal_from, numeral_of}
use Rattle.desk_parse.proofs.decimal.numeral.Given as goal

abbrev pub invariant-loop-d : goal.invariant-loop-d
invariant-loop-d l = decimal_from l.x (drop l.d-index l.word) ≡ numeral_of l.word
