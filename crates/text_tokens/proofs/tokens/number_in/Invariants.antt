-- `number_in` meets its contract: at each turn the digits that are left, read on from x, give the number.
use Prim.Native.Nat.{◌≤◌}
use mathlib.Core.Path.{◌≡◌}
use lib.ListN.{drop}
use Rattle.text_grammar.specs.Tokens.{max_number}
use Rattle.text_tokens.specs.First.{number_in}
use Rattle.text_tokens.proofs.Decimals.{read_on}
use Rattle.text_tokens.proofs.tokens.number_in.Given as goal

abbrev pub invariant-loop-d : goal.invariant-loop-d
invariant-loop-d l = record { small : l.x ≤ max_number; read : read_on l.x (drop l.d-index l.run) ≡ number_in l.run }
