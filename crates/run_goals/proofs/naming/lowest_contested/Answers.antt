-- `lowest_contested` meets its contract: the search finds the first contested byte, or none.
use mathlib.Core.Path.{◌≡◌}
use lib.ListN.{get_or}
use Rattle.std.proofs.Common.{rules, tests}
use Rattle.std.proofs.lemmas.Iterator.{first_from_Range}
use Rattle.meaning.specs.Cycle.{contested}
use Rattle.run_goals.proofs.Searching.{search_named}
use Rattle.run_goals.proofs.naming.lowest_contested.Goals as goal

pub returns-clause-result_value : goal.returns-clause-result_value
returns-clause-result_value c =
    search_named c.args.g.now c.args.n c.find.result
    (first_from_Range _ _ _ _ (λ k. get_or c.args.g.now k 0 ≡ contested) (λ k. get_or c.args.g.now k 0 ≡ contested → ⊥) c.find.ensures.ran (λ x q h. search (rules, tests)) (λ x q h. search (rules, tests)))
