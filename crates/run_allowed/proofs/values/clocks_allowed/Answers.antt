-- `clocks_allowed` meets its contract: it asks of each clock of the program whether it is allowed.
use native.Mathlib.Nat.{sub-zero}
use mathlib.Core.Path.{refl, ◌∙◌}
use Rattle.std.proofs.Common.{rules, tests}
use Rattle.std.proofs.lemmas.Iterator.{YieldsList-from_range, serves_from_Range}
use Rattle.std.proofs.lemmas.Iterator.Search.{all_from_yields_List}
use Rattle.run_allowed.specs.Places.{clock_at}
use Rattle.run_allowed.proofs.Places.{clock_below_limit, clocks_checked}
use Rattle.run_allowed.proofs.values.clocks_allowed.Goals as goal

pub returns : goal.returns
returns c =
    all_from_yields_List (clock_at c.args.r.bytes.now) _ _ c.all.result c.all.ensures.ran (YieldsList-from_range 0 c.clocks.result c.clocks.result refl (sub-zero c.clocks.result)) (λ x b q k. search (rules, tests))
    ∙ clocks_checked c.args.t.bytes.now c.args.r.bytes.now _ c.clocks.ensures

pub all-requires-clause-callable : goal.all-requires-clause-callable
all-requires-clause-callable c =
    serves_from_Range (λ x q k. search (rules, tests)) (λ x low high. search (rules, clock_below_limit c.args.t.bytes.now x c.clocks.result c.args.t.checked c.clocks.ensures high))
