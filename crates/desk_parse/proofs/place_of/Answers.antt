-- `place_of` meets its contract: the first place that is found is the definition's.
use mathlib.Core.Path.{◌≡◌, ◌∙◌}
use lib.ListN.{get_or}
use borrow.Author.Rules.{rules}
use borrow.Author.Tests.{tests}
use Rattle.std.proofs.lemmas.Iterator.{first_from_Range}
use Rattle.desk_parse.proofs.Leading.{place_found}
use Rattle.desk_parse.proofs.place_of.Goals as goal

pub returns : goal.returns
returns c =
    let s = c.args.s.now in
    let b = c.args.b in
    let first = first_from_Range _ _ _ _ (λ i. get_or s i 0 ≡ b) (λ i. get_or s i 0 ≡ b → ⊥) c.find.ensures.ran (λ x q k. search (rules, tests)) (λ x q k. (search rules, search (rules, tests))) in
    c.unwrap_or.ensures ∙ place_found b s _ _ _ first
