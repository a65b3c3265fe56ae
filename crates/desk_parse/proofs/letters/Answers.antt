-- `letters` meets its contract: the first space ends them.
use Prim.Native.Nat.{ℕ}
use mathlib.Core.Path.{◌∙◌}
use lib.Dec.{eqb}
use borrow.Author.Rules.{rules}
use borrow.Author.Tests.{tests}
use Rattle.std.proofs.lemmas.Iterator.{YieldsList-from_slice}
use Rattle.std.proofs.lemmas.Iterator.Search.{position_from_yields_List}
use Rattle.desk_parse.specs.Words.{is_other}
use Rattle.desk_parse.proofs.Leading.{leading_found}
use Rattle.desk_parse.proofs.letters.Goals as goal

pub returns : goal.returns
returns c =
    let s = c.args.s.now in
    let f = λ (x : ℕ). eqb x 32 in
    let at = position_from_yields_List f _ _ c.position.result c.position.ensures.ran (YieldsList-from_slice s cc) (λ x b q k. search (rules, tests)) in
    c.unwrap_or.ensures ∙ leading_found (is_other 32) f (λ x. search rules) s c.position.result at
