-- The clocks after a settling: START after START, as the unfolding sets them, they are what the table's definition says clock by clock.
use Prim.Native.Nat.{ℕ}
use mathlib.Core.Path.{◌≡◌, sym, ◌∙◌}
use mathlib.Core.Bool.{cond}
use mathlib.Core.List.{List, [], ◌∷◌}
use lib.ListN.{length, set}
use Rattle.meaning.specs.declared.Entry.{Entry}
use Rattle.meaning.specs.declared.kinds.Kind.TheVariants.{Start as START}
use Rattle.meaning.specs.Cycle.{is_kind, clocks_after}
use Rattle.meaning.proofs.Clocks.{none_after, leaf_after, length_setting}
use Rattle.agreement.specs.Runs.{start_each}

pub each_started : (x : ℕ) (es : List Entry) (had : List ℕ) (n : ℕ) → length had ≡ n → start_each x es had ≡ clocks_after n es x had
unfolding start_each
each_started x [] had n long = sym (none_after n x had long)
each_started x (e ∷ es) had n long =
    each_started x es (cond (is_kind START e) (set had e.operand.b1 x) had) n (length_setting (is_kind START e) had e.operand.b1 x ∙ long)
    ∙ sym (leaf_after n x e es had long)
