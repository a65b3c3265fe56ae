-- The leaves at work are parts of the program, so what all its entries pass they pass too.
use Prim.Native.Nat.{ℕ}
use mathlib.Core.Path.{◌≡◌, refl}
use mathlib.Core.Bool.{Bool, true, false, cond, ◌&&◌}
use mathlib.Core.Logic.{inl, inr}
use mathlib.Core.List.{List, [], ◌∷◌, ◌++◌}
use lib.Dec.{eqb, leb}
use borrow.Author.Tests.{le-leb}
use Rattle.base.specs.Lists.{all, flat}
use Rattle.base.proofs.Lists.{and_left, and_right, all_append}
use Rattle.meaning.specs.declared.Entry.{Entry}
use Rattle.meaning.specs.Sizes.{max_value}
use Rattle.meaning.specs.declared.kinds.Kind.TheVariants.{Goal as GOAL}
use Rattle.meaning.specs.Kinds.{value}
use Rattle.meaning.specs.Tree.{Part, Parts, goal, start, wait, seq, par, maintain, choice, repeat, one, more, children, list_of}
use Rattle.meaning.specs.Program.{preorder, entry_allowed}
use Rattle.meaning.specs.Cycle.{is_kind, values_for}
use Rattle.meaning.proofs.Trees.{entry_of, preorder_law}
use Rattle.meaning.proofs.Entries.{goal_fits}
use Rattle.agreement.specs.Unfolding.{Rest, Current, Running, this, that, both, broken, holding, undecided, first, second, working, working_current, working_running}

module _ (f : Entry → Bool) where
  -- a test that a part's entries pass, its children's pass
  inside : (p : Part) → all f (preorder p) ≡ true → all f (flat preorder (children p)) ≡ true
  inside p h = and_right (f (entry_of p)) (all f (flat preorder (children p))) (rw (preorder_law p) at h)

  own : (p : Part) → all f (preorder p) ≡ true → f (entry_of p) ≡ true
  own p h = and_left (f (entry_of p)) (all f (flat preorder (children p))) (rw (preorder_law p) at h)

  head : (xs ys : List Entry) → all f (xs ++ ys) ≡ true → all f xs ≡ true
  head xs ys h = and_left (all f xs) (all f ys) (rw (all_append f xs ys) at h)

  tail : (xs ys : List Entry) → all f (xs ++ ys) ≡ true → all f ys ≡ true
  tail xs ys h = and_right (all f xs) (all f ys) (rw (all_append f xs ys) at h)

  append : (xs ys : List Entry) → all f xs ≡ true → all f ys ≡ true → all f (xs ++ ys) ≡ true
  append xs ys h k = rw (all_append f xs ys, h) k

  mutual
    unfolding working

    pub all_working : (p : Part) (r : Rest p) → all f (preorder p) ≡ true → all f (working p r) ≡ true
    all_working (goal o) r h = rw (own (goal o) h)
    all_working (start o) r h = rw (own (start o) h)
    all_working (wait o) r h = rw (own (wait o) h)
    all_working (seq ps) r h = all_current ps r (inside (seq ps) h)
    all_working (par ps) r h = all_running ps r (inside (par ps) h)
    all_working (maintain o p) broken h = refl
    all_working (maintain o p) (holding r) h = all_working p r (head (preorder p) [] (inside (maintain o p) h))
    all_working (choice o p q) undecided h = refl
    all_working (choice o p q) (first r) h = all_working p r (head (preorder p) (preorder q ++ []) (inside (choice o p q) h))
    all_working (choice o p q) (second r) h = all_working q r (head (preorder q) [] (tail (preorder p) (preorder q ++ []) (inside (choice o p q) h)))
    all_working (repeat p) r h = all_working p r (head (preorder p) [] (inside (repeat p) h))

    all_current : (ps : Parts) (c : Current ps) → all f (flat preorder (list_of ps)) ≡ true → all f (working_current ps c) ≡ true
    all_current (one p) r h = all_working p r (head (preorder p) [] h)
    all_current (more p ps) (inl r) h = all_working p r (head (preorder p) (flat preorder (list_of ps)) h)
    all_current (more p ps) (inr c) h = all_current ps c (tail (preorder p) (flat preorder (list_of ps)) h)

    all_running : (ps : Parts) (c : Running ps) → all f (flat preorder (list_of ps)) ≡ true → all f (working_running ps c) ≡ true
    all_running (one p) r h = all_working p r (head (preorder p) [] h)
    all_running (more p ps) (this r) h = all_working p r (head (preorder p) (flat preorder (list_of ps)) h)
    all_running (more p ps) (that c) h = all_running ps c (tail (preorder p) (flat preorder (list_of ps)) h)
    all_running (more p ps) (both r c) h =
        append (working p r) (working_running ps c) (all_working p r (head (preorder p) (flat preorder (list_of ps)) h)) (all_running ps c (tail (preorder p) (flat preorder (list_of ps)) h))

-- no GOAL among allowed entries has a value above 250
pub small_values : (v k : ℕ) (es : List Entry) → all (entry_allowed v k) es ≡ true → (u : ℕ) → all (λ x. leb x max_value) (values_for u es) ≡ true
unfolding values_for
small_values v k [] h u = refl
small_values v k (e ∷ es) h u =
    step (is_kind GOAL e) (eqb e.operand.b1 u) refl (small_values v k es (and_right (entry_allowed v k e) (all (entry_allowed v k) es) h) u)
  where
    step : (g b : Bool) → is_kind GOAL e ≡ g → all (λ x. leb x max_value) (values_for u es) ≡ true
        → all (λ x. leb x max_value) (cond (g && b) (value e.operand ∷ []) [] ++ values_for u es) ≡ true
    step false b g rest = rest
    step true false g rest = rest
    step true true g rest = rw (le-leb (value e.operand) max_value (goal_fits v k e (and_left (entry_allowed v k e) (all (entry_allowed v k) es) h) g).1) rest
