-- Tests, and the facts that they test.
use Prim.Native.Nat.{ℕ, zero, suc, ◌≤◌, ◌<◌}
use native.Mathlib.Nat.{zero-add, not-suc-le-zero, le_of_suc-le-suc}
use native.Mathlib.Omega.{arith}
use mathlib.Core.Path.{◌≡◌, refl, ◌∙◌}
use mathlib.Core.Logic.Iff
use mathlib.Core.Logic.{◌↔◌, ◌≢◌, ◌⊎◌, inl, inr}
use mathlib.Core.Bool.{Bool, true, false, cond, ◌&&◌, ◌||◌, and-eq-true_iff, or-true}
use mathlib.Core.List.{List, [], ◌∷◌}
use lib.Dec.{eqb, leb}
use lib.ListN.{length, get_or}
use borrow.Author.Tests.{leb-true, le-leb, eqb-true, eq-eqb, eqb-false}
use Rattle.base.specs.Lists.{all, tabulate}
use Rattle.base.proofs.Lists.{and_left, and_right, length-tabulate, get_or-tabulate}

pub both : {P Q : Type 0} (a b : Bool) → (a ≡ true) ↔ P → (b ≡ true) ↔ Q → ((a && b) ≡ true) ↔ (P × Q)
both a b f g = Iff.trans (and-eq-true_iff a b) (Iff.and f g)

pub either : {P Q : Type 0} (a b : Bool) → (a ≡ true) ↔ P → (b ≡ true) ↔ Q → ((a || b) ≡ true) ↔ (P ⊎ Q)
either {P} {Q} a b f g = (to a f, from)
  where
    to : (a : Bool) → (a ≡ true) ↔ P → (a || b) ≡ true → P ⊎ Q
    to true f h = inl (f.0 refl)
    to false f h = inr (g.0 h)

    from : P ⊎ Q → (a || b) ≡ true
    from (inl p) = rw (f.1 p)
    from (inr q) = rw (g.1 q, or-true a)

pub at_most : (m x : ℕ) → (leb x m ≡ true) ↔ (x ≤ m)
at_most m x = (leb-true x m, le-leb x m)

pub equal : (n x : ℕ) → (eqb x n ≡ true) ↔ (x ≡ n)
equal n x = (eqb-true x n, eq-eqb x n)

-- one test where a number is the one named, another where it is not
pub by_number : (x n : ℕ) (a b : Bool) → (cond (eqb x n) a b ≡ true) ↔ ((x ≡ n → a ≡ true) × (x ≢ n → b ≡ true))
by_number x n a b = go (eqb x n) refl
  where
    go : (z : Bool) → eqb x n ≡ z → (cond z a b ≡ true) ↔ ((x ≡ n → a ≡ true) × (x ≢ n → b ≡ true))
    go true e = (λ h. (λ k. h, λ k. absurd (k (eqb-true x n e))), λ h. h.0 (eqb-true x n e))
    go false e = (λ h. (λ k. absurd (eqb-false x n e k), λ k. h), λ h. h.1 (eqb-false x n e))

-- a test that need not be passed where a number is the one named
pub unless : {P : Type 0} (a : Bool) (x n : ℕ) → (a ≡ true) ↔ P → ((a || eqb x n) ≡ true) ↔ (x ≢ n → P)
unless {P} a x n f = go a (eqb x n) refl f
  where
    go : (a z : Bool) → eqb x n ≡ z → (a ≡ true) ↔ P → ((a || z) ≡ true) ↔ (x ≢ n → P)
    go true z e f = (λ h k. f.0 refl, λ h. refl)
    go false true e f = (λ h k. absurd (k (eqb-true x n e)), λ h. refl)
    go false false e f = (λ h k. f.0 h, λ h. f.1 (h (eqb-false x n e)))

-- a test that all elements of a list pass is passed at each index
pub all_index : {A : Type 0} (d : A) (f : A → Bool) (xs : List A) → (all f xs ≡ true) ↔ ((i : ℕ) → i < length xs → f (get_or xs i d) ≡ true)
all_index {A} d f xs = (to xs, from xs)
  where
    to : (xs : List A) → all f xs ≡ true → (i : ℕ) → i < length xs → f (get_or xs i d) ≡ true
    to [] h i l = absurd (not-suc-le-zero l)
    to (x ∷ xs) h zero l = and_left (f x) (all f xs) h
    to (x ∷ xs) h (suc i) l = to xs (and_right (f x) (all f xs) h) i (le_of_suc-le-suc l)

    from : (xs : List A) → ((i : ℕ) → i < length xs → f (get_or xs i d) ≡ true) → all f xs ≡ true
    from [] h = refl
    from (x ∷ xs) h = rw (h 0 (omega arith)) (from xs (λ i l. h (suc i) (omega arith)))

-- the same, by the fact that it tests
pub all_facts : (f : ℕ → Bool) (F : ℕ → Type 0) → ((x : ℕ) → (f x ≡ true) ↔ F x) → (xs : List ℕ) (n : ℕ) → length xs ≡ n → (all f xs ≡ true) ↔ ((i : ℕ) → i < n → F (get_or xs i 0))
all_facts f F e xs n k =
    (λ h i l. (e (get_or xs i 0)).0 ((all_index 0 f xs).0 h i (omega arith)), λ h. (all_index 0 f xs).1 (λ i l. (e (get_or xs i 0)).1 (h i (omega arith))))

-- a test that the numbers below n pass
pub all_below : (f : ℕ → Bool) (n : ℕ) → (all f (tabulate (λ c. c) 0 n) ≡ true) ↔ ((c : ℕ) → c < n → f c ≡ true)
all_below f n =
    let k : length (tabulate (λ c. c) 0 n) ≡ n = length-tabulate (λ c. c) 0 n in
    let at : (c : ℕ) → c < n → get_or (tabulate (λ c. c) 0 n) c 0 ≡ c = λ c l. get_or-tabulate (λ c. c) 0 n c 0 l ∙ zero-add c in
    let facts = all_facts f (λ c. f c ≡ true) (λ c. Iff.rfl) (tabulate (λ c. c) 0 n) n k in
    (λ h c l. rw (at c l) at (facts.0 h c l), λ h. facts.1 (λ c l. rw (at c l) (h c l)))

-- an element other than 0 stands inside its list
pub get_or_inside : (xs : List ℕ) (i : ℕ) → 0 < get_or xs i 0 → i < length xs
get_or_inside [] i h = absurd (omega arith)
get_or_inside (x ∷ xs) zero h = omega arith
get_or_inside (x ∷ xs) (suc i) h = omega (arith, get_or_inside xs i h)
