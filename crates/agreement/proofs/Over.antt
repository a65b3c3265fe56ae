-- Passes over marks, part by part from the lowest number on, and how they go over marks one after the other.
use Prim.Native.Nat.{ℕ, zero, suc, ◌+◌}
use native.Mathlib.Nat.{add-zero, add-suc, suc-add, add_assoc}
use mathlib.Core.Path.{◌≡◌, sym, ap, ◌∙◌}
use mathlib.Core.List.{List, [], ◌∷◌, ◌++◌, append_assoc, append-nil}
use Rattle.meaning.specs.Tree.{Part, size}
use Rattle.meaning.proofs.Trees.{inner, size_inner}
use Rattle.agreement.proofs.Marks.{blank}

-- over the marks xs of a parts from number n on a pass leaves ys, whatever follows
pub record Over {A : Type 0} (F : ℕ → List ℕ → List A) (n a : ℕ) (xs : List ℕ) (ys : List A) : Type 0 where
  pub over : (ms : List ℕ) → F n (xs ++ ms) ≡ ys ++ F (n + a) ms

module _ {A : Type 0} {F : ℕ → List ℕ → List A} where
  -- no marks
  pub over_none : {n : ℕ} → Over F n 0 [] []
  over_none = record { over = λ ms. rw add-zero }

  -- marks after which there are none
  pub over_all : {n a : ℕ} {xs : List ℕ} {ys : List A} → ((m : ℕ) → F m [] ≡ []) → Over F n a xs ys → F n xs ≡ ys
  over_all {n} {a} {xs} {ys} h k = ap (F n) (sym (append-nil xs)) ∙ k.over [] ∙ rw (h (n + a)) (append-nil ys)

  -- marks one after the other
  pub over_both : {n a b : ℕ} {xs us : List ℕ} {ys vs : List A} → Over F n a xs ys → Over F (n + a) b us vs → Over F n (a + b) (xs ++ us) (ys ++ vs)
  over_both {n} {a} {b} {xs} {us} {ys} {vs} h k = record { over = λ ms. rw (append_assoc xs us ms, append_assoc ys vs, h.over (us ++ ms), k.over ms, add_assoc n a b) }

  -- a marked part, from what is inside it
  pub over_part : {n : ℕ} {xs : List ℕ} {ys : List A} (p : Part) (y : List A) → ((ms : List ℕ) → F n (1 ∷ ms) ≡ y ++ F (suc n) ms) → Over F (suc n) (inner p) xs ys → Over F n (size p) (1 ∷ xs) (y ++ ys)
  over_part {n} {xs} {ys} p y step h = record { over = λ ms. rw (step (xs ++ ms), h.over ms, append_assoc y ys, size_inner p, add-suc n, suc-add n) }

  -- blanks, of which each leaves y
  pub over_blank : (y : List A) (out : ℕ → List A) → out 0 ≡ [] → ((k : ℕ) → out (suc k) ≡ y ++ out k) → ((n : ℕ) (ms : List ℕ) → F n (0 ∷ ms) ≡ y ++ F (suc n) ms) → (k : ℕ) {n : ℕ} → Over F n k (blank k) (out k)
  over_blank y out none more step zero {n} = record { over = λ ms. rw (none, add-zero) }
  over_blank y out none more step (suc k) {n} = record { over = λ ms. rw (step n (blank k ++ ms), (over_blank y out none more step k).over ms, more k, append_assoc y (out k), add-suc n, suc-add n) }
