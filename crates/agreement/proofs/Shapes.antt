-- The shape of the marks of what remains: how many they are, and that something is marked.
use Prim.Native.Nat.{ℕ, zero, suc, ◌+◌}
use native.Mathlib.Omega.{arith}
use mathlib.Core.Path.{◌≡◌, refl, ap, ap₂, ◌∙◌}
use mathlib.Core.Logic.{inl, inr}
use mathlib.Core.Bool.{Bool, true, false, ◌||◌, or_assoc}
use mathlib.Core.List.{List, [], ◌∷◌, ◌++◌}
use lib.ListN.{length, drop, length-append, length-drop, length-replicate, replicate-append-replicate}
use Rattle.base.specs.Lists.{any}
use Rattle.meaning.specs.Tree.{Part, Parts, goal, start, wait, seq, par, maintain, choice, repeat, one, more, size}
use Rattle.meaning.specs.Record.{is_mark}
use Rattle.meaning.proofs.Trees.{sizes, inner, size_inner}
use Rattle.agreement.specs.Unfolding.{Rest, Current, Running, this, that, both, broken, holding, undecided, first, second}
use Rattle.agreement.proofs.Marks.{blank, marks_of, marks_current, marks_running}

-- a part at work is marked
pub marks_front : (p : Part) (r : Rest p) → marks_of p r ≡ 1 ∷ drop 1 (marks_of p r)
unfolding marks_of
marks_front (goal o) r = refl
marks_front (start o) r = refl
marks_front (wait o) r = refl
marks_front (seq ps) r = refl
marks_front (par ps) r = refl
marks_front (maintain o p) broken = refl
marks_front (maintain o p) (holding r) = refl
marks_front (choice o p q) undecided = refl
marks_front (choice o p q) (first r) = refl
marks_front (choice o p q) (second r) = refl
marks_front (repeat p) r = refl

-- what holds of no marks, of a mark before others, of blanks and of marks one after the other
pub record MarksClosed (P : ℕ → List ℕ → Type 0) : Type 0 where
  pub empty : P 0 []
  pub marked : {a : ℕ} {xs : List ℕ} → P a xs → P (suc a) (1 ∷ xs)
  pub blanks : (a : ℕ) → P a (blank a)
  pub joined : {a b : ℕ} {xs ys : List ℕ} → P a xs → P b ys → P (a + b) (xs ++ ys)

-- holds of the marks of what remains
module _ (P : ℕ → List ℕ → Type 0) (h : MarksClosed P) where
  whole : (p : Part) {xs : List ℕ} → P (inner p) xs → P (size p) (1 ∷ xs)
  whole p k = rw (size_inner p) (h.marked k)

  mutual
    unfolding marks_of marks_current marks_running

    pub marks_ind : (p : Part) (r : Rest p) → P (size p) (marks_of p r)
    marks_ind (goal o) r = whole (goal o) h.empty
    marks_ind (start o) r = whole (start o) h.empty
    marks_ind (wait o) r = whole (wait o) h.empty
    marks_ind (seq ps) r = whole (seq ps) (current_ind ps r)
    marks_ind (par ps) r = whole (par ps) (running_ind ps r)
    marks_ind (maintain o p) broken = whole (maintain o p) (h.blanks (size p))
    marks_ind (maintain o p) (holding r) = whole (maintain o p) (marks_ind p r)
    marks_ind (choice o p q) undecided = whole (choice o p q) (h.joined (h.blanks (size p)) (h.blanks (size q)))
    marks_ind (choice o p q) (first r) = whole (choice o p q) (h.joined (marks_ind p r) (h.blanks (size q)))
    marks_ind (choice o p q) (second r) = whole (choice o p q) (h.joined (h.blanks (size p)) (marks_ind q r))
    marks_ind (repeat p) r = whole (repeat p) (marks_ind p r)

    current_ind : (ps : Parts) (c : Current ps) → P (sizes ps) (marks_current ps c)
    current_ind (one p) r = marks_ind p r
    current_ind (more p ps) (inl r) = h.joined (marks_ind p r) (h.blanks (sizes ps))
    current_ind (more p ps) (inr c) = h.joined (h.blanks (size p)) (current_ind ps c)

    running_ind : (ps : Parts) (c : Running ps) → P (sizes ps) (marks_running ps c)
    running_ind (one p) r = marks_ind p r
    running_ind (more p ps) (this r) = h.joined (marks_ind p r) (h.blanks (sizes ps))
    running_ind (more p ps) (that c) = h.joined (h.blanks (size p)) (running_ind ps c)
    running_ind (more p ps) (both r c) = h.joined (marks_ind p r) (running_ind ps c)

-- a mark for each part
pub length_marks : (p : Part) (r : Rest p) → length (marks_of p r) ≡ size p
length_marks = marks_ind (λ a xs. length xs ≡ a) (record { empty = refl; marked = ap suc; blanks = λ a. length-replicate a 0; joined = λ {a} {b} {xs} {ys} e d. length-append xs ys ∙ ap₂ ◌+◌ e d })

-- and for each part inside it
pub length_inner : (p : Part) (r : Rest p) → length (drop 1 (marks_of p r)) ≡ inner p
length_inner p r = rw length-drop (omega (arith, length_marks p r, size_inner p))

-- blanks one after the other
pub blank_both : (a b : ℕ) → blank a ++ blank b ≡ blank (a + b)
blank_both a b = replicate-append-replicate a b 0

-- a test that one of two lists passes
pub any_append : {A : Type 0} (t : A → Bool) (xs ys : List A) → any t (xs ++ ys) ≡ (any t xs || any t ys)
any_append t [] ys = refl
any_append t (x ∷ xs) ys = rw (any_append t xs ys, or_assoc)

-- nothing is marked in blanks
pub any_blank : (n : ℕ) → any is_mark (blank n) ≡ false
any_blank zero = refl
any_blank (suc n) = any_blank n

-- something is marked in the marks of what remains
pub any_marks : (p : Part) (r : Rest p) → any is_mark (marks_of p r) ≡ true
any_marks p r = rw (marks_front p r)

-- something is marked where it is in the first marks, or behind blanks
pub any_first : (xs ys : List ℕ) → any is_mark xs ≡ true → any is_mark (xs ++ ys) ≡ true
any_first xs ys h = rw (any_append is_mark xs ys, h)

pub any_later : (n : ℕ) (ys : List ℕ) → any is_mark ys ≡ true → any is_mark (blank n ++ ys) ≡ true
any_later n ys h = rw (any_append is_mark (blank n) ys, any_blank n) h

-- something is marked in the marks of what remains of children
pub any_current : (ps : Parts) (c : Current ps) → any is_mark (marks_current ps c) ≡ true
unfolding marks_current
any_current (one p) r = any_marks p r
any_current (more p ps) (inl r) = any_first (marks_of p r) (blank (sizes ps)) (any_marks p r)
any_current (more p ps) (inr c) = any_later (size p) (marks_current ps c) (any_current ps c)

pub any_running : (ps : Parts) (c : Running ps) → any is_mark (marks_running ps c) ≡ true
unfolding marks_running
any_running (one p) r = any_marks p r
any_running (more p ps) (this r) = any_first (marks_of p r) (blank (sizes ps)) (any_marks p r)
any_running (more p ps) (that c) = any_later (size p) (marks_running ps c) (any_running ps c)
any_running (more p ps) (both r c) = any_first (marks_of p r) (marks_running ps c) (any_marks p r)
