-- How the children of a part stand in a table, each where the one before it ends; and which parts a count of marked children and the judgement of all parts may pass over.
use Prim.Native.Nat.{ℕ, zero, suc, ◌+◌, ◌<◌, ◌≤◌}
use native.Mathlib.Nat.{zero-add, add-zero, add-suc, suc-add}
use native.Mathlib.Omega.{arith}
use mathlib.Core.Path.{◌≡◌, refl}
use mathlib.Core.Logic.{◌⊎◌, inl, inr}
use mathlib.Core.Bool.{Bool, true, false, ◌||◌, and-false, true≢false}
use mathlib.Core.List.{List, [], ◌∷◌}
use lib.ListN.{get_or, take, drop}
use borrow.Author.Tests.{ne_eqb}
use Rattle.base.specs.Lists.{any, bytes_at}
use Rattle.meaning.specs.Table.{end_at, parent_at, Inside, inside_of, is_table}
use Rattle.meaning.specs.Record.{is_mark, marked_children, parts_allowed}
use Rattle.meaning.proofs.Tables.{inside}
use Rattle.meaning.proofs.Nesting.{Closed, lower, nested, parent_inside, inside_parent, inner_part, closed_rest}

module _ (t : List ℕ) (table : is_table t ≡ true) (p : ℕ) where
  -- the part after a part that has something inside is its child
  pub first_child : suc p < end_at t p → parent_at t (suc p) ≡ p
  first_child h = go (parent_inside t table p (suc p) i)
    where
      i : Inside t p (suc p)
      i = (omega arith, h)

      go : (parent_at t (suc p) ≡ p) ⊎ Inside t p (parent_at t (suc p)) → parent_at t (suc p) ≡ p
      go (inl e) = e
      go (inr l) = absurd (omega (arith, l.0, (inside_parent t table p (suc p) i).0))

  module _ (q : ℕ) (i : Inside t p q) (child : parent_at t q ≡ p) where
    -- what stands inside a child is no child
    pub no_child : (x : ℕ) → q < x → x < end_at t q → parent_at t x ≡ p → ⊥
    no_child x a b e = go (parent_inside t table q x (a, b))
      where
        go : (parent_at t x ≡ q) ⊎ Inside t q (parent_at t x) → ⊥
        go (inl f) = omega (arith, i.0)
        go (inr l) = omega (arith, l.0, i.0)

    beyond : q < end_at t q
    beyond = (inside t table q (inner_part t table p q i)).end_after

    -- no other part inside p goes beyond the end of a child: one before the child would be around it, and one after it stands inside it
    ends_first : (s : ℕ) → p < s → Inside t s (end_at t q) → ⊥
    ends_first s a c = go (lower s q)
      where
        around : (parent_at t q ≡ s) ⊎ Inside t s (parent_at t q) → ⊥
        around (inl f) = omega arith
        around (inr l) = omega (arith, l.0)

        same_or_inside : (q < s) ⊎ (s ≤ q) → q ≤ s → ⊥
        same_or_inside (inl l) b = omega (arith, nested t table q s (l, c.0), c.1)
        same_or_inside (inr l) b =
            let e : s ≡ q = omega arith in
            omega (arith, rw e at c.1)

        go : (s < q) ⊎ (q ≤ s) → ⊥
        go (inl b) = around (parent_inside t table s q (b, omega (arith, beyond, c.1)))
        go (inr b) = same_or_inside (lower q s) b

    -- where a child ends before its parent does the next child stands
    pub next_child : end_at t q < end_at t p → parent_at t (end_at t q) ≡ p
    next_child h = go (parent_inside t table p (end_at t q) j)
      where
        j : Inside t p (end_at t q)
        j = (omega (arith, beyond, i.0), h)

        go : (parent_at t (end_at t q) ≡ p) ⊎ Inside t p (parent_at t (end_at t q)) → parent_at t (end_at t q) ≡ p
        go (inl e) = e
        go (inr l) = absurd (ends_first (parent_at t (end_at t q)) l.0 (inside_parent t table p (end_at t q) j))

-- neither of two tests passes where not one of them does
or_left : (a b : Bool) → (a || b) ≡ false → a ≡ false
or_left false b e = refl
or_left true b e = e

or_right : (a b : Bool) → (a || b) ≡ false → b ≡ false
or_right false b e = e
or_right true b e = absurd (true≢false e)

-- of parts that are no children of part p none counts
pub skip_count : (t r : List ℕ) (p q i k n : ℕ) → ((x : ℕ) → q ≤ x → x < q + k → parent_at t x ≡ p → ⊥) → marked_children t p q (bytes_at r i (k + n)) ≡ marked_children t p (q + k) (bytes_at r (i + k) n)
unfolding marked_children
skip_count t r p q i zero n h = rw (zero-add, add-zero, add-zero)
skip_count t r p q i (suc k) n h =
    rw (suc-add, ne_eqb (parent_at t q) p (h q (omega arith) (omega arith)), and-false (is_mark (get_or r i 0)), add-suc, add-suc, ← suc-add, ← suc-add)
    (rw zero-add (skip_count t r p (suc q) (suc i) k n (λ x a b. h x (omega arith) (omega arith))))

-- where none of some parts is marked, none of the first of them is
fewer : (j k : ℕ) (ms : List ℕ) → j ≤ k → any is_mark (take k ms) ≡ false → any is_mark (take j ms) ≡ false
fewer zero k ms h e = refl
fewer (suc j) zero ms h e = absurd (omega arith)
fewer (suc j) (suc k) [] h e = refl
fewer (suc j) (suc k) (m ∷ ms) h e = rw (or_left (is_mark m) _ e, fewer j k ms (omega arith) (or_right (is_mark m) _ e))

-- nothing is asked of parts that are not marked, where none of them ends beyond the last of them
pub skip_parts : (t : List ℕ) (table : is_table t ≡ true) (phase k p : ℕ) (ms : List ℕ) → any is_mark (take k ms) ≡ false → Closed t table p k → parts_allowed t phase p ms ≡ parts_allowed t phase (p + k) (drop k ms)
unfolding parts_allowed
skip_parts t table phase zero p ms e c = rw add-zero
skip_parts t table phase (suc k) p [] e c = refl
skip_parts t table phase (suc k) p (m ∷ ms) e c =
    rw (or_left (is_mark m) _ e, fewer (inside_of t p) k ms (omega (arith, c p (omega arith) (omega arith))) (or_right (is_mark m) _ e), add-suc, ← suc-add)
    (skip_parts t table phase k (suc p) ms (or_right (is_mark m) _ e) (closed_rest t table p k c))
