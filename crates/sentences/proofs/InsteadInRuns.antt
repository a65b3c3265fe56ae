-- What a board may compute instead, on its marks: each law says that it comes to the same. Beside these, `Initialised.initialised_inside` has
-- initialising by parents, and `Lowest.marked_inside` in run_marks whether something is marked inside a part, by the lowest marked part after it.
use Prim.Native.Nat.{ℕ, zero, suc, ◌+◌, ◌≤◌, ◌<◌}
use native.Mathlib.Nat.{zero-add, add-zero, eq-zero-or-pos}
use native.Mathlib.Omega.{arith}
use mathlib.Core.Path.{◌≡◌, refl}
use mathlib.Core.Bool.{true, and-false}
use mathlib.Core.Logic.{◌↔◌, ◌⊎◌, inl, inr}
use mathlib.Core.List.{List, [], ◌∷◌}
use lib.ListN.{length, get_or, take, drop, length-take, length-drop}
use borrow.Author.Tests.{ne_eqb}
use Rattle.base.proofs.Stores.{length_bytes}
use Rattle.meaning.specs.Sizes.{no_part}
use Rattle.meaning.specs.Program.{parts}
use Rattle.meaning.specs.Table.{kind_at, parent_at, Inside, inside_of, is_table}
use Rattle.meaning.specs.Record.{marks_place, phase_of, marks_in, is_mark, marked_children, children_allowed, parts_allowed}
use Rattle.meaning.proofs.Tables.{inside}
use Rattle.meaning.proofs.Lies.{own_row}
use Rattle.meaning.proofs.Nesting.{at, inside_root, parent_inside, inside_parent, outer_part, root_parent}
use Rattle.sentences.specs.Allowed.{PartMarked, PartUnmarked}
use Rattle.sentences.proofs.AllowedRecords.{child_count, marked_part, children_right, parts_right}

-- marked children counted among some parts, and among those after them
count_split : (t : List ℕ) (p k q : ℕ) (ms : List ℕ) → marked_children t p q ms ≡ marked_children t p q (take k ms) + marked_children t p (q + k) (drop k ms)
unfolding marked_children
count_split t p zero q ms = rw (add-zero, zero-add)
count_split t p (suc k) q [] = refl
count_split t p (suc k) q (m ∷ ms) =
    let e : suc q + k ≡ q + suc k = omega arith in
    omega (arith, rw e at (count_split t p k (suc q) ms))

-- none among parts that have another parent
count_none : (t : List ℕ) (p q : ℕ) (ms : List ℕ) → ((u : ℕ) → q ≤ u → u < q + length ms → parent_at t u ≡ p → ⊥) → marked_children t p q ms ≡ 0
unfolding marked_children
count_none t p q [] none = refl
count_none t p q (m ∷ ms) none = rw (ne_eqb (parent_at t q) p (none q (omega arith) (omega arith)), and-false (is_mark m), zero-add) (count_none t p (suc q) ms (λ u a b. none u (omega arith) (omega arith)))

module _ (t r : List ℕ) (table : is_table t ≡ true) where
  -- a part whose parent is part p stands inside p
  parent_around : (p u : ℕ) → p < parts t → u < parts t → parent_at t u ≡ p → Inside t p u
  parent_around p u l here e = go (eq-zero-or-pos u)
    where
      go : (u ≡ 0) ⊎ (0 < u) → Inside t p u
      go (inl z) =
          let own : parent_at t u ≡ no_part = rw z (root_parent t table) in
          absurd (omega (arith, own, (own_row (at t table p l).lies).number_fits))
      go (inr a) = rw e at (inside_parent t table 0 u (inside_root t table u a here))

  -- the marked children of a part, counted by parent in one pass over all parts
  pub counts_by_parent : (p : ℕ) → p < parts t → marked_children t p 0 (marks_in t r) ≡ child_count t r p
  counts_by_parent p l =
      let ms : List ℕ = marks_in t r in
      let after : List ℕ = drop (suc p) ms in
      let long : length ms ≡ parts t = length_bytes r marks_place (parts t) in
      let before = count_none t p 0 (take (suc p) ms) (λ u a b e. omega (arith, length-take (suc p) ms, parent_around p u l (omega (arith, length-take (suc p) ms)) e)) in
      let beyond = count_none t p (suc p + inside_of t p) (drop (inside_of t p) after) (λ u a b e. omega (arith, parent_around p u l (omega (arith, length-drop (inside_of t p) after, length-drop (suc p) ms, inside t table p l)) e)) in
      omega (arith, rw (zero-add (suc p)) at (count_split t p (suc p) 0 ms), count_split t p (inside_of t p) (suc p) after, before, beyond)

  -- "nothing is marked inside an unmarked part", where each marked part but the root has its parent marked
  pub parents_marked : ((p q : ℕ) → p < parts t → PartUnmarked t r p → Inside t p q → PartUnmarked t r q) ↔ ((q : ℕ) → 0 < q → PartMarked t r q → PartMarked t r (parent_at t q))
  parents_marked = (up, down)
    where
      up : ((p q : ℕ) → p < parts t → PartUnmarked t r p → Inside t p q → PartUnmarked t r q) → (q : ℕ) → 0 < q → PartMarked t r q → PartMarked t r (parent_at t q)
      up none q a m = go (eq-zero-or-pos (get_or (marks_in t r) (parent_at t q) 0))
        where
          around : Inside t (parent_at t q) q
          around = inside_parent t table 0 q (inside_root t table q a (marked_part t r q m))

          go : PartUnmarked t r (parent_at t q) ⊎ PartMarked t r (parent_at t q) → PartMarked t r (parent_at t q)
          go (inl z) = absurd (omega (arith, none (parent_at t q) q (outer_part t table (parent_at t q) q around) z around))
          go (inr k) = k

      blank : ((q : ℕ) → 0 < q → PartMarked t r q → PartMarked t r (parent_at t q)) → (k p q : ℕ) → q < k → PartUnmarked t r p → Inside t p q → PartUnmarked t r q
      blank above zero p q c z i = absurd (omega arith)
      blank above (suc k) p q c z i = go (eq-zero-or-pos (get_or (marks_in t r) q 0)) (parent_inside t table p q i) (λ u d. blank above k p u d z)
        where
          go : PartUnmarked t r q ⊎ PartMarked t r q → (parent_at t q ≡ p) ⊎ Inside t p (parent_at t q) → ((u : ℕ) → u < k → Inside t p u → PartUnmarked t r u) → PartUnmarked t r q
          go (inl e) j ih = e
          go (inr m) (inl e) ih = absurd (omega (arith, z, rw e at (above q (omega (arith, i)) m)))
          go (inr m) (inr j) ih = absurd (omega (arith, above q (omega (arith, i)) m, ih (parent_at t q) (omega (arith, inside_parent t table p q i)) j))

      down : ((q : ℕ) → 0 < q → PartMarked t r q → PartMarked t r (parent_at t q)) → (p q : ℕ) → p < parts t → PartUnmarked t r p → Inside t p q → PartUnmarked t r q
      down above p q l = blank above (suc q) p q (omega arith)

  -- all parts are allowed exactly where each marked one has its parent marked and an allowed count of marked children
  pub allowed_by_parents : (parts_allowed t (phase_of r) 0 (marks_in t r) ≡ true)
      ↔ ((p : ℕ) → PartMarked t r p → (0 < p → PartMarked t r (parent_at t p)) × (children_allowed (phase_of r) (kind_at t p) (marked_children t p 0 (marks_in t r)) ≡ true))
  allowed_by_parents = (
    λ h.
        let each = (parts_right t r).0 h in
        λ p m.
        let l : p < parts t = marked_part t r p m in
        (λ a. parents_marked.0 (λ u q k z i. (each u k).1 z q i.0 i.1) p a m, rw (counts_by_parent p l) ((children_right t r p (kind_at t p)).1 ((each p l).0 m))),
    λ h.
        (parts_right t r).1 (λ p l. (λ m. (children_right t r p (kind_at t p)).0 (rw (counts_by_parent p l) at (h p m).1), λ z q a b. parents_marked.1 (λ u c m. (h u m).0 c) p q l z (a, b))),
  )
