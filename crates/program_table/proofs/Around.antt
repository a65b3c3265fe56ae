-- Where a part of a table stands: which part is around it, and what follows it.
use Prim.Native.Nat.{ℕ, ◌+◌, ◌-◌, ◌≤◌, ◌<◌}
use native.Mathlib.Nat.{eq-or-lt_of_le}
use native.Mathlib.Omega.{arith}
use mathlib.Core.Path.{◌≡◌, sym}
use mathlib.Core.Logic.{◌⊎◌, inl, inr}
use mathlib.Core.Bool.{true}
use mathlib.Core.List.{List, [], ◌∷◌, map}
use lib.Dec.{ltb}
use borrow.Author.Tests.{lt-ltb, le-ltb}
use Rattle.base.specs.Lists.{sum, nonempty}
use Rattle.meaning.specs.Tree.{Part, size}
use Rattle.meaning.specs.Program.{parts}
use Rattle.meaning.specs.Table.{next_of, block, end_at, parent_at, next_at, kind_at, Inside, is_table}
use Rattle.meaning.proofs.Trees.{size_law}
use Rattle.meaning.proofs.Lies.{own_row, first_lies}
use Rattle.meaning.proofs.Nesting.{Found, found, inside_root, parent_inside, inside_parent}

module _ (t : List ℕ) (table : is_table t ≡ true) (p : ℕ) (first : 0 < p) (there : p < parts t) where
  stands : Inside t (parent_at t p) p
  stands = inside_parent t table 0 p (inside_root t table p first there)

  pub parent_before : parent_at t p < p
  parent_before = stands.0

  -- q is the part around p, or stands inside it
  abbrev pub ParentOrInside : ℕ → Type 0
  ParentOrInside q = (parent_at t p ≡ q) ⊎ Inside t (parent_at t p) q

  -- the part just before p is such a part
  pub within_first : ParentOrInside (p - 1)
  within_first =
      let low : parent_at t p ≤ p - 1 = omega (arith, stands.0) in
      go (eq-or-lt_of_le low)
    where
      go : (parent_at t p ≡ p - 1) ⊎ (parent_at t p < p - 1) → ParentOrInside (p - 1)
      go (inl e) = inl e
      go (inr l) = inr (l, omega (arith, stands.1))

  module _ (q : ℕ) (before : q < p) (w : ParentOrInside q) where
    -- if it has ended before p, so is the part around it
    pub within_up : end_at t q ≤ p → ParentOrInside (parent_at t q) × (parent_at t q < q)
    within_up ended = go w
      where
        turn : (parent_at t q ≡ parent_at t p) ⊎ Inside t (parent_at t p) (parent_at t q) → ParentOrInside (parent_at t q)
        turn (inl e) = inl (sym e)
        turn (inr i) = inr i

        go : ParentOrInside q → ParentOrInside (parent_at t q) × (parent_at t q < q)
        go (inl e) = absurd (omega (arith, e, stands.1, rw e at stands.1))
        go (inr i) = (turn (parent_inside t table (parent_at t p) q i), (inside_parent t table (parent_at t p) q i).0)

    -- and if not, it is the part around p
    pub within_found : p < end_at t q → q ≡ parent_at t p
    within_found later = go w
      where
        other : Inside t (parent_at t p) q → (parent_at t p ≡ q) ⊎ Inside t q (parent_at t p) → q ≡ parent_at t p
        other i (inl e) = sym e
        other i (inr j) = absurd (omega (arith, i.0, j.0))

        go : ParentOrInside q → q ≡ parent_at t p
        go (inl e) = sym e
        go (inr i) = other i (parent_inside t table q p (before, later))

  -- what follows p, by the kind of the part around it and by where the two end
  pub next_implied : next_at t p ≡ next_of (kind_at t (parent_at t p)) p (end_at t p) (ltb (end_at t p) (end_at t (parent_at t p)))
  next_implied =
      let f : Found t 0 (end_at t 0) p = found t table 0 p (inside_root t table p first there) in
      let own = own_row (first_lies f.lie) in
      let follows : ltb (p + size f.part) (end_at t f.parent) ≡ nonempty (map block f.others) = go (p + size f.part) (end_at t f.parent) f.others f.ends in
      rw (own.next_is, own.end_is, own.parent_is, f.lie.kind_is, follows)
    where
      go : (n e : ℕ) (others : List Part) → n + sum (map size others) ≡ e → ltb n e ≡ nonempty (map block others)
      go n e [] h = le-ltb n e (omega arith)
      go n e (c ∷ cs) h = lt-ltb n e (omega (arith, size_law c))
