-- How the parts of a table stand inside one another: a part inside another lies there among its parent's children.
use Prim.Native.Nat.{ℕ, suc, ◌+◌, ◌*◌, ◌≤◌, ◌<◌}
use native.Mathlib.Nat.{eq-or-lt_of_le, eq-zero-or-pos}
use native.Mathlib.Omega.{arith}
use mathlib.Core.Path.{◌≡◌, refl, sym, subst}
use mathlib.Core.Logic.{◌⊎◌, inl, inr}
use mathlib.Core.Bool.{Bool, true, false}
use mathlib.Core.List.{List, [], ◌∷◌, map}
use lib.Dec.{ltb}
use lib.ListN.{length, get_or-eq_default}
use borrow.Author.Tests.{ltb-true, ltb-false}
use Rattle.base.specs.Lists.{sum}
use Rattle.meaning.specs.Sizes.{no_part, header_length, row_length}
use Rattle.meaning.specs.declared.kinds.Kind.{Kind}
use Rattle.meaning.specs.Tree.{Part, children, size}
use Rattle.meaning.specs.Program.{parts, variables, clocks}
use Rattle.meaning.specs.Table.{end_at, parent_at, next_at, Inside, inside_of, is_table}
use Rattle.meaning.proofs.Trees.{All, part_ind, size_law, size_inner}
use Rattle.meaning.proofs.Tables.{table_held, inside as within, root_end}
use Rattle.meaning.proofs.Lies.{Lies, LieIn, own_row, children_lie, first_lies, others_lie, root_lies}

-- a part lies at number i
pub record At (t : List ℕ) (i : ℕ) : Type 0 where
  pub part : Part
  pub parent : ℕ
  pub next : ℕ
  pub lies : Lies t part i parent next

-- of two numbers the first is lower, or it is not
pub lower : (a b : ℕ) → (a < b) ⊎ (b ≤ a)
lower a b = go (ltb a b) refl
  where
    go : (c : Bool) → ltb a b ≡ c → (a < b) ⊎ (b ≤ a)
    go true e = inl (ltb-true a b e)
    go false e = inr (ltb-false a b e)

-- part m lies before its later siblings inside a parent, which stands from number n on and ends at e or before
pub record Found (t : List ℕ) (n e m : ℕ) : Type 0 where
  pub of : Kind
  pub parent : ℕ
  pub part : Part
  pub others : List Part
  pub lie : LieIn t of parent m (part ∷ others)
  pub parent_from : n ≤ parent
  pub parent_before : parent < m
  pub parent_end : end_at t parent ≤ e
  pub ends : m + size part + sum (map size others) ≡ end_at t parent

module _ (t : List ℕ) where
  Finds : Part → Type 0
  Finds p = (n q x : ℕ) → Lies t p n q x → (m : ℕ) → n < m → m < n + size p → Found t n (n + size p) m

  -- among parts one after the other
  find_in : (ps : List Part) → All Finds ps → {k : Kind} {q n : ℕ} → LieIn t k q n ps → q < n → end_at t q ≡ n + sum (map size ps) → (m : ℕ) → n ≤ m → m < n + sum (map size ps) → Found t q (end_at t q) m
  unfolding Finds
  find_in [] h l b e m a c = absurd (omega arith)
  find_in (p ∷ ps) h {k} {q} {n} l b e m a c =
      here (eq-or-lt_of_le a) (λ d. find_in ps h.1 (others_lie l) (omega arith) (omega arith) m d (omega arith))
    where
      beyond : (m < n + size p) ⊎ (n + size p ≤ m) → n < m → (n + size p ≤ m → Found t q (end_at t q) m) → Found t q (end_at t q) m
      beyond (inl d) f g =
          let r = h.0 n q _ (first_lies l) m f d in
          record { of = r.of; parent = r.parent; part = r.part; others = r.others; lie = r.lie; parent_from = omega (arith, r.parent_from); parent_before = r.parent_before; parent_end = omega (arith, r.parent_end); ends = r.ends }
      beyond (inr d) f g = g d

      here : (n ≡ m) ⊎ (n < m) → (n + size p ≤ m → Found t q (end_at t q) m) → Found t q (end_at t q) m
      here (inl same) g =
          subst (λ i. Found t q (end_at t q) i) same
          (record { of = k; parent = q; part = p; others = ps; lie = l; parent_from = omega arith; parent_before = b; parent_end = omega arith; ends = omega arith })
      here (inr f) g = beyond (lower m (n + size p)) f g

  -- a part that stands inside another
  pub find : (p : Part) {n q x : ℕ} → Lies t p n q x → (m : ℕ) → n < m → m < n + size p → Found t n (n + size p) m
  unfolding Finds
  find p {n} {q} {x} = part_ind Finds step p n q x
    where
      step : (p : Part) → All Finds (children p) → Finds p
      step p h n q x l m a b =
          let e : end_at t n ≡ suc n + sum (map size (children p)) = omega (arith, (own_row l).end_is, size_law p) in
          rw (own_row l).end_is at (find_in (children p) h (children_lie l) (omega arith) e m a (omega (arith, size_law p)))

module _ (t : List ℕ) (table : is_table t ≡ true) where
  -- the root lies in the table, with all parts
  root : (p : Part) × (parts t ≡ size p) × Lies t p 0 no_part no_part
  root =
      let x = table_held t table in
      (x.0, x.1.parts_are, subst (λ s. Lies s x.0 0 no_part no_part) (sym x.2) (root_lies (variables t) (clocks t) x.0 x.1.within))

  -- the root has no parent and no next
  pub root_parent : parent_at t 0 ≡ no_part
  root_parent = (own_row root.2).parent_is

  pub root_next : next_at t 0 ≡ no_part
  root_next = (own_row root.2).next_is

  -- every other part stands inside the root
  pub inside_root : (p : ℕ) → 0 < p → p < parts t → Inside t 0 p
  inside_root p a b = (a, omega (arith, root_end t table))

  -- a part lies at each number below the number of parts
  pub at : (q : ℕ) → q < parts t → At t q
  at q h = go (eq-zero-or-pos q)
    where
      go : (q ≡ 0) ⊎ (0 < q) → At t q
      go (inl e) = rw e (record { part = root.0; parent = no_part; next = no_part; lies = root.2 })
      go (inr l) =
          let f = find t root.0 root.2 q l (omega (arith, root.1)) in
          record { part = f.part; parent = f.parent; next = _; lies = first_lies f.lie }

  module _ (q p : ℕ) (i : Inside t q p) where
    -- only a part of the table has parts inside it
    pub outer_part : q < parts t
    outer_part = go (ltb q (parts t)) refl
      where
        go : (b : Bool) → ltb q (parts t) ≡ b → q < parts t
        go true e = ltb-true q (parts t) e
        go false e =
            let l : length t ≤ header_length + row_length * q + 1 = omega (arith, ltb-false q (parts t) e, (table_held t table).1.length_is) in
            absurd (omega (arith, get_or-eq_default t 0 l))

    -- and only a part of the table stands inside another
    pub inner_part : p < parts t
    inner_part = omega (arith, i.1, (within t table q outer_part).end_within_lem)

    -- a part that stands inside another lies there
    pub found : Found t q (end_at t q) p
    found =
        let a : At t q = at q outer_part in
        let e = (own_row a.lies).end_is in
        rw (← e) at (find t a.part a.lies p i.0 (omega (arith, e, i.1)))

    parent_found : parent_at t p ≡ found.parent
    parent_found = (own_row (first_lies found.lie)).parent_is

    -- "end (one past the part's last descendant)": a part inside another ends no later
    pub nested : end_at t p ≤ end_at t q
    nested = omega (arith, (own_row (first_lies found.lie)).end_is, found.ends, found.parent_end)

    -- its parent is the other, or stands inside it
    pub parent_inside : (parent_at t p ≡ q) ⊎ Inside t q (parent_at t p)
    parent_inside = rw parent_found (go (eq-or-lt_of_le found.parent_from))
      where
        go : (q ≡ found.parent) ⊎ (q < found.parent) → (found.parent ≡ q) ⊎ Inside t q found.parent
        go (inl e) = inl (sym e)
        go (inr l) = inr (l, omega (arith, found.parent_before, i.1))

    -- and it stands inside its parent
    pub inside_parent : Inside t (parent_at t p) p
    inside_parent = rw parent_found (found.parent_before, omega (arith, found.ends, size_inner found.part))

  -- of the k parts from number n on, none ends beyond them
  abbrev pub Closed : ℕ → ℕ → Type 0
  Closed n k = (r : ℕ) → n ≤ r → r < n + k → end_at t r ≤ n + k

  -- so are the parts inside a part
  pub closed_inside : (q : ℕ) → Closed (suc q) (inside_of t q)
  closed_inside q r h k = omega (arith, nested q r (h, omega arith))

  -- no parts at all
  pub closed_none : (n : ℕ) → Closed n 0
  closed_none n r h k = absurd (omega arith)

  -- and those after the first of such parts
  pub closed_rest : (n k : ℕ) → Closed n (suc k) → Closed (suc n) k
  closed_rest n k c r h l = omega (arith, c r (omega arith) (omega arith))
