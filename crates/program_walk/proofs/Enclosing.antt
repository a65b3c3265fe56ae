-- How many parts a part stands in, by the tree and by the ends in a table's rows: as many.
use Prim.Native.Nat.{ℕ, zero, suc, ◌+◌, ◌-◌, ◌≤◌, ◌<◌}
use native.Mathlib.Nat.{eq-or-lt_of_le, add-zero, add-suc, suc-add}
use native.Mathlib.Omega.{arith}
use mathlib.Core.Path.{◌≡◌, refl, sym, ap, ◌∙◌}
use mathlib.Core.Logic.{◌⊎◌, inl, inr}
use mathlib.Core.Bool.{true}
use mathlib.Core.List.{List, [], ◌∷◌, map}
use lib.Dec.{ltb}
use lib.ListN.{get_or}
use borrow.Author.Tests.{lt-ltb, le-ltb}
use Rattle.base.specs.Lists.{sum, flat, tabulate, flag}
use Rattle.meaning.specs.Sizes.{no_part}
use Rattle.meaning.specs.declared.kinds.Kind.{Kind}
use Rattle.meaning.specs.Tree.{Part, children, size}
use Rattle.meaning.specs.Program.{Within}
use Rattle.meaning.specs.Table.{table_of, end_at, is_table}
use Rattle.meaning.proofs.Trees.{All, part_ind, size_law}
use Rattle.meaning.proofs.Tables.{tree_table}
use Rattle.meaning.proofs.Lies.{Lies, LieIn, own_row, children_lie, first_lies, others_lie, root_lies}
use Rattle.meaning.proofs.Nesting.{lower, nested}
use Rattle.program_walk.specs.Steps.{around, around_by}
use Rattle.program_walk.proofs.TreeSteps.{around_root, around_inside, around_first, around_later}

-- a sum over numbers one after the other, in two runs
sum_split : (f : ℕ → ℕ) (i n m : ℕ) → sum (tabulate f i (n + m)) ≡ sum (tabulate f i n) + sum (tabulate f (i + n) m)
sum_split f i zero m = let z : 0 + m ≡ m = omega arith in rw (z, add-zero i) (omega arith)
sum_split f i (suc n) m = rw (suc-add n m, add-suc i n, ← suc-add i n) (omega (arith, sum_split f (suc i) n m))

sum_none : (f : ℕ → ℕ) (i n : ℕ) → ((c : ℕ) → i ≤ c → c < i + n → f c ≡ 0) → sum (tabulate f i n) ≡ 0
sum_none f i zero h = refl
sum_none f i (suc n) h = omega (arith, h i (omega arith) (omega arith), sum_none f (suc i) n (λ c a b. h c (omega arith) (omega arith)))

module _ (t : List ℕ) (table : is_table t ≡ true) where
  abbrev after : ℕ → ℕ → ℕ
  after p q = flag (ltb p (end_at t q))

  -- of the first i parts of those that lie from n on, as many end after the next as stand around it there
  Counts : Part → Type 0
  Counts p = (n q x : ℕ) → Lies t p n q x → (i : ℕ) → i < size p → sum (tabulate (after (n + i)) n i) ≡ get_or (around p) i 0

  -- a part, and each inside it, ends where it does or before
  closed : {p : Part} {n q x : ℕ} → Lies t p n q x → (r : ℕ) → n ≤ r → r < n + size p → end_at t r ≤ n + size p
  closed {p} {n} l r a b = go (eq-or-lt_of_le a)
    where
      go : (n ≡ r) ⊎ (n < r) → end_at t r ≤ n + size p
      go (inl same) = rw (← same) (omega (arith, (own_row l).end_is))
      go (inr less) = omega (arith, (own_row l).end_is, nested t table n r (less, omega (arith, (own_row l).end_is)))

  -- none of a part's ends after a part that comes later
  none_after : {p : Part} {n q x : ℕ} → Lies t p n q x → (i : ℕ) → n + size p ≤ i → sum (tabulate (after i) n (size p)) ≡ 0
  none_after {p} {n} l i h = sum_none (after i) n (size p) (λ c a b. ap flag (le-ltb i (end_at t c) (omega (arith, closed l c a b))))

  each_counts : (cs : List Part) → All Counts cs → {k : Kind} {q n : ℕ} → LieIn t k q n cs → (i : ℕ) → i < sum (map size cs) → sum (tabulate (after (n + i)) n i) ≡ get_or (flat around cs) i 0
  unfolding Counts
  each_counts [] h l i b = absurd (omega (arith, b))
  each_counts (c ∷ cs) h {k} {q} {n} l i b =
      go (lower i (size c)) (λ d. each_counts cs h.1 (others_lie l) (i - size c) (omega arith))
    where
      go : (i < size c) ⊎ (size c ≤ i) → (size c ≤ i → sum (tabulate (after (n + size c + (i - size c))) (n + size c) (i - size c)) ≡ get_or (flat around cs) (i - size c) 0) → sum (tabulate (after (n + i)) n i) ≡ get_or (flat around (c ∷ cs)) i 0
      go (inl d) others = h.0 n q _ (first_lies l) i d ∙ sym (around_first c cs i d)
      go (inr d) others =
          let there : n + size c + (i - size c) ≡ n + i = omega arith in
          let split : size c + (i - size c) ≡ i = omega arith in
          let front = none_after (first_lies l) (n + i) (omega arith) in
          let back : sum (tabulate (after (n + i)) (n + size c) (i - size c)) ≡ get_or (flat around cs) (i - size c) 0 = rw there at (others d) in
          let both = rw split at (sum_split (after (n + i)) n (size c) (i - size c)) in
          let later = rw split at (around_later c cs (i - size c)) in
          omega (arith, both, front, back, later)

  counts : (p : Part) → Counts p
  unfolding Counts
  counts = part_ind Counts step
    where
      step : (p : Part) → All Counts (children p) → Counts p
      step p h n q x l zero b = sym (around_root p)
      step p h n q x l (suc i) b =
          let own : after (n + suc i) n ≡ 1 = ap flag (lt-ltb (n + suc i) (end_at t n) (omega (arith, (own_row l).end_is))) in
          let there : suc n + i ≡ n + suc i = omega arith in
          let inside = rw there at (each_counts (children p) h (children_lie l) i (omega (arith, b, size_law p))) in
          omega (arith, own, inside, around_inside p i (omega (arith, b, size_law p)))

-- part i of a tree stands in as many parts as there are before it, in the tree's table, that end after it
pub around_ends : (v k : ℕ) (p : Part) → Within v k p → (i : ℕ) → i < size p → around_by (table_of v k p) i ≡ get_or (around p) i 0
unfolding around_by Counts
around_ends v k p w i h =
    let z : 0 + i ≡ i = omega arith in
    rw z at (counts (table_of v k p) (tree_table v k p w) p 0 no_part no_part (root_lies v k p w) i h)
