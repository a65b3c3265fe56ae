-- Where parts end: the walk finds an end exactly where allowed parts stand that are not too deep.
use Prim.Native.Nat.{ℕ, zero, suc, ◌+◌, ◌≤◌, ◌<◌, max}
use native.Mathlib.Nat.{eq-or-lt_of_le}
use native.Mathlib.Omega.{arith}
use mathlib.Core.Path.{◌≡◌, refl, sym, ap, ◌∙◌}
use mathlib.Core.Logic.{◌⊎◌, inl, inr}
use mathlib.Core.Bool.{Bool, true, false, cond}
use mathlib.Core.Option.{some}
use mathlib.Core.List.{List, [], ◌∷◌, ◌++◌, map}
use lib.Dec.{eqb, ltb, leb}
use lib.ListN.{length, drop}
use lib.Seq.{drop-drop}
use borrow.Author.Tests.{ltb-true, ltb-false, lt-ltb, eqb-true, eqb-false, ne_eqb, le-leb, lt-leb, leb-true, leb-false}
use Rattle.base.specs.Lists.{sum, largest}
use Rattle.base.proofs.Lists.{cond_same}
use Rattle.meaning.specs.declared.Entry.{Entry}
use Rattle.meaning.specs.declared.Form.{Form}
use Rattle.meaning.specs.Tree.{Part, children, size, depth}
use Rattle.meaning.specs.Program.{parts, variables, clocks, entry_at, entries, entry_allowed, arity_of, trees}
use Rattle.meaning.proofs.Trees.{size_law, depth_law}
use Rattle.meaning.proofs.Parsing.{makes_of}
use Rattle.program_part.specs.Children.{count_if, children_of}
use Rattle.program_walk.specs.Walk.{TreeAt, part_at, along, accepted_by, end_with, part_end, parts_end}
use Rattle.program_walk.proofs.Entries.{entries_at, entries_end}
use Rattle.program_walk.proofs.Standing.{past, part_is, stands_below, stands_entry}

-- Where a part that stands at p ends, if it is not too deep; and where parts do that stand from q on
abbrev pub end_within : ℕ → Part → ℕ → ℕ
end_within levels part p = cond (leb (depth part) levels) (p + size part) 0

abbrev ends_within : ℕ → List Part → ℕ → ℕ
ends_within levels cs q = cond (leb (largest (map depth cs)) levels) (q + sum (map size cs)) 0

-- of the numbers from q on that are below e, what holds of q and of those after it holds of all
from_on : (P : ℕ → Type 0) (q e : ℕ) → P q → ((p : ℕ) → suc q ≤ p → p < e → P p) → (p : ℕ) → q ≤ p → p < e → P p
from_on P q e here later p l h = go (eq-or-lt_of_le l)
  where
    go : (q ≡ p) ⊎ (q < p) → P p
    go (inl same) = rw (← same) here
    go (inr less) = later p (omega arith) h

-- and what holds of those below m and of those from m on
up_to : (P : ℕ → Type 0) (q m e : ℕ) → ((p : ℕ) → q ≤ p → p < m → P p) → ((p : ℕ) → m ≤ p → p < e → P p) → (p : ℕ) → q ≤ p → p < e → P p
up_to P q m e low high p l h = go (ltb p m) refl
  where
    go : (b : Bool) → ltb p m ≡ b → P p
    go true t = low p l (ltb-true p m t)
    go false t = high p (ltb-false p m t) h

module _ (form : Form) (s : List ℕ) (test : ℕ → ℕ → Bool) where
  abbrev pub es : List Entry
  es = entries form s

  abbrev arity_at : ℕ → ℕ
  arity_at p = arity_of (entry_at form s p)

  abbrev allowed_at : ℕ → Bool
  allowed_at p = entry_allowed (variables s) (clocks s) (entry_at form s p)

  abbrev inner : (ℕ → ℕ → ℕ) → ℕ → ℕ
  inner inside p = cond (eqb (arity_at p) 0) (suc p) (inside (arity_at p) (suc p))

  -- what is found of part p: it is allowed, and its end passes the test
  pub record Fine (p : ℕ) : Type 0 where
    pub allowed : allowed_at p ≡ true
    pub tested : test p (p + size (part_at es p)) ≡ true

  -- a part stands at p, before others, and ends at e
  record Ends (levels p e : ℕ) (later : List Part) : Type 0 where
    part : Part
    stand : trees (drop p es) ≡ some (part ∷ later)
    shallow : depth part ≤ levels
    end_is : p + size part ≡ e
    fine : (i : ℕ) → p ≤ i → i < e → Fine i

  -- so many parts stand from q on, before others, and end at e
  record EndAll (levels q e count : ℕ) (later : List Part) : Type 0 where
    found : List Part
    many : length found ≡ count
    stand : trees (drop q es) ≡ some (found ++ later)
    shallow : largest (map depth found) ≤ levels
    end_is : q + sum (map size found) ≡ e
    fine : (i : ℕ) → q ≤ i → i < e → Fine i

  end_none : (levels q : ℕ) (later : List Part) → trees (drop q es) ≡ some later → EndAll levels q q 0 later
  end_none levels q later h =
      record { found = []; many = refl; stand = h; shallow = omega arith; end_is = omega arith; fine = λ i l b. absurd (omega arith) }

  end_more : (levels q m e count : ℕ) (later : List Part) (rest : EndAll levels m e count later) → Ends levels q m (rest.found ++ later) → EndAll levels q e (suc count) later
  end_more levels q m e count later rest first =
      record {
        found = first.part ∷ rest.found;
        many = ap suc rest.many;
        stand = first.stand;
        shallow = omega (arith, first.shallow, rest.shallow);
        end_is = omega (arith, first.end_is, rest.end_is);
        fine = up_to Fine q m e first.fine rest.fine;
      }

  -- what an end that is found says of the part
  record Found (inside : ℕ → ℕ → ℕ) (p e : ℕ) : Type 0 where
    there : p < parts s
    allowed : allowed_at p ≡ true
    ends : inner inside p ≡ e
    tested : test p e ≡ true

  found_part : (inside : ℕ → ℕ → ℕ) (p e : ℕ) → part_end form s test inside p ≡ e → (e ≡ 0 → ⊥) → Found inside p e
  unfolding part_end children_of
  found_part inside p e h some_end = go (ltb p (parts s)) refl (allowed_at p) refl h
    where
      passes : p < parts s → allowed_at p ≡ true → (b : Bool) → test p (inner inside p) ≡ b → cond b (inner inside p) 0 ≡ e → Found inside p e
      passes t a true b-is c = record { there = t; allowed = a; ends = c; tested = ap (test p) (sym c) ∙ b-is }
      passes t a false b-is c = absurd (some_end (sym c))

      go : (b : Bool) → ltb p (parts s) ≡ b → (a : Bool) → allowed_at p ≡ a → cond b (accepted_by (test p) (end_with inside (count_if a (arity_at p)) p)) 0 ≡ e → Found inside p e
      go true t true a c = passes (ltb-true p (parts s) t) a (test p (inner inside p)) refl c
      go true t false a c = absurd (some_end (sym c ∙ cond_same (test p 0) 0))
      go false t a a-is c = absurd (some_end (sym c))

  -- An end that is found stands after the part
  abbrev pub Further : (ℕ → ℕ → ℕ) → Type 0
  Further inside = (count q : ℕ) → (inside count q ≡ 0 → ⊥) → q ≤ inside count q

  pub part_further : (inside : ℕ → ℕ → ℕ) → Further inside → (p : ℕ) → (part_end form s test inside p ≡ 0 → ⊥) → p < part_end form s test inside p
  part_further inside further p some_end =
      let f = found_part inside p (part_end form s test inside p) refl some_end in
      go (eqb (arity_at p) 0) f.ends
    where
      go : (b : Bool) → cond b (suc p) (inside (arity_at p) (suc p)) ≡ part_end form s test inside p → p < part_end form s test inside p
      go true c = omega (arith, c)
      go false c = omega (arith, c, further (arity_at p) (suc p) (λ z. some_end (sym c ∙ z)))

  along_further : (end : ℕ → ℕ) → ((p : ℕ) → (end p ≡ 0 → ⊥) → p < end p) → Further (along end)
  unfolding along
  along_further end single zero q some_end = omega arith
  along_further end single (suc count) q some_end = go (along_further end single count (end q)) (eqb (end q) 0) refl some_end
    where
      go : ((along end count (end q) ≡ 0 → ⊥) → end q ≤ along end count (end q)) → (b : Bool) → eqb (end q) 0 ≡ b → (cond b 0 (along end count (end q)) ≡ 0 → ⊥) → q ≤ cond b 0 (along end count (end q))
      go others true z h = absurd (h refl)
      go others false z h = omega (arith, others h, single q (eqb-false (end q) 0 z))

  pub parts_further : (levels : ℕ) → Further (parts_end form s test levels)
  unfolding parts_end
  parts_further zero count q some_end = absurd (some_end refl)
  parts_further (suc levels) count q some_end = along_further (part_end form s test (parts_end form s test levels)) (part_further (parts_end form s test levels) (parts_further levels)) count q some_end

  -- The parts that end somewhere stand there: first the children, then the part itself
  End : ℕ → (ℕ → ℕ → ℕ) → Type 0
  End levels inside = (count q e : ℕ) (later : List Part) → inside count q ≡ e → (e ≡ 0 → ⊥) → trees (drop e es) ≡ some later → EndAll levels q e count later

  inside_ends : (levels : ℕ) (inside : ℕ → ℕ → ℕ) → End levels inside → (p e : ℕ) (later : List Part) → inner inside p ≡ e → (e ≡ 0 → ⊥) → trees (drop e es) ≡ some later → EndAll levels (suc p) e (arity_at p) later
  unfolding End
  inside_ends levels inside ends p e later h some_end t = go (eqb (arity_at p) 0) refl h
    where
      go : (b : Bool) → eqb (arity_at p) 0 ≡ b → cond b (suc p) (inside (arity_at p) (suc p)) ≡ e → EndAll levels (suc p) e (arity_at p) later
      go true z c = rw (eqb-true (arity_at p) 0 z, ← c) (end_none levels (suc p) later (rw c t))
      go false z c = ends (arity_at p) (suc p) e later c some_end t

  part_ends : (levels : ℕ) (inside : ℕ → ℕ → ℕ) → End levels inside → (p e : ℕ) (later : List Part) → part_end form s test inside p ≡ e → (e ≡ 0 → ⊥) → trees (drop e es) ≡ some later → Ends (suc levels) p e later
  unfolding trees
  part_ends levels inside ends p e later h some_end t =
      let f : Found inside p e = found_part inside p e h some_end in
      let i : EndAll levels (suc p) e (arity_at p) later = inside_ends levels inside ends p e later f.ends some_end t in
      let m = makes_of (entry_at form s p) (variables s) (clocks s) i.found later f.allowed i.many in
      let stands : trees (drop p es) ≡ some (m.0 ∷ later) = rw (entries_at form s p f.there, i.stand) m.2 in
      let e-is : p + size m.0 ≡ e = omega (arith, size_law m.0, ap (λ (cs : List Part). sum (map size cs)) m.1, i.end_is) in
      record {
        part = m.0;
        stand = stands;
        shallow = omega (arith, depth_law m.0, ap (λ (cs : List Part). largest (map depth cs)) m.1, i.shallow);
        end_is = e-is;
        fine = from_on Fine p e (record { allowed = f.allowed; tested = rw (part_is es p m.0 later stands, e-is) f.tested }) i.fine;
      }

  along_ends : (levels : ℕ) (end : ℕ → ℕ) → ((p e : ℕ) (later : List Part) → end p ≡ e → (e ≡ 0 → ⊥) → trees (drop e es) ≡ some later → Ends levels p e later) → End levels (along end)
  unfolding End along
  along_ends levels end single zero q e later h some_end t = rw (← h) (end_none levels q later (rw h t))
  along_ends levels end single (suc count) q e later h some_end t = go (λ c. along_ends levels end single count (end q) e later c some_end t) (eqb (end q) 0) refl h
    where
      go : (along end count (end q) ≡ e → EndAll levels (end q) e count later) → (b : Bool) → eqb (end q) 0 ≡ b → cond b 0 (along end count (end q)) ≡ e → EndAll levels q e (suc count) later
      go others true z c = absurd (some_end (sym c))
      go others false z c =
          let rest : EndAll levels (end q) e count later = others c in
          end_more levels q (end q) e count later rest (single q (end q) (rest.found ++ later) refl (eqb-false (end q) 0 z) rest.stand)

  parts_ends : (levels : ℕ) → End levels (parts_end form s test levels)
  unfolding End parts_end
  parts_ends zero count q e later h some_end t = absurd (some_end (sym h))
  parts_ends (suc levels) count q e later h some_end t =
      along_ends (suc levels) (part_end form s test (parts_end form s test levels)) (part_ends levels (parts_end form s test levels) (parts_ends levels)) count q e later h some_end t

  -- The other way round: allowed parts that stand somewhere are found to end where they do
  module _ (fine : (p : ℕ) → p < parts s → Fine p) where
    test_passes : (levels p : ℕ) (c : Part) → p < parts s → part_at es p ≡ c → accepted_by (test p) (end_within levels c p) ≡ end_within levels c p
    test_passes levels p c there c-is = go (leb (depth c) levels)
      where
        go : (b : Bool) → accepted_by (test p) (cond b (p + size c) 0) ≡ cond b (p + size c) 0
        go true = rw (rw c-is at (fine p there).tested)
        go false = cond_same (test p 0) 0

    -- children are reached one after the other
    reached_more : (levels q : ℕ) (c : Part) (cs : List Part) → cond (eqb (end_within levels c q) 0) 0 (ends_within levels cs (end_within levels c q)) ≡ ends_within levels (c ∷ cs) q
    reached_more levels q c cs = go (leb (depth c) levels) refl (leb (largest (map depth cs)) levels) refl
      where
        go : (x : Bool) → leb (depth c) levels ≡ x → (y : Bool) → leb (largest (map depth cs)) levels ≡ y → cond (eqb (cond x (q + size c) 0) 0) 0 (cond y (cond x (q + size c) 0 + sum (map size cs)) 0) ≡ ends_within levels (c ∷ cs) q
        go true x-is true y-is =
            rw (ne_eqb (q + size c) 0 (λ z. omega (arith, size_law c)), le-leb (max (depth c) (largest (map depth cs))) levels (omega (arith, leb-true (depth c) levels x-is, leb-true (largest (map depth cs)) levels y-is)))
            (omega arith)
        go true x-is false y-is =
            rw (ne_eqb (q + size c) 0 (λ z. omega (arith, size_law c)), lt-leb (max (depth c) (largest (map depth cs))) levels (omega (arith, leb-false (largest (map depth cs)) levels y-is)))
        go false x-is y y-is = rw (lt-leb (max (depth c) (largest (map depth cs))) levels (omega (arith, leb-false (depth c) levels x-is)))

    -- a part is reached with its children, one level further down
    reached_part : (levels p : ℕ) (c : Part) → ends_within levels (children c) (suc p) ≡ end_within (suc levels) c p
    reached_part levels p c = go (leb (largest (map depth (children c))) levels) refl
      where
        go : (b : Bool) → leb (largest (map depth (children c))) levels ≡ b → cond b (suc p + sum (map size (children c))) 0 ≡ end_within (suc levels) c p
        go true t = rw (le-leb (depth c) (suc levels) (omega (arith, depth_law c, leb-true (largest (map depth (children c))) levels t))) (omega (arith, size_law c))
        go false t = rw (lt-leb (depth c) (suc levels) (omega (arith, depth_law c, leb-false (largest (map depth (children c))) levels t)))

    Reach : ℕ → Type 0
    Reach levels = (q : ℕ) (cs later : List Part) → trees (drop q es) ≡ some (cs ++ later) → (length cs ≡ 0 → ⊥) → parts_end form s test levels (length cs) q ≡ ends_within levels cs q

    part_reached : (levels : ℕ) → Reach levels → (p : ℕ) (c : Part) (later : List Part) → trees (drop p es) ≡ some (c ∷ later) → part_end form s test (parts_end form s test levels) p ≡ end_within (suc levels) c p
    unfolding Reach part_end children_of
    part_reached levels reach p c later h =
        let st : TreeAt es p = record { part = c; later = later; is = h } in
        let there : p < parts s = stands_below form s p st in
        let peeled = stands_entry form s p st in
        let inner-is : inner (parts_end form s test levels) p ≡ end_within (suc levels) c p = inner_reached (children c) refl peeled.arity_is peeled.inside ∙ reached_part levels p c in
        rw (lt-ltb p (parts s) there, (fine p there).allowed) (ap (accepted_by (test p)) inner-is ∙ test_passes (suc levels) p c there (part_is es p c later h))
      where
        inner_reached : (cs : List Part) → children c ≡ cs → arity_at p ≡ length (children c) → trees (drop (suc p) es) ≡ some (children c ++ later) → inner (parts_end form s test levels) p ≡ ends_within levels (children c) (suc p)
        inner_reached [] cs-are a i = rw (a, cs-are, le-leb 0 levels (omega arith)) (omega arith)
        inner_reached (d ∷ ds) cs-are a i = rw (a, cs-are, ne_eqb (suc (length ds)) 0 (λ z. omega arith)) (reach (suc p) (d ∷ ds) later (i ∙ ap (λ (xs : List Part). some (xs ++ later)) cs-are) (λ z. omega arith))

    along_reached : (levels : ℕ) (end : ℕ → ℕ) → ((p : ℕ) (c : Part) (later : List Part) → trees (drop p es) ≡ some (c ∷ later) → end p ≡ end_within levels c p) → (q : ℕ) (cs later : List Part) → trees (drop q es) ≡ some (cs ++ later) → along end (length cs) q ≡ ends_within levels cs q
    unfolding along
    along_reached levels end single q [] later h = rw (le-leb 0 levels (omega arith)) (omega arith)
    along_reached levels end single q (c ∷ cs) later h =
        rw (single q c (cs ++ later) h) (go (along_reached levels end single (q + size c) cs later (ap trees (sym (drop-drop (size c) q es)) ∙ past c (drop q es) (cs ++ later) h)) (leb (depth c) levels))
        ∙ reached_more levels q c cs
      where
        go : along end (length cs) (q + size c) ≡ ends_within levels cs (q + size c) → (b : Bool) → cond (eqb (cond b (q + size c) 0) 0) 0 (along end (length cs) (cond b (q + size c) 0)) ≡ cond (eqb (cond b (q + size c) 0) 0) 0 (ends_within levels cs (cond b (q + size c) 0))
        go others true = ap (cond (eqb (q + size c) 0) 0) others
        go others false = refl

    parts_reached : (levels : ℕ) → Reach levels
    unfolding Reach parts_end
    parts_reached zero q [] later h some_part = absurd (some_part refl)
    parts_reached zero q (c ∷ cs) later h some_part = rw (lt-leb (max (depth c) (largest (map depth cs))) 0 (omega (arith, depth_law c)))
    parts_reached (suc levels) q cs later h some_part =
        along_reached (suc levels) (part_end form s test (parts_end form s test levels)) (part_reached levels (parts_reached levels)) q cs later h

    -- a tree that stands alone is found to end where it does
    pub whole_reached : (levels : ℕ) (c : Part) → trees es ≡ some (c ∷ []) → parts_end form s test levels 1 0 ≡ end_within levels c 0
    unfolding Reach
    whole_reached levels c h =
        let deepest : max (depth c) 0 ≡ depth c = omega arith in
        let long : 0 + (size c + 0) ≡ 0 + size c = omega arith in
        parts_reached levels 0 (c ∷ []) [] h (λ z. omega arith) ∙ rw (deepest, long)

  -- What a walk that ends at the last part says: one tree stands, and each part of it is fine
  pub record WholeTree (levels : ℕ) : Type 0 where
    pub part : Part
    pub tree : trees es ≡ some (part ∷ [])
    pub shallow : depth part ≤ levels
    pub fine : (p : ℕ) → p < parts s → Fine p

  pub whole : (levels : ℕ) → parts_end form s test levels 1 0 ≡ parts s → (parts s ≡ 0 → ⊥) → WholeTree levels
  unfolding End trees
  whole levels h some_part =
      let w : EndAll levels 0 (parts s) 1 [] = parts_ends levels 1 0 (parts s) [] h some_part (ap trees (entries_end form s)) in
      go w.found w.many w.stand w.shallow w.fine
    where
      go : (ps : List Part) → length ps ≡ 1 → trees es ≡ some (ps ++ []) → largest (map depth ps) ≤ levels → ((p : ℕ) → 0 ≤ p → p < parts s → Fine p) → WholeTree levels
      go [] l t d f = absurd (omega arith)
      go (p ∷ []) l t d f = record { part = p; tree = t; shallow = omega (arith, d); fine = λ i b. f i (omega arith) b }
      go (p ∷ q ∷ ps) l t d f = absurd (omega arith)
