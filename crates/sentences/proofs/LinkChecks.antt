-- The table check by the links of its rows: each part's children stand one after the other, and say so.
use Prim.Native.Nat.{ℕ, suc, ◌+◌, ◌≤◌, ◌<◌}
use native.Mathlib.Nat.{add-zero, eq-or-lt_of_le, eq-zero-or-pos}
use native.Mathlib.Omega.{arith}
use mathlib.Core.Path.{◌≡◌, refl, sym, ap, ap₂, ◌∙◌}
use mathlib.Core.Logic.{◌↔◌, ◌⊎◌, inl, inr}
use mathlib.Core.Bool.{true, ◌&&◌}
use mathlib.Core.List.{List, [], ◌∷◌, map}
use lib.Dec.{eqb, leb, ltb}
use lib.ListN.{length}
use borrow.Author.Tests.{eqb-true, eq-eqb, le-leb, lt-ltb, ltb-true}
use Rattle.base.specs.Lists.{sum, nonempty}
use Rattle.base.proofs.Lists.{both_true}
use Rattle.base.proofs.Facts.{both, equal, all_below}
use Rattle.meaning.specs.declared.Entry.{Entry}
use Rattle.meaning.specs.declared.Form.TheVariants.{Table}
use Rattle.meaning.specs.Sizes.{no_part, length_of}
use Rattle.meaning.specs.declared.kinds.Kind.{Kind}
use Rattle.meaning.specs.Kinds.{kind_of, arity}
use Rattle.meaning.specs.Tree.{Part, kind, children, size}
use Rattle.meaning.specs.Program.{parts, variables, clocks, entry_at, arity_of, program_refusal}
use Rattle.meaning.specs.Table.{next_of, block, table_of, end_at, parent_at, next_at, kind_at, is_table}
use Rattle.meaning.proofs.Trees.{All, part_ind, size_law, size_inner}
use Rattle.meaning.proofs.Parsing.{arity_children}
use Rattle.meaning.proofs.Files.{accepted, held_accepted}
use Rattle.meaning.proofs.Tables.{tree_table, table_held, table_holds, inside}
use Rattle.meaning.proofs.Lies.{Lies, LieIn, own_row, own_kind, children_lie, first_lies, others_lie, root_lies}
use Rattle.meaning.proofs.Nesting.{At, at, lower, root_next}
use Rattle.sentences.specs.Instead.{children_linked, part_linked, all_linked, LinksDecide}
use Rattle.sentences.proofs.TableRows.{same_entry, table_laid_down}
use Rattle.sentences.proofs.OneTable.{tables_same}

-- a sibling follows where some are left
some_left : (ps : List Part) → nonempty (map block ps) ≡ leb 1 (length ps)
some_left [] = refl
some_left (p ∷ ps) = sym (le-leb 1 (suc (length ps)) (omega arith))

-- one child of part p, at q, with n more after it
record ChildLinked (t : List ℕ) (p q n : ℕ) : Type 0 where
  there : q < parts t
  parent_is : parent_at t q ≡ p
  next_is : next_at t q ≡ next_of (kind_at t p) q (end_at t q) (leb 1 n)
  rest : children_linked t p (end_at t q) n ≡ true

-- what the test says of it
child_linked : (t : List ℕ) (p q n : ℕ) → (children_linked t p q (suc n) ≡ true) ↔ ChildLinked t p q n
unfolding children_linked
child_linked t p q n =
    let x : ℕ = next_of (kind_at t p) q (end_at t q) (leb 1 n) in
    let tests = both (ltb q (parts t)) _ (ltb-true q (parts t), lt-ltb q (parts t)) (both (eqb (parent_at t q) p) _ (equal p (parent_at t q)) (both (eqb (next_at t q) x) (children_linked t p (end_at t q) n) (equal x (next_at t q)) (λ h. h, λ h. h))) in (
      λ h. let y = tests.0 h in record { there = y.0; parent_is = y.1.0; next_is = y.1.1.0; rest = y.1.1.1 },
      λ c. tests.1 (c.there, (c.parent_is, (c.next_is, c.rest))),
    )

-- in a table, children that lie one after the other are linked
lie_linked : (t : List ℕ) (k : Kind) (p : ℕ) (ps : List Part) (q : ℕ) → LieIn t k p q ps → end_at t p ≡ q + sum (map size ps) → end_at t p ≤ parts t → children_linked t p q (length ps) ≡ true
unfolding children_linked
lie_linked t k p [] q l e h = eq-eqb (end_at t p) q (omega arith)
lie_linked t k p (c ∷ cs) q l e h =
    let own = own_row (first_lies l) in
    (child_linked t p q (length cs)).1
    (record {
      there = omega (arith, size_inner c);
      parent_is = own.parent_is;
      next_is = own.next_is ∙ rw (l.kind_is, own.end_is, some_left cs);
      rest = rw own.end_is (lie_linked t k p cs (q + size c) (others_lie l) (omega arith) h);
    })

-- how many children an entry says that its part has
says_children : {t : List ℕ} {c : Part} {n q x : ℕ} → Lies t c n q x → arity_of (entry_at Table t n) ≡ length (children c)
unfolding arity_of
says_children {t} {c} {n} l = ap₂ arity (own_kind l) (ap (λ (e : Entry). e.operand) (own_row l).entry_is) ∙ arity_children c

-- so every part of a table is linked
part_linked_lem : (t : List ℕ) → is_table t ≡ true → (p : ℕ) → p < parts t → part_linked t p ≡ true
unfolding part_linked
part_linked_lem t table p there =
    let a : At t p = at t table p there in
    let e : end_at t p ≡ suc p + sum (map size (children a.part)) = omega (arith, (own_row a.lies).end_is, size_law a.part) in
    rw (says_children a.lies) (lie_linked t (kind a.part) p (children a.part) (suc p) (children_lie a.lies) e (inside t table p there).end_within_lem)

-- row p says the same in two tables
record SameLinks (t u : List ℕ) (p : ℕ) : Type 0 where
  ends : end_at t p ≡ end_at u p
  parents : parent_at t p ≡ parent_at u p
  nexts : next_at t p ≡ next_at u p

-- part n ends at e, and the rows of the parts inside it say the same
record SameInside (t u : List ℕ) (n e : ℕ) : Type 0 where
  end_is : end_at t n ≡ e
  inside_same : (m : ℕ) → n < m → m < e → SameLinks t u m

-- The other way round: bytes whose parts are all linked, beside a table with the same kinds and operands
module _ (t u : List ℕ) (linked : (p : ℕ) → p < parts u → part_linked t p ≡ true) (entry : (p : ℕ) → p < parts u → entry_at Table t p ≡ entry_at Table u p) where
  -- a part that lies in the table ends where it does there, and the parts inside it have the same links
  Agrees : Part → Type 0
  Agrees c = (n q x : ℕ) → Lies u c n q x → n + size c ≤ parts u → SameInside t u n (n + size c)

  -- so do parts one after the other that are linked
  among : (ps : List Part) → All Agrees ps → (k : Kind) (p q : ℕ) → LieIn u k p q ps → kind_at t p ≡ k → p < q → q + sum (map size ps) ≤ parts u → children_linked t p q (length ps) ≡ true
      → (end_at t p ≡ q + sum (map size ps)) × ((m : ℕ) → q ≤ m → m < q + sum (map size ps) → SameLinks t u m)
  unfolding Agrees children_linked
  among [] h k p q l k-is b f c = (eqb-true (end_at t p) q c ∙ sym (add-zero q), λ m a d. absurd (omega arith))
  among (y ∷ ys) h k p q l k-is b f c =
      let its = (child_linked t p q (length ys)).0 c in
      let here = h.0 q p _ (first_lies l) (omega arith) in
      let own = own_row (first_lies l) in
      let others = among ys h.1 k p (q + size y) (others_lie l) k-is (omega arith) (omega arith) (rw here.end_is at its.rest) in
      let links : SameLinks t u q = record { ends = here.end_is ∙ sym own.end_is; parents = its.parent_is ∙ sym own.parent_is; nexts = its.next_is ∙ rw (k-is, here.end_is, ← some_left ys) (sym own.next_is) } in
      (others.0 ∙ omega arith, each links here others.1)
    where
      each : SameLinks t u q → SameInside t u q (q + size y) → ((m : ℕ) → q + size y ≤ m → m < q + size y + sum (map size ys) → SameLinks t u m) → (m : ℕ) → q ≤ m → m < q + (size y + sum (map size ys)) → SameLinks t u m
      each links here later m a d = go (eq-or-lt_of_le a) (lower m (q + size y))
        where
          go : (q ≡ m) ⊎ (q < m) → (m < q + size y) ⊎ (q + size y ≤ m) → SameLinks t u m
          go (inl e) z = rw (← e) links
          go (inr e) (inl z) = here.inside_same m e z
          go (inr e) (inr z) = later m z (omega arith)

  -- every part does
  agrees : (c : Part) → Agrees c
  unfolding Agrees part_linked
  agrees = part_ind Agrees (λ c h n q x l f. step c h n q x l f)
    where
      step : (c : Part) → All Agrees (children c) → (n q x : ℕ) → Lies u c n q x → n + size c ≤ parts u → SameInside t u n (n + size c)
      step c h n q x l f =
          let there : n < parts u = omega (arith, size_inner c) in
          let k : kind_at t n ≡ kind c = ap (λ (e : Entry). kind_of e.kind) (entry n there) ∙ own_kind l in
          let m : arity_of (entry_at Table t n) ≡ length (children c) = ap arity_of (entry n there) ∙ says_children l in
          let r = among (children c) h (kind c) n (suc n) (children_lie l) k (omega arith) (omega (arith, size_law c)) (rw m at (linked n there)) in
          record { end_is = r.0 ∙ omega (arith, size_law c); inside_same = λ i a b. r.1 i a (omega (arith, size_law c)) }

  -- so all rows say the same where the root's do
  root_same : (p : Part) → Lies u p 0 no_part no_part → parts u ≡ size p → parent_at t 0 ≡ no_part → next_at t 0 ≡ no_part → (q : ℕ) → q < parts u → SameLinks t u q
  unfolding Agrees
  root_same p l n a b q m = go (agrees p 0 no_part no_part l (omega arith)) (eq-zero-or-pos q)
    where
      go : SameInside t u 0 (0 + size p) → (q ≡ 0) ⊎ (0 < q) → SameLinks t u q
      go r (inl e) = rw e (record { ends = r.end_is ∙ sym (own_row l).end_is; parents = a ∙ sym (own_row l).parent_is; nexts = b ∙ sym (own_row l).next_is })
      go r (inr f) = r.inside_same q f (omega arith)

-- what it is to be linked
record Linked (t : List ℕ) : Type 0 where
  root_parent : parent_at t 0 ≡ no_part
  root_next : next_at t 0 ≡ no_part
  each : (p : ℕ) → p < parts t → part_linked t p ≡ true

-- and what the test says of it
all_linked_lem : (t : List ℕ) → (all_linked t ≡ true) ↔ Linked t
unfolding all_linked
all_linked_lem t =
    let tests = both (eqb (parent_at t 0) no_part) _ (equal no_part (parent_at t 0)) (both (eqb (next_at t 0) no_part) _ (equal no_part (next_at t 0)) (all_below (part_linked t) (parts t))) in (
      λ h. let x = tests.0 h in record { root_parent = x.0; root_next = x.1.0; each = x.1.1 },
      λ l. tests.1 (l.root_parent, (l.root_next, l.each)),
    )

-- a table is linked
table_linked : (t : List ℕ) → is_table t ≡ true → Linked t
table_linked t table = record { root_parent = (table_laid_down t table).root_parent; root_next = root_next t table; each = part_linked_lem t table }

-- and bytes that are linked and hold a program are the table of its tree
linked_table : (t : List ℕ) → program_refusal Table t ≡ 0 → Linked t → is_table t ≡ true
unfolding table_of
linked_table t h l =
    let p : Part = (accepted Table t h).0 in
    let held = (accepted Table t h).2 in
    let v : ℕ = variables t in
    let k : ℕ = clocks t in
    let u : List ℕ = table_of v k p in
    let whole = table_holds v k p held.within in
    let n : parts t ≡ parts u = held.parts_are ∙ sym whole.parts_are in
    let entry : (q : ℕ) → q < parts u → entry_at Table t q ≡ entry_at Table u q = λ q m. same_entry Table Table t u (held.entries_are ∙ sym whole.entries_are) q (rw n m) m in
    let root = root_lies v k p held.within in
    let links : (q : ℕ) → q < parts u → SameLinks t u q = root_same t u (λ q m. l.each q (rw n m)) entry p root whole.parts_are l.root_parent l.root_next in
    let same : t ≡ u =
    tables_same t u
    (record {
      lengths = held.length_is ∙ ap (length_of Table) n ∙ sym whole.length_is;
      long = whole.length_is;
      sizes = ap (λ (m : ℕ). m ∷ v ∷ k ∷ []) n;
      entries = entry;
      ends = λ q m. (links q m).ends;
      parents = λ q m. (links q m).parents;
      nexts = λ q m. (links q m).nexts;
    }) in
    rw same (tree_table v k p held.within)

-- bytes are a table exactly where they hold a program and are linked
pub links_decide : LinksDecide
links_decide t = both_true (is_table t) (eqb (program_refusal Table t) 0 && all_linked t) to from
  where
    tests : ((eqb (program_refusal Table t) 0 && all_linked t) ≡ true) ↔ ((program_refusal Table t ≡ 0) × Linked t)
    tests = both (eqb (program_refusal Table t) 0) (all_linked t) (equal 0 (program_refusal Table t)) (all_linked_lem t)

    to : is_table t ≡ true → (eqb (program_refusal Table t) 0 && all_linked t) ≡ true
    to h =
        let x = table_held t h in
        tests.1 (held_accepted Table t x.0 x.1, table_linked t h)

    from : (eqb (program_refusal Table t) 0 && all_linked t) ≡ true → is_table t ≡ true
    from h = let x = tests.0 h in linked_table t x.0 x.1
