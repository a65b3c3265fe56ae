-- The location table by part number: every table is the one that document 01 lays down.
use Prim.Native.Nat.{ℕ, zero, suc, ◌+◌, ◌-◌, ◌≤◌, ◌<◌}
use native.Mathlib.Nat.{zero-add, add-zero, eq-or-lt_of_le, eq-zero-or-pos}
use native.Mathlib.Omega.{arith}
use mathlib.Core.Path.{◌≡◌, refl, sym, ap, ap₂, ◌∙◌}
use mathlib.Core.Logic.{◌↔◌, ◌≢◌, ◌⊎◌, inl, inr}
use mathlib.Core.Bool.{Bool, true, false}
use mathlib.Core.List.{List, [], ◌∷◌, map}
use lib.Dec.{eqb}
use lib.ListN.{length, get_or}
use borrow.Author.Tests.{eq-eqb, ne_eqb}
use Rattle.base.specs.Lists.{sum, nonempty, tabulate, flag, bytes_at}
use Rattle.base.proofs.Lists.{get_or-tabulate}
use Rattle.base.proofs.Stores.{length_bytes}
use Rattle.meaning.specs.declared.Entry.{Entry}
use Rattle.meaning.specs.declared.Form.{Form}
use Rattle.meaning.specs.declared.Form.TheVariants.{File, Table}
use Rattle.meaning.specs.Sizes.{max_parts, no_part, header_length}
use Rattle.meaning.specs.declared.kinds.Kind.{Kind}
use Rattle.meaning.specs.declared.kinds.Kind.TheVariants.{Unknown as UNKNOWN, Goal as GOAL, Start as START, Wait as WAIT, Seq as SEQ, Par as PAR, Maintain as MAINTAIN, Choice as CHOICE, Repeat as REPEAT}
use Rattle.meaning.specs.Kinds.{arity}
use Rattle.meaning.specs.Tree.{Part, kind, children, size}
use Rattle.meaning.specs.Program.{parts, entry_at, entries}
use Rattle.meaning.specs.Table.{next_of, block, end_at, parent_at, next_at, kind_at, operand_of, Inside, file_in, is_table}
use Rattle.meaning.proofs.Trees.{inner, size_law, size_inner}
use Rattle.meaning.proofs.Parsing.{arity_children}
use Rattle.meaning.proofs.Files.{length_entries, file_entries}
use Rattle.meaning.proofs.Tables.{table_held, inside, root_there, Later}
use Rattle.meaning.proofs.Lies.{LieIn, own_row, own_kind, children_lie, first_lies, others_lie}
use Rattle.meaning.proofs.Nesting.{At, Found, at, found, inside_root, root_next, nested, parent_inside, inside_parent, outer_part, inner_part, lower}
use Rattle.sentences.specs.Rows.{ChildOf, Descendant, child, further, ChildOfKind, Following, number_of_children, LaidDown}
use Rattle.sentences.proofs.Followers.{next_nested}

-- only a child of a REPEAT is its own next
own_next : (k : Kind) (p e : ℕ) (b : Bool) → next_of k p e b ≡ p → p ≢ no_part → p < e → k ≡ REPEAT
unfolding next_of
own_next UNKNOWN p e b h n l = absurd (n (sym h))
own_next GOAL p e b h n l = absurd (n (sym h))
own_next START p e b h n l = absurd (n (sym h))
own_next WAIT p e b h n l = absurd (n (sym h))
own_next SEQ p e true h n l = absurd (omega arith)
own_next SEQ p e false h n l = absurd (n (sym h))
own_next PAR p e b h n l = absurd (n (sym h))
own_next MAINTAIN p e b h n l = absurd (n (sym h))
own_next CHOICE p e b h n l = absurd (n (sym h))
own_next REPEAT p e b h n l = refl

-- how many of n numbers from i on pass a test: those of two runs together, and none where none passes
abbrev pub counted : (ℕ → Bool) → ℕ → ℕ → ℕ
counted f i n = sum (tabulate (λ q. flag (f q)) i n)

pub counted_both : (f : ℕ → Bool) (i m n : ℕ) → counted f i (m + n) ≡ counted f i m + counted f (i + m) n
counted_both f i zero n = rw (zero-add n, add-zero i) (omega arith)
counted_both f i (suc m) n =
    let k : suc m + n ≡ suc (m + n) = omega arith in
    let j : i + suc m ≡ suc i + m = omega arith in
    rw (k, j, counted_both f (suc i) m n) (omega arith)

pub counted_none : (f : ℕ → Bool) (i n : ℕ) → ((q : ℕ) → i ≤ q → q < i + n → f q ≡ false) → counted f i n ≡ 0
counted_none f i zero h = refl
counted_none f i (suc n) h = rw (h i (omega arith) (omega arith), counted_none f (suc i) n (λ q a b. h q (omega arith) (omega arith)))

-- where all entries are the same, each is
pub same_entry : (form form' : Form) (s s' : List ℕ) → entries form s ≡ entries form' s' → (p : ℕ) → p < parts s → p < parts s' → entry_at form s p ≡ entry_at form' s' p
unfolding entries
same_entry form form' s s' e p l l' =
    let d : Entry = entry_at form s 0 in
    let one : get_or (entries form s) p d ≡ entry_at form s (0 + p) = get_or-tabulate (entry_at form s) 0 (parts s) p d l in
    let other : get_or (entries form' s') p d ≡ entry_at form' s' (0 + p) = get_or-tabulate (entry_at form' s') 0 (parts s') p d l' in
    rw zero-add at (sym one ∙ ap (λ (es : List Entry). get_or es p d) e ∙ other)

module _ (t : List ℕ) (table : is_table t ≡ true) where
  -- no part has the number that stands for none
  parts_fit : parts t ≤ max_parts
  parts_fit =
      let x = table_held t table in
      omega (arith, x.1.parts_are, x.1.within.size_fits)

  -- the root has no parent
  root_alone : parent_at t 0 ≡ no_part
  root_alone = go (inside t table 0 (root_there t table)).parent_is
    where
      go : (parent_at t 0 ≡ no_part) ⊎ (parent_at t 0 < 0) → parent_at t 0 ≡ no_part
      go (inl e) = e
      go (inr l) = absurd (omega arith)

  -- every other part stands inside its parent
  stands : (p : ℕ) → 0 < p → p < parts t → Inside t (parent_at t p) p
  stands p first there = inside_parent t table 0 p (inside_root t table p first there)

  -- a child is not the root
  child_first : (p q : ℕ) → ChildOf t p q → 0 < q
  child_first p q c = go (eq-zero-or-pos q)
    where
      go : (q ≡ 0) ⊎ (0 < q) → 0 < q
      go (inr l) = l
      go (inl e) =
          let h : p ≡ no_part = sym c.parent_is ∙ ap (parent_at t) e ∙ root_alone in
          absurd (omega (arith, c.parent_there, parts_fit))

  -- so it stands inside its parent
  child_inside : (p q : ℕ) → ChildOf t p q → Inside t p q
  child_inside p q c = rw c.parent_is at (stands q (child_first p q c) c.child_there)

  -- a part inside a part that stands inside another stands there too
  inside_through : (p r q : ℕ) → Inside t p r → Inside t r q → Inside t p q
  inside_through p r q i j = (omega (arith, i.0, j.0), omega (arith, j.1, nested t table p r i))

  -- a part's descendants stand inside it
  descendant_inside : (p : ℕ) {q : ℕ} → Descendant t p q → Inside t p q
  descendant_inside p (child {q = q} c) = child_inside p q c
  descendant_inside p (further {r = r} {q = q} d c) = inside_through p r q (descendant_inside p d) (child_inside r q c)

  -- and whatever stands inside it is one of them
  inside_descendant : (n p q : ℕ) → q ≤ n → Inside t p q → Descendant t p q
  inside_descendant zero p q h i = absurd (omega (arith, i.0))
  inside_descendant (suc n) p q h i = go (λ j. inside_descendant n p (parent_at t q) (omega (arith, (inside_parent t table p q i).0)) j) (parent_inside t table p q i)
    where
      its : (r : ℕ) → parent_at t q ≡ r → r < parts t → ChildOf t r q
      its r e l = record { parent_there = l; child_there = inner_part t table p q i; parent_is = e }

      go : (Inside t p (parent_at t q) → Descendant t p (parent_at t q)) → (parent_at t q ≡ p) ⊎ Inside t p (parent_at t q) → Descendant t p q
      go ih (inl e) = child (its p e (outer_part t table p q i))
      go ih (inr j) = further (ih j) (its (parent_at t q) refl (inner_part t table p (parent_at t q) j))

  -- no part between a part and its parent has it inside
  nearest : (p r : ℕ) → parent_at t p < r → Inside t r p → ⊥
  nearest p r l i = go (parent_inside t table r p i)
    where
      go : (parent_at t p ≡ r) ⊎ Inside t r (parent_at t p) → ⊥
      go (inl e) = omega arith
      go (inr j) = omega (arith, j.0)

  -- what follows part p among the children of its parent
  module _ (p : ℕ) (there : p < parts t) where
    -- a sibling that stands where it ends follows it
    end_follows : (s : ℕ) → s ≡ end_at t p → s < parts t → parent_at t s ≡ parent_at t p → parent_at t p < p → Following t p s
    end_follows s e l same before =
        record {
          there = l;
          after = omega (arith, (inside t table p there).end_after);
          sibling = same;
          none_between = λ r a b f. nearest r p (omega (arith, f)) (a, omega arith);
        }

    -- and none follows it before that
    follows_end : (s : ℕ) → Following t p s → parent_at t p < p → end_at t p ≤ s
    follows_end s f before = go (lower s (end_at t p))
      where
        go : (s < end_at t p) ⊎ (end_at t p ≤ s) → end_at t p ≤ s
        go (inl l) = absurd (nearest s p (omega (arith, f.sibling)) (f.after, l))
        go (inr l) = l

  -- part p among its later siblings
  module _ (p : ℕ) (first : 0 < p) (there : p < parts t) where
    place : Found t 0 (end_at t 0) p
    place = found t table 0 p (inside_root t table p first there)

    its_parent : parent_at t p ≡ place.parent
    its_parent = (own_row (first_lies place.lie)).parent_is

    -- it is a child of a part of that kind, and of no other
    its_kind : (k : Kind) → ChildOfKind t k p → place.of ≡ k
    its_kind k c =
        let e : place.parent ≡ c.0 = sym its_parent ∙ c.1.parent_is in
        sym place.lie.kind_is ∙ ap (kind_at t) e ∙ c.2

    kind_child : ChildOfKind t place.of p
    kind_child = (place.parent, record { parent_there = omega (arith, place.parent_before); child_there = there; parent_is = its_parent }, place.lie.kind_is)

    its_end : end_at t p ≡ p + size place.part
    its_end = (own_row (first_lies place.lie)).end_is

    -- a child of a SEQ that has a following sibling has it for its next
    seq_next : (s : ℕ) → ChildOfKind t SEQ p → Following t p s → next_at t p ≡ s
    unfolding next_of
    seq_next s c f = go place.others place.lie place.ends
      where
        before : parent_at t p < p
        before = (stands p first there).0

        later : end_at t p ≤ s
        later = follows_end p there s f before

        around : Inside t (parent_at t p) s
        around = rw f.sibling at (stands s (omega (arith, f.after)) f.there)

        go : (ps : List Part) → LieIn t place.of place.parent p (place.part ∷ ps) → p + size place.part + sum (map size ps) ≡ end_at t place.parent → next_at t p ≡ s
        go [] h g = absurd (omega (arith, around.1, later, its_end, ap (end_at t) its_parent))
        go (b ∷ bs) h g =
            let same : end_at t p ≡ s = only (eq-or-lt_of_le later) in
            (own_row (first_lies h)).next_is ∙ rw (its_kind SEQ c) (sym its_end ∙ same)
          where
            only : (end_at t p ≡ s) ⊎ (end_at t p < s) → end_at t p ≡ s
            only (inl e) = e
            only (inr l) = absurd (f.none_between (end_at t p) (inside t table p there).end_after l (rw its_end ((own_row (first_lies (others_lie h))).parent_is ∙ sym its_parent)))

    -- a child of a REPEAT is its own next, and no other part is
    repeat_next : (next_at t p ≡ p) ↔ ChildOfKind t REPEAT p
    unfolding next_of
    repeat_next =
        let next = (own_row (first_lies place.lie)).next_is in (
          λ h.
              let l : p < p + size place.part = omega (arith, size_inner place.part) in
              rw (own_next place.of p (p + size place.part) (nonempty (map block place.others)) (sym next ∙ h) (λ e. omega (arith, e, there, parts_fit)) l) at kind_child,
          λ c. next ∙ rw (its_kind REPEAT c),
        )

  -- the root is no part's child, and has no next
  module _ (p : ℕ) (there : p < parts t) where
    not_none : next_at t p ≢ no_part → 0 < p
    not_none h = go (eq-zero-or-pos p)
      where
        go : (p ≡ 0) ⊎ (0 < p) → 0 < p
        go (inl e) = absurd (h (ap (next_at t) e ∙ root_next t table))
        go (inr l) = l

    kind_first : (k : Kind) → ChildOfKind t k p → 0 < p
    kind_first k c = child_first c.0 p c.1

    -- "and the child itself for a child of REPEAT"
    itself : (next_at t p ≡ p) ↔ ChildOfKind t REPEAT p
    itself = (λ h. (repeat_next p (not_none (λ e. omega (arith, e, parts_fit))) there).0 h, λ c. (repeat_next p (kind_first REPEAT c) there).1 c)

    -- a next that is a later part is the following sibling of a child of SEQ
    later_follows : Later t p → ChildOfKind t SEQ p × Following t p (next_at t p)
    later_follows l =
        let n : next_at t p ≢ no_part = λ e. omega (arith, e, l.before_end, parts_fit) in
        let f = next_nested t table 0 p (inside_root t table p (not_none n) there) l.after n in (
          (f.parent, record { parent_there = omega (arith, f.parent_before); child_there = there; parent_is = f.own_parent }, f.in_seq),
          end_follows p there (next_at t p) l.next_end_lem l.before_end l.same_parent (stands p (not_none n) there).0,
        )

    -- "Next is the following sibling for a child of SEQ"
    sibling : (s : ℕ) → s < parts t → s ≢ p → (next_at t p ≡ s) ↔ (ChildOfKind t SEQ p × Following t p s)
    sibling s l d = (λ h. go h (inside t table p there).next_is, λ x. seq_next p (kind_first SEQ x.0) there s x.0 x.1)
      where
        go : next_at t p ≡ s → (next_at t p ≡ no_part) ⊎ ((next_at t p ≡ p) ⊎ Later t p) → ChildOfKind t SEQ p × Following t p s
        go h (inl e) = absurd (omega (arith, parts_fit))
        go h (inr (inl e)) = absurd (d (sym h ∙ e))
        go h (inr (inr f)) = rw h at (later_follows f)

    -- "255 stands for no parent or no next"
    none : (next_at t p ≡ no_part) ↔ ((ChildOfKind t REPEAT p → ⊥) × ((s : ℕ) → ChildOfKind t SEQ p → Following t p s → ⊥))
    none = (
      λ h. (
        λ c. omega (arith, itself.1 c, parts_fit),
        λ s c f. omega (arith, seq_next p (kind_first SEQ c) there s c f, f.there, parts_fit),
      ),
      λ x. go x (inside t table p there).next_is,
    )
      where
        go : (ChildOfKind t REPEAT p → ⊥) × ((s : ℕ) → ChildOfKind t SEQ p → Following t p s → ⊥) → (next_at t p ≡ no_part) ⊎ ((next_at t p ≡ p) ⊎ Later t p) → next_at t p ≡ no_part
        go x (inl e) = e
        go x (inr (inl e)) = absurd (x.0 (itself.0 e))
        go x (inr (inr l)) = absurd (x.1 (next_at t p) (later_follows l).0 (later_follows l).1)

  -- parts that lie one after the other inside part q are so many children of it
  among : (k : Kind) (q : ℕ) (ps : List Part) (n : ℕ) → LieIn t k q n ps → q < n → counted (λ i. eqb (parent_at t i) q) n (sum (map size ps)) ≡ length ps
  among k q [] n l b = refl
  among k q (c ∷ cs) n l b =
      let own = own_row (first_lies l) in
      let none_inside : counted (λ i. eqb (parent_at t i) q) (suc n) (inner c) ≡ 0 =
      counted_none (λ i. eqb (parent_at t i) q) (suc n) (inner c) (λ i a d. ne_eqb (parent_at t i) q (λ e. nearest i n (omega (arith, e)) (a, omega (arith, own.end_is, size_inner c)))) in
      let first : counted (λ i. eqb (parent_at t i) q) n (size c) ≡ 1 = rw (size_inner c, eq-eqb (parent_at t n) q own.parent_is, none_inside) in
      counted_both (λ i. eqb (parent_at t i) q) n (size c) (sum (map size cs)) ∙ omega (arith, first, among k q cs (n + size c) (others_lie l) (omega arith))

  -- a part has as many children as its kind and operand say
  counts : (p : ℕ) → p < parts t → number_of_children t p ≡ arity (kind_at t p) (operand_of t p)
  unfolding number_of_children
  counts p there =
      let a : At t p = at t table p there in
      let own = own_row a.lies in
      let f : ℕ → Bool = λ q. eqb (parent_at t q) p in
      let n : ℕ = sum (map size (children a.part)) in
      let e : end_at t p ≡ suc p + n = omega (arith, own.end_is, size_law a.part) in
      let w : end_at t p ≤ parts t = (inside t table p there).end_within_lem in
      let all : parts t ≡ suc p + (n + (parts t - end_at t p)) = omega arith in
      let none : (q : ℕ) → q < parts t → (q ≤ p) ⊎ (end_at t p ≤ q) → f q ≡ false = λ q l o. ne_eqb (parent_at t q) p (outside q l o) in
      let before : counted f 0 (suc p) ≡ 0 = counted_none f 0 (suc p) (λ q c d. none q (omega arith) (inl (omega arith))) in
      let here : counted f (suc p) n ≡ length (children a.part) = among (kind a.part) p (children a.part) (suc p) (children_lie a.lies) (omega arith) in
      let after : counted f (suc p + n) (parts t - end_at t p) ≡ 0 = counted_none f (suc p + n) (parts t - end_at t p) (λ q c d. none q (omega arith) (inr (omega arith))) in
      let says : length (children a.part) ≡ arity (kind_at t p) (operand_of t p) = sym (arity_children a.part) ∙ ap₂ arity (sym (own_kind a.lies)) (ap (λ (x : Entry). x.operand) (sym own.entry_is)) in
      ap (counted f 0) all ∙ omega (arith, counted_both f 0 (suc p) (n + (parts t - end_at t p)), ap (λ (i : ℕ). counted f i (n + (parts t - end_at t p))) (zero-add (suc p)), counted_both f (suc p) n (parts t - end_at t p), before, here, after, says)
    where
      outside : (q : ℕ) → q < parts t → (q ≤ p) ⊎ (end_at t p ≤ q) → parent_at t q ≡ p → ⊥
      outside q l o e =
          let i : Inside t p q = child_inside p q (record { parent_there = there; child_there = l; parent_is = e }) in
          go o i
        where
          go : (q ≤ p) ⊎ (end_at t p ≤ q) → Inside t p q → ⊥
          go (inl h) i = omega (arith, i.0)
          go (inr h) i = omega (arith, i.1)

  -- row p has the kind and the operand of part p of the file
  row_entry_lem : (p : ℕ) → p < parts t → entry_at Table t p ≡ entry_at File (file_in t) p
  unfolding file_in
  row_entry_lem p there =
      let n : parts (file_in t) ≡ length (entries Table t) = sym (length_entries Table t) in
      let e : entries File (file_in t) ≡ entries Table t = file_entries (bytes_at t 0 header_length) (entries Table t) (entry_at Table t 0) (length_bytes t 0 header_length) n in
      same_entry Table File t (file_in t) (sym e) p there there

  -- every table is the one that document 01 lays down
  pub table_laid_down : LaidDown t
  unfolding file_in
  table_laid_down =
      record {
        length_is = (table_held t table).1.length_is;
        sizes_are = refl;
        entries_are = row_entry_lem;
        end_after = λ p l. (inside t table p l).end_after;
        end_within_lem = λ p l. (inside t table p l).end_within_lem;
        end_is = λ p q l. (λ d. descendant_inside p d, λ i. inside_descendant q p q (omega arith) i);
        root_parent = root_alone;
        parent_before = λ p f l. (stands p f l).0;
        parent_around = λ p f l. inside_descendant p (parent_at t p) p (omega arith) (stands p f l);
        parent_nearest = λ p r l d. nearest p r l (descendant_inside r d);
        next_sibling = λ p s l k d. sibling p l s k d;
        next_itself = itself;
        next_none = none;
        children_are = counts;
      }
