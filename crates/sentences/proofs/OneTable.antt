-- The table that document 01 lays down for a file is one alone, and it is the one that reading gives.
use Prim.Native.Nat.{ℕ, zero, suc, ◌+◌, ◌-◌, ◌*◌, ◌≤◌, ◌<◌}
use native.Mathlib.Nat.{zero-add, le_of_suc-le-suc, eq-or-lt_of_le, eq-zero-or-pos}
use native.Mathlib.Numerals.{towards_suc}
use native.Mathlib.Omega.{arith}
use mathlib.Core.Path.{◌≡◌, refl, sym, ap, ap₂, ◌∙◌}
use mathlib.Core.Logic.{◌≢◌, ◌⊎◌, inl, inr}
use mathlib.Core.Bool.{true}
use mathlib.Core.List.{List, ◌∷◌, ◌++◌}
use lib.Dec.{eqb}
use lib.ListN.{length}
use borrow.Author.Tests.{eq-eqb, ne_eqb}
use Rattle.base.specs.Lists.{sum, flag, bytes_at}
use Rattle.base.proofs.Lists.{tabulate-same}
use Rattle.base.proofs.Stores.{bytes_all, bytes_append}
use Rattle.meaning.specs.declared.Form.TheVariants.{File, Table}
use Rattle.meaning.specs.declared.Entry.{Entry}
use Rattle.meaning.specs.Sizes.{no_part, header_length, row_length, length_of}
use Rattle.meaning.specs.declared.kinds.Kind.{Kind}
use Rattle.meaning.specs.declared.kinds.Kind.TheVariants.{Seq as SEQ, Repeat as REPEAT}
use Rattle.meaning.specs.Kinds.{kind_of, arity}
use Rattle.meaning.specs.Program.{parts, operand_bytes, entry_at}
use Rattle.meaning.specs.Table.{operand_of, end_at, parent_at, next_at, compiled, file_in, is_table}
use Rattle.meaning.proofs.Tables.{file_back, table_of_file, inside, Later}
use Rattle.meaning.proofs.Nesting.{lower}
use Rattle.sentences.specs.Rows.{ChildOf, Descendant, child, further, ChildOfKind, Following, number_of_children, LaidDown, CompilingLaysDown, TablesLaidDown}
use Rattle.sentences.proofs.TableRows.{counted, counted_both, counted_none, table_laid_down}

-- two tables that are laid down for parts of the same kinds and operands
record TwoTables (t u : List ℕ) : Type 0 where
  this : LaidDown t
  that : LaidDown u
  same_parts : parts t ≡ parts u
  same_entries : (p : ℕ) → p < parts t → entry_at Table t p ≡ entry_at Table u p

-- part y's children are those before part p, and those of the n parts from p on
children_split : (t : List ℕ) (y p n : ℕ) → parts t ≡ p + n → number_of_children t y ≡ counted (λ q. eqb (parent_at t q) y) 0 p + counted (λ q. eqb (parent_at t q) y) p n
unfolding number_of_children
children_split t y p n e = rw zero-add at (ap (counted (λ q. eqb (parent_at t q) y) 0) e ∙ counted_both (λ q. eqb (parent_at t q) y) 0 p n)

-- Where the parents before part p are the same, its own is in neither table the lower one: the higher would have a child too many
module _ (t u : List ℕ) (a : TwoTables t u) (p : ℕ) (first : 0 < p) (there : p < parts t) (before : (q : ℕ) → q < p → parent_at t q ≡ parent_at u q) (l : parent_at t p < parent_at u p) where
  abbrev around : ℕ
  around = parent_at u p

  around_before : around < p
  around_before = a.that.parent_before p first (rw a.same_parts at there)

  -- in the first table it has ended before p
  ended : end_at t around ≤ p
  ended = go (lower p (end_at t around))
    where
      go : (p < end_at t around) ⊎ (end_at t around ≤ p) → end_at t around ≤ p
      go (inl h) = absurd (a.this.parent_nearest p around l ((a.this.end_is around p (omega (arith, around_before))).1 (around_before, h)))
      go (inr h) = h

  -- so it has no child there from p on
  none_later : (q : ℕ) → p ≤ q → q < parts t → parent_at t q ≡ around → ⊥
  none_later q h k e =
      let o : around < parts t = omega (arith, around_before) in
      omega (arith, ended, ((a.this.end_is around q o).0 (child (record { parent_there = o; child_there = k; parent_is = e }))).1)

  -- in the second it has all that it has before p, and p
  not_lower : ⊥
  not_lower =
      let n : ℕ = parts t - suc p in
      let all : parts t ≡ p + suc n = omega arith in
      let o : around < parts t = omega (arith, around_before) in
      let later-none : counted (λ q. eqb (parent_at t q) around) p (suc n) ≡ 0 = counted_none (λ q. eqb (parent_at t q) around) p (suc n) (λ q c d. ne_eqb (parent_at t q) around (none_later q c (omega arith))) in
      let later-one : counted (λ q. eqb (parent_at u q) around) p (suc n) ≡ suc (counted (λ q. eqb (parent_at u q) around) (suc p) n) = rw (eq-eqb (parent_at u p) around refl) (omega arith) in
      let earlier : counted (λ q. eqb (parent_at t q) around) 0 p ≡ counted (λ q. eqb (parent_at u q) around) 0 p = ap sum (tabulate-same (λ q. flag (eqb (parent_at t q) around)) (λ q. flag (eqb (parent_at u q) around)) 0 p (λ q c d. rw (before q (omega arith)))) in
      let same : number_of_children t around ≡ number_of_children u around =
      a.this.children_are around o ∙ ap (λ (e : Entry). arity (kind_of e.kind) e.operand) (a.same_entries around o) ∙ sym (a.that.children_are around (rw a.same_parts at o)) in
      omega (arith, children_split t around p (suc n) all, children_split u around p (suc n) (sym a.same_parts ∙ all), later-none, later-one, earlier, same)

-- either may come first
turned : {t u : List ℕ} → TwoTables t u → TwoTables u t
turned a = record { this = a.that; that = a.this; same_parts = sym a.same_parts; same_entries = λ p l. sym (a.same_entries p (rw a.same_parts l)) }

-- all parents are the same
parents_below : (t u : List ℕ) → TwoTables t u → (n : ℕ) → n ≤ parts t → (q : ℕ) → q < n → parent_at t q ≡ parent_at u q
parents_below t u a zero h q l = absurd (omega arith)
parents_below t u a (suc n) h q l = go (parents_below t u a n (omega arith)) (eq-or-lt_of_le (le_of_suc-le-suc l))
  where
    own : ((q : ℕ) → q < n → parent_at t q ≡ parent_at u q) → (n ≡ 0) ⊎ (0 < n) → parent_at t n ≡ parent_at u n
    own ih (inl e) = rw e (a.this.root_parent ∙ sym a.that.root_parent)
    own ih (inr f) = compare (lower (parent_at t n) (parent_at u n)) (lower (parent_at u n) (parent_at t n))
      where
        compare : (parent_at t n < parent_at u n) ⊎ (parent_at u n ≤ parent_at t n) → (parent_at u n < parent_at t n) ⊎ (parent_at t n ≤ parent_at u n) → parent_at t n ≡ parent_at u n
        compare (inl x) y = absurd (not_lower t u a n f h ih x)
        compare (inr x) (inl y) = absurd (not_lower u t (turned a) n f (rw (← a.same_parts) h) (λ q l. sym (ih q l)) y)
        compare (inr x) (inr y) = omega arith

    go : ((q : ℕ) → q < n → parent_at t q ≡ parent_at u q) → (q ≡ n) ⊎ (q < n) → parent_at t q ≡ parent_at u q
    go ih (inl e) = rw e (own ih (eq-zero-or-pos n))
    go ih (inr m) = ih q m

-- so children, descendants and following siblings are the same
module _ (t u : List ℕ) (a : TwoTables t u) where
  parent_same : (p : ℕ) → p < parts t → parent_at t p ≡ parent_at u p
  parent_same p l = parents_below t u a (parts t) (omega arith) p l

  child_same : (p q : ℕ) → ChildOf t p q → ChildOf u p q
  child_same p q c = record { parent_there = rw (← a.same_parts) c.parent_there; child_there = rw (← a.same_parts) c.child_there; parent_is = sym (parent_same q c.child_there) ∙ c.parent_is }

  descendant_same : (p : ℕ) {q : ℕ} → Descendant t p q → Descendant u p q
  descendant_same p (child {q = q} c) = child (child_same p q c)
  descendant_same p (further {r = r} {q = q} d c) = further (descendant_same p d) (child_same r q c)

  kind_same : (k : Kind) (p : ℕ) → ChildOfKind t k p → ChildOfKind u k p
  kind_same k p c = (c.0, child_same c.0 p c.1, ap (λ (e : Entry). kind_of e.kind) (sym (a.same_entries c.0 c.1.parent_there)) ∙ c.2)

  following_same : (p s : ℕ) → p < parts t → Following t p s → Following u p s
  following_same p s l f =
      record {
        there = rw (← a.same_parts) f.there;
        after = f.after;
        sibling = sym (parent_same s f.there) ∙ f.sibling ∙ parent_same p l;
        none_between = λ r b c e. f.none_between r b c (parent_same r (omega (arith, f.there)) ∙ e ∙ sym (parent_same p l));
      }

  -- no part ends later in the one than in the other
  end_not_lower : (p : ℕ) → p < parts t → end_at u p < end_at t p → ⊥
  end_not_lower p l h =
      let m : p < parts u = rw (← a.same_parts) l in
      omega (arith, ((a.that.end_is p (end_at u p) m).0 (descendant_same p ((a.this.end_is p (end_at u p) l).1 (a.that.end_after p m, h)))).1)

-- the ends are the same
end_same : (t u : List ℕ) → TwoTables t u → (p : ℕ) → p < parts t → end_at t p ≡ end_at u p
end_same t u a p l = go (lower (end_at u p) (end_at t p)) (lower (end_at t p) (end_at u p))
  where
    go : (end_at u p < end_at t p) ⊎ (end_at t p ≤ end_at u p) → (end_at t p < end_at u p) ⊎ (end_at u p ≤ end_at t p) → end_at t p ≡ end_at u p
    go (inl x) y = absurd (end_not_lower t u a p l x)
    go (inr x) (inl y) = absurd (end_not_lower u t (turned a) p (rw (← a.same_parts) l) y)
    go (inr x) (inr y) = omega arith

-- and so is what follows, where one of them is a table
next_same : (t u : List ℕ) → TwoTables u t → is_table u ≡ true → (p : ℕ) → p < parts u → next_at t p ≡ next_at u p
next_same t u a table p l = go (inside u table p l).next_is
  where
    here : p < parts t
    here = rw (← a.same_parts) l

    b : TwoTables t u
    b = turned a

    go : (next_at u p ≡ no_part) ⊎ ((next_at u p ≡ p) ⊎ Later u p) → next_at t p ≡ next_at u p
    go (inl e) =
        let x = (a.this.next_none p l).0 e in
        (a.that.next_none p here).1 (λ c. x.0 (kind_same t u b REPEAT p c), λ s c f. x.1 s (kind_same t u b SEQ p c) (following_same t u b p s here f)) ∙ sym e
    go (inr (inl e)) = (a.that.next_itself p here).1 (kind_same u t a REPEAT p ((a.this.next_itself p l).0 e)) ∙ sym e
    go (inr (inr f)) =
        let d : next_at u p ≢ p = λ e. omega (arith, f.after) in
        let x = (a.this.next_sibling p (next_at u p) l f.before_end d).0 refl in
        (a.that.next_sibling p (next_at u p) here (rw (← a.same_parts) f.before_end) d).1 (kind_same u t a SEQ p x.0, following_same u t a p (next_at u p) l x.1)

-- the bytes of a row, by what they say
row_says : (s : List ℕ) (p : ℕ) → bytes_at s (header_length + row_length * p) row_length ≡ (entry_at Table s p).kind ∷ end_at s p ∷ parent_at s p ∷ next_at s p ∷ operand_bytes (operand_of s p)
row_says s p = simp towards_suc

-- Tables of the same sizes whose rows say the same are the same
pub record SameRows (t u : List ℕ) : Type 0 where
  pub lengths : length t ≡ length u
  pub long : length u ≡ length_of Table (parts u)
  pub sizes : bytes_at t 0 header_length ≡ bytes_at u 0 header_length
  pub entries : (p : ℕ) → p < parts u → entry_at Table t p ≡ entry_at Table u p
  pub ends : (p : ℕ) → p < parts u → end_at t p ≡ end_at u p
  pub parents : (p : ℕ) → p < parts u → parent_at t p ≡ parent_at u p
  pub nexts : (p : ℕ) → p < parts u → next_at t p ≡ next_at u p

module _ (t u : List ℕ) (a : SameRows t u) where
  row_same : (p : ℕ) → p < parts u → bytes_at t (header_length + row_length * p) row_length ≡ bytes_at u (header_length + row_length * p) row_length
  row_same p l =
      row_says t p
      ∙ rw (a.ends p l, a.parents p l, a.nexts p l) (ap (λ (e : Entry). e.kind ∷ end_at u p ∷ parent_at u p ∷ next_at u p ∷ operand_bytes e.operand) (a.entries p l))
      ∙ sym (row_says u p)

  rows_same : (n p : ℕ) → p + n ≤ parts u → bytes_at t (header_length + row_length * p) (row_length * n) ≡ bytes_at u (header_length + row_length * p) (row_length * n)
  rows_same zero p h = refl
  rows_same (suc n) p h = one_more t ∙ ap₂ (λ (x y : List ℕ). x ++ y) (row_same p (omega arith)) (rows_same n (suc p) (omega arith)) ∙ sym (one_more u)
    where
      one_more : (s : List ℕ) → bytes_at s (header_length + row_length * p) (row_length * suc n) ≡ bytes_at s (header_length + row_length * p) row_length ++ bytes_at s (header_length + row_length * suc p) (row_length * n)
      one_more s =
          let e : row_length * suc n ≡ row_length + row_length * n = omega arith in
          let m : header_length + row_length * suc p ≡ header_length + row_length * p + row_length = omega arith in
          ap (bytes_at s (header_length + row_length * p)) e ∙ bytes_append s (header_length + row_length * p) row_length (row_length * n) ∙ ap (λ (i : ℕ). bytes_at s (header_length + row_length * p) row_length ++ bytes_at s i (row_length * n)) (sym m)

  whole : (s : List ℕ) → length s ≡ length u → s ≡ bytes_at s 0 header_length ++ bytes_at s header_length (row_length * parts u)
  whole s e = sym (bytes_all s) ∙ ap (bytes_at s 0) (e ∙ a.long) ∙ bytes_append s 0 header_length (row_length * parts u)

  pub tables_same : t ≡ u
  tables_same =
      let rows : bytes_at t header_length (row_length * parts u) ≡ bytes_at u header_length (row_length * parts u) = rows_same (parts u) 0 (omega arith) in
      whole t a.lengths ∙ ap₂ (λ (x y : List ℕ). x ++ y) a.sizes rows ∙ sym (whole u refl)

-- reading gives the table that document 01 lays down, and no other
pub compiling_lays_down : CompilingLaysDown
unfolding file_in
compiling_lays_down f t h = (
  λ e. (ap file_in (sym e) ∙ file_back f h, table_laid_down t ((table_of_file t).1 (f, h, e))),
  λ x.
      let u : List ℕ = compiled File f in
      let table : is_table u ≡ true = (table_of_file u).1 (f, h, refl) in
      let d : LaidDown u = table_laid_down u table in
      let e : file_in u ≡ file_in t = file_back f h ∙ sym x.0 in
      let n : parts u ≡ parts t = ap parts e in
      let a : TwoTables u t = record { this = d; that = x.1; same_parts = n; same_entries = λ p l. d.entries_are p l ∙ ap (λ (s : List ℕ). entry_at File s p) e ∙ sym (x.1.entries_are p (rw (← n) l)) } in
      sym
      (tables_same t u
      (record {
        lengths = x.1.length_is ∙ ap (length_of Table) (sym n) ∙ sym d.length_is;
        long = d.length_is;
        sizes = x.1.sizes_are ∙ ap (λ (s : List ℕ). bytes_at s 0 header_length) (sym e) ∙ sym d.sizes_are;
        entries = λ p l. sym (a.same_entries p l);
        ends = λ p l. sym (end_same u t a p l);
        parents = λ p l. sym (parent_same u t a p l);
        nexts = next_same t u a table;
      })),
)

-- exactly the tables hold an accepted file and are laid down
pub tables_laid_down : TablesLaidDown
tables_laid_down t = (
  λ h.
      let x = (table_of_file t).0 h in
      let e : file_in t ≡ x.0 = ap file_in (sym x.2) ∙ file_back x.0 x.1 in
      (rw e x.1, table_laid_down t h),
  λ x. (table_of_file t).1 (file_in t, x.0, (compiling_lays_down (file_in t) t x.0).1 (refl, x.1)),
)
