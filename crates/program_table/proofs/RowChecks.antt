-- The check of a table's rows, one after the other, against the table that the kinds and operands imply.
use Prim.Native.Nat.{ℕ, zero, suc, ◌+◌, ◌-◌, ◌*◌, ◌≤◌, ◌<◌}
use native.Mathlib.Nat.{add-zero, zero-add, add-suc}
use native.Mathlib.Omega.{arith}
use mathlib.Core.Path.{◌≡◌, refl, sym, ap, subst, ◌∙◌}
use mathlib.Core.Logic.{◌⊎◌}
use mathlib.Core.Bool.{Bool, true, false, not, ◌&&◌}
use mathlib.Core.List.{List, ◌∷◌}
use lib.Dec.{eqb, ltb}
use lib.ListN.{length, get_or, drop}
use borrow.Author.Tests.{not-true, not-false, eqb-true, eq-eqb, ne_eqb, ltb-true, ltb-false}
use Rattle.base.specs.Lists.{all_from, same}
use Rattle.base.proofs.Lists.{and_left, and_right}
use Rattle.base.proofs.Stores.{bytes_all}
use Rattle.meaning.specs.declared.Entry.{Entry}
use Rattle.meaning.specs.declared.Form.TheVariants.{Table}
use Rattle.meaning.specs.Sizes.{no_part, header_length, row_length, bytes_at, kind_length, links_length, end_place, parent_place, next_place, operand_place}
use Rattle.meaning.specs.Kinds.{kind_of}
use Rattle.meaning.specs.Tree.{Part}
use Rattle.meaning.specs.Program.{parts, variables, clocks, entry_at, entries}
use Rattle.meaning.specs.Table.{next_of, compiled, table_of, end_at, parent_at, next_at, kind_at, Inside, is_table}
use Rattle.meaning.proofs.Files.{Holds, accepted}
use Rattle.meaning.proofs.Tables.{compiled_is, tree_table, table_holds, table_accepted}
use Rattle.meaning.proofs.Lies.{Lies, own_row, root_lies}
use Rattle.program_part.specs.Readable.{Readable}
use Rattle.program_walk.proofs.Entries.{entries_at}
use Rattle.program_table.specs.declared.checking.Links.{Links}
use Rattle.program_table.specs.Checking.{Ending, ParentsAgree, links_in, row_byte, byte_is, row_is, rows_are}
use Rattle.base.proofs.Loops.{all_step, all_fails, all_end}
use Rattle.program_table.proofs.Around.{parent_before, within_first, within_up, within_found, next_implied}

-- a test of bytes one by one is a comparison of the bytes
all_same : (f : ℕ → Bool) (xs t : List ℕ) (k : ℕ) → ((j : ℕ) → f j ≡ eqb (get_or xs j 0) (get_or t (k + j) 0)) → (i n : ℕ) → all_from f i n ≡ same (bytes_at xs i n) (bytes_at t (k + i) n)
all_same f xs t k h i zero = refl
all_same f xs t k h i (suc n) = rw (h i, all_same f xs t k h (suc i) n, add-suc k i)

-- The table that is implied: it is one, and holds the entries that t holds
module _ (t : List ℕ) (ending : Ending t) where
  abbrev whole : List ℕ
  whole = compiled Table t

  part : Part
  part = (accepted Table t ending.accepted).0

  held : Holds Table t part
  unfolding part
  held = (accepted Table t ending.accepted).2

  whole_is : table_of (variables t) (clocks t) part ≡ whole
  unfolding part
  whole_is = sym (compiled_is Table t (accepted Table t ending.accepted).0 (accepted Table t ending.accepted).1)

  whole_table : is_table whole ≡ true
  whole_table = rw (← whole_is) (tree_table (variables t) (clocks t) part held.within)

  whole_holds : Holds Table whole part
  whole_holds = subst (λ s. Holds Table s part) whole_is (table_holds (variables t) (clocks t) part held.within)

  same_parts : parts whole ≡ parts t
  same_parts = whole_holds.parts_are ∙ sym held.parts_are

  same_entry : (p : ℕ) → p < parts t → entry_at Table whole p ≡ entry_at Table t p
  same_entry p h =
      let are : drop p (entries Table whole) ≡ drop p (entries Table t) = ap (drop p) (whole_holds.entries_are ∙ sym held.entries_are) in
      let there : drop p (entries Table whole) ≡ entry_at Table whole p ∷ drop (suc p) (entries Table whole) = entries_at Table whole p (omega (arith, same_parts)) in
      let here : drop p (entries Table t) ≡ entry_at Table t p ∷ drop (suc p) (entries Table t) = entries_at Table t p h in
      cc (are, there, here)

-- Going up from the part before p: the part at hand is the one around p, or stands inside it
pub record Climbing (t : List ℕ) (p q : ℕ) : Type 0 where
  pub before : q < p
  pub within : (parent_at (compiled Table t) p ≡ q) ⊎ Inside (compiled Table t) (parent_at (compiled Table t) p) q

module _ (t : List ℕ) (p : ℕ) (first : 0 < p) (there : p < parts t) (agreeing : ParentsAgree t p) where
  table : is_table (compiled Table t) ≡ true
  table = whole_table t agreeing.ending

  inside : p < parts (compiled Table t)
  inside = omega (arith, same_parts t agreeing.ending)

  pub climb_first : Climbing t p (p - 1)
  climb_first = record { before = omega arith; within = within_first (compiled Table t) table p first inside }

  module _ (q e : ℕ) (w : Climbing t p q) (e-is : e ≡ end_at t q) where
    end_is : e ≡ end_at (compiled Table t) q
    end_is = e-is ∙ agreeing.ending.ends q (omega (arith, w.before))

    pub climb_up : (r : ℕ) → r ≡ parent_at t q → e ≤ p → Climbing t p r × (r < q)
    climb_up r r-is h =
        let u = within_up (compiled Table t) table p first inside q w.before w.within (omega (arith, end_is)) in
        let same : parent_at (compiled Table t) q ≡ r = sym (r-is ∙ agreeing.parents q w.before) in
        let up : Climbing t p (parent_at (compiled Table t) q) × (parent_at (compiled Table t) q < q) = (record { before = omega (arith, u.1, w.before); within = u.0 }, u.1) in
        rw same at up

    pub climb_found : p < e → q ≡ parent_at (compiled Table t) p
    climb_found h = within_found (compiled Table t) table p first inside q w.before w.within (omega (arith, end_is))

-- The part around p can be read
pub parent_readable : (t : List ℕ) (p : ℕ) → ParentsAgree t p → Readable Table t p → 0 < p → (q : ℕ) → q ≡ parent_at (compiled Table t) p → Readable Table t q
parent_readable t p agreeing h some q q-is =
    let inside : p < parts (compiled Table t) = omega (arith, h.there, same_parts t agreeing.ending) in
    let before : q < p = omega (arith, q-is, parent_before (compiled Table t) (whole_table t agreeing.ending) p some inside) in
    record { long = h.long; there = omega (arith, h.there) }

-- The links of a row
module _ (t : List ℕ) (p : ℕ) (agreeing : ParentsAgree t p) (e : ℕ) (e-is : e ≡ end_at t p) where
  pub part_links : p < parts t → 0 < p → (q x n : ℕ) (around : Entry) → q ≡ parent_at (compiled Table t) p → around ≡ entry_at Table t q → x ≡ end_at t q → n ≡ next_of (kind_of around.kind) p e (ltb e x)
      → record { end = e; parent = q; next = n } ≡ links_in (compiled Table t) p
  part_links there some q x n around q-is around-is x-is n-is =
      let table : is_table (compiled Table t) ≡ true = whole_table t agreeing.ending in
      let inside : p < parts (compiled Table t) = omega (arith, same_parts t agreeing.ending) in
      let below : q < p = omega (arith, q-is, parent_before (compiled Table t) table p some inside) in
      let end_is : e ≡ end_at (compiled Table t) p = e-is ∙ agreeing.ending.ends p there in
      let stop_is : x ≡ end_at (compiled Table t) q = x-is ∙ agreeing.ending.ends q (omega arith) in
      let kind_is : kind_of around.kind ≡ kind_at (compiled Table t) q = ap (λ (a : Entry). kind_of a.kind) (around-is ∙ sym (same_entry t agreeing.ending q (omega arith))) in
      let next_is : n ≡ next_at (compiled Table t) p = n-is ∙ rw (kind_is, stop_is, end_is, q-is) (sym (next_implied (compiled Table t) table p some inside)) in
      λ i. record { end = end_is i; parent = q-is i; next = next_is i }

-- A row's bytes: three are its links, and the others are in the row itself
module _ (t : List ℕ) (p : ℕ) (ending : Ending t) (there : p < parts t) where
  same_row : entry_at Table t p ≡ entry_at Table (compiled Table t) p
  same_row = sym (same_entry t ending p there)

  -- byte k of an operand
  byte_of : (s : List ℕ) (k : ℕ) → row_byte s p (kind_length + links_length + k) ≡ get_or s (operand_place Table (parts s) p + k) 0
  byte_of s k = ap (λ (i : ℕ). get_or s i 0) (omega arith)

  own_byte : (j : ℕ) → (j ≡ end_place → ⊥) → (j ≡ parent_place → ⊥) → (j ≡ next_place → ⊥) → j < row_length → row_byte t p j ≡ row_byte (compiled Table t) p j
  own_byte zero a b c l = rw add-zero (ap (λ (e : Entry). e.kind) same_row)
  own_byte (suc zero) a b c l = absurd (a refl)
  own_byte (suc (suc zero)) a b c l = absurd (b refl)
  own_byte (suc (suc (suc zero))) a b c l = absurd (c refl)
  own_byte (suc (suc (suc (suc zero)))) a b c l = ap (λ (e : Entry). e.operand.b0) same_row
  own_byte (suc (suc (suc (suc (suc zero))))) a b c l = byte_of t 1 ∙ ap (λ (e : Entry). e.operand.b1) same_row ∙ sym (byte_of (compiled Table t) 1)
  own_byte (suc (suc (suc (suc (suc (suc zero)))))) a b c l = byte_of t 2 ∙ ap (λ (e : Entry). e.operand.b2) same_row ∙ sym (byte_of (compiled Table t) 2)
  own_byte (suc (suc (suc (suc (suc (suc (suc zero))))))) a b c l = byte_of t 3 ∙ ap (λ (e : Entry). e.operand.b3) same_row ∙ sym (byte_of (compiled Table t) 3)
  own_byte (suc (suc (suc (suc (suc (suc (suc (suc j)))))))) a b c l = absurd (omega arith)

  pub implied_own : (j row : ℕ) → (j ≡ end_place → ⊥) → (j ≡ parent_place → ⊥) → (j ≡ next_place → ⊥) → j < row_length → row ≡ header_length + row_length * p → get_or t (row + j) 0 ≡ row_byte (compiled Table t) p j
  implied_own j row a b c l row_is_lem = rw row_is_lem (own_byte j a b c l)

module _ (t : List ℕ) (p : ℕ) (l : Links) (l-is : l ≡ links_in (compiled Table t) p) (j : ℕ) where
  pub implied_end : j ≡ end_place → l.end ≡ row_byte (compiled Table t) p j
  implied_end h = rw (h, l-is)

  pub implied_parent : j ≡ parent_place → l.parent ≡ row_byte (compiled Table t) p j
  implied_parent h = rw (h, l-is)

  pub implied_next : j ≡ next_place → l.next ≡ row_byte (compiled Table t) p j
  implied_next h = rw (h, l-is)

-- One byte compared with the one implied
module _ (t : List ℕ) (p j row b : ℕ) (row_is_lem : row ≡ header_length + row_length * p) (b-is : b ≡ row_byte (compiled Table t) p j) where
  byte_compared : byte_is t p j ≡ eqb b (get_or t (row + j) 0)
  unfolding byte_is
  byte_compared = rw (b-is, row_is_lem)

  pub byte_agrees : b ≡ get_or t (row + j) 0 → byte_is t p j ≡ true
  byte_agrees h = byte_compared ∙ eq-eqb b (get_or t (row + j) 0) h

  pub byte_differs : (b ≡ get_or t (row + j) 0 → ⊥) → byte_is t p j ≡ false
  byte_differs h = byte_compared ∙ ne_eqb b (get_or t (row + j) 0) h

pub row_first : (t : List ℕ) (p : ℕ) → all_from (byte_is t p) 0 (row_length - 0) ≡ row_is t p
unfolding row_is
row_first t p = refl

-- The loop over the rows: those before p are the ones implied, and those from p on decide
pub record Comparing (t : List ℕ) (n p : ℕ) : Type 0 where
  pub agreeing : ParentsAgree t p
  pub left : all_from (row_is t) p (n - p) ≡ rows_are t

module _ (t : List ℕ) (n : ℕ) (n-is : n ≡ parts t) where
  rows_none : Ending t → Comparing t n 0
  unfolding rows_are
  rows_none ending = record { agreeing = record { ending = ending; parents = λ q h. absurd (omega arith) }; left = let all_left : n - 0 ≡ parts t = omega (arith, n-is) in rw all_left }

  module _ (p : ℕ) (w : Comparing t n p) where
    parent_same : row_is t p ≡ true → parent_at t p ≡ parent_at (compiled Table t) p
    unfolding row_is byte_is
    parent_same h =
        let second = and_right (byte_is t p 0) (all_from (byte_is t p) 1 7) h in
        let third = and_right (byte_is t p 1) (all_from (byte_is t p) 2 6) second in
        sym (eqb-true (row_byte (compiled Table t) p 2) (row_byte t p 2) (and_left (byte_is t p 2) (all_from (byte_is t p) 3 5) third))

    pub rows_next : p < n → row_is t p ≡ true → Comparing t n (p + 1)
    rows_next h r =
        record {
          agreeing = record {
            ending = w.agreeing.ending;
            parents = λ q l. go q l (ltb q p) refl;
          };
          left = all_step (row_is t) p n (rows_are t) h r w.left;
        }
      where
        go : (q : ℕ) → q < p + 1 → (b : Bool) → ltb q p ≡ b → parent_at t q ≡ parent_at (compiled Table t) q
        go q l true e = w.agreeing.parents q (ltb-true q p e)
        go q l false e = let same : p ≡ q = omega (arith, ltb-false q p e) in rw (← same) (parent_same r)

    pub rows_differ : p < n → row_is t p ≡ false → false ≡ rows_are t
    rows_differ h r = sym (all_fails (row_is t) p n (rows_are t) h r w.left)

    pub rows_end : n ≤ p → true ≡ rows_are t
    rows_end h = sym (all_end (row_is t) p n (rows_are t) h w.left)

  -- the root's row comes first
  module _ (ending : Ending t) (some : 0 < parts t) (r : Bool) (r-is : r ≡ row_is t 0) where
    pub rows_first : not r ≡ false → Comparing t n 1
    rows_first h = rows_next 0 (rows_none ending) (omega (arith, n-is)) (sym r-is ∙ not-false r h)

    pub root_differs : not r ≡ true → false ≡ rows_are t
    root_differs h = rows_differ 0 (rows_none ending) (omega (arith, n-is)) (sym r-is ∙ not-true r h)

-- The root's row: only its parent and its next are not its own
module _ (t : List ℕ) (ending : Ending t) (some : 0 < parts t) where
  no_links : (parent_at (compiled Table t) 0 ≡ no_part) × (next_at (compiled Table t) 0 ≡ no_part)
  no_links =
      let lies : Lies (compiled Table t) (part t ending) 0 no_part no_part = subst (λ s. Lies s (part t ending) 0 no_part no_part) (whole_is t ending) (root_lies (variables t) (clocks t) (part t ending) (held t ending).within) in
      ((own_row lies).parent_is, (own_row lies).next_is)

  own_is : (j : ℕ) → (j ≡ end_place → ⊥) → (j ≡ parent_place → ⊥) → (j ≡ next_place → ⊥) → j < row_length → byte_is t 0 j ≡ true
  unfolding byte_is
  own_is j a b c l = eq-eqb (row_byte (compiled Table t) 0 j) (row_byte t 0 j) (sym (own_byte t 0 ending some j a b c l))

  end_own : byte_is t 0 1 ≡ true
  unfolding byte_is
  end_own = eq-eqb (row_byte (compiled Table t) 0 1) (row_byte t 0 1) (sym (ending.ends 0 some))

  apart : {a b : ℕ} → eqb a b ≡ false → a ≡ b → ⊥
  apart {a} {b} f e = let z : ◌≡◌ {A = ℕ} 0 1 = cc (f, eq-eqb a b e) in omega arith

  and_true : (a : Bool) → (a && true) ≡ a
  and_true true = refl
  and_true false = refl

  pub root_compared : (x y : ℕ) → x ≡ parent_at t 0 → y ≡ next_at t 0 → (eqb no_part x && eqb no_part y) ≡ row_is t 0
  unfolding row_is byte_is
  root_compared x y x-is y-is =
      rw (x-is, y-is, own_is 0 (apart refl) (apart refl) (apart refl) (omega arith), end_own, no_links.0, no_links.1, own_is 4 (apart refl) (apart refl) (apart refl) (omega arith), own_is 5 (apart refl) (apart refl) (apart refl) (omega arith), own_is 6 (apart refl) (apart refl) (apart refl) (omega arith), own_is 7 (apart refl) (apart refl) (apart refl) (omega arith))
      (ap (λ (b : Bool). eqb no_part (parent_at t 0) && b) (sym (and_true (eqb no_part (next_at t 0)))))

-- All rows together are all bytes but the sizes, which are the same
all_append : (f : ℕ → Bool) (i m n : ℕ) → all_from f i (m + n) ≡ (all_from f i m && all_from f (i + m) n)
all_append f i zero n = rw (zero-add, add-zero)
all_append f i (suc m) n =
    let k : suc m + n ≡ suc (m + n) = omega arith in
    let j : i + suc m ≡ suc i + m = omega arith in
    rw (k, j, all_append f (suc i) m n) (and_assoc (f i) (all_from f (suc i) m) (all_from f (suc i + m) n))
  where
    and_assoc : (a b c : Bool) → (a && (b && c)) ≡ ((a && b) && c)
    and_assoc true b c = refl
    and_assoc false b c = refl

all_shift : (f g : ℕ → Bool) (a : ℕ) → ((j : ℕ) → g j ≡ f (a + j)) → (i n : ℕ) → all_from g i n ≡ all_from f (a + i) n
all_shift f g a h i zero = refl
all_shift f g a h i (suc n) = let k : a + suc i ≡ suc (a + i) = omega arith in rw (h i, all_shift f g a h (suc i) n, k)

all_rows : (f g : ℕ → Bool) → ((p : ℕ) → g p ≡ all_from f (header_length + row_length * p) row_length) → (p n : ℕ) → all_from g p n ≡ all_from f (header_length + row_length * p) (row_length * n)
all_rows f g h p zero = refl
all_rows f g h p (suc n) =
    let k : row_length * suc n ≡ row_length + row_length * n = omega arith in
    let j : header_length + row_length * suc p ≡ header_length + row_length * p + row_length = omega arith in
    rw (k, all_append f (header_length + row_length * p) row_length (row_length * n), ← j, h p, all_rows f g h (suc p) n)

module _ (t : List ℕ) (ending : Ending t) where
  is : ℕ → Bool
  is i = eqb (get_or (compiled Table t) i 0) (get_or t i 0)

  row_is_lem : (p : ℕ) → row_is t p ≡ all_from is (header_length + row_length * p) row_length
  unfolding row_is byte_is is
  row_is_lem p = all_shift is (byte_is t p) (header_length + row_length * p) (λ j. refl) 0 row_length ∙ ap (λ (i : ℕ). all_from is i row_length) (add-zero (header_length + row_length * p))

  sizes_same : all_from is 0 header_length ≡ true
  unfolding is
  sizes_same =
      let v : variables (compiled Table t) ≡ variables t = ap variables (sym (whole_is t ending)) ∙ (table_accepted (variables t) (clocks t) (part t ending) (held t ending).within).2 in
      let k : clocks (compiled Table t) ≡ clocks t = ap clocks (sym (whole_is t ending)) ∙ (table_accepted (variables t) (clocks t) (part t ending) (held t ending).within).3 in
      rw (eq-eqb (parts (compiled Table t)) (parts t) (same_parts t ending), eq-eqb (variables (compiled Table t)) (variables t) v, eq-eqb (clocks (compiled Table t)) (clocks t) k)

  same_is : same (compiled Table t) t ≡ all_from is 0 (length t)
  unfolding is
  same_is =
      let long : length (compiled Table t) ≡ length t = omega (arith, (whole_holds t ending).length_is, (held t ending).length_is, same_parts t ending) in
      let left : bytes_at (compiled Table t) 0 (length t) ≡ compiled Table t = rw long at (bytes_all (compiled Table t)) in
      sym (all_same is (compiled Table t) t 0 (λ j. rw zero-add) 0 (length t) ∙ rw (left, bytes_all t))

  pub rows_same : rows_are t ≡ same (compiled Table t) t
  unfolding rows_are
  rows_same =
      all_rows is (row_is t) row_is_lem 0 (parts t)
      ∙ sym (same_is ∙ rw ((held t ending).length_is, all_append is 0 header_length (row_length * parts t), sizes_same))
