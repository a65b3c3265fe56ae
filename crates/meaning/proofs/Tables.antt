-- Laws of the location table: what its rows hold, the way back to the file, which byte lists are one, and that its numbers stay inside.
use Prim.Native.Nat.{ℕ, zero, suc, ◌+◌, ◌-◌, ◌*◌, ◌≤◌, ◌<◌}
use native.Mathlib.Nat.{zero-add, add-zero, suc-add, add-suc, not-suc-le-zero, le_of_suc-le-suc}
use native.Mathlib.Omega.{arith}
use mathlib.Core.Path.{◌≡◌, refl, sym, ap, ◌∙◌, subst}
use mathlib.Core.Logic.{◌↔◌, ◌⊎◌, inl, inr, ⊎_map}
use mathlib.Core.Bool.{Bool, true, false, ◌&&◌, false≢true}
use mathlib.Core.Option.{some}
use mathlib.Core.List.{List, [], ◌∷◌, ◌++◌, map, map-append}
use lib.Dec.{eqb}
use lib.ListN.{length, get_or, drop, length-drop, length-append, length-map, get_or-append, get_or-map}
use lib.Seq.{get_or-append_seam, get_or-drop}
use borrow.Author.Tests.{eqb-true}
use Rattle.base.specs.Lists.{flat, same, nonempty}
use Rattle.base.proofs.Lists.{and_left, and_right, both_true, length_pieces, piece_at, same_eq, same_refl}
use Rattle.meaning.specs.declared.Entry.{Entry}
use Rattle.meaning.specs.declared.Form.{Form}
use Rattle.meaning.specs.declared.Form.TheVariants.{File, Table}
use Rattle.meaning.specs.Sizes.{number_width, no_part, header_length, links_length, row_length, operand_place, number_at}
use Rattle.meaning.specs.declared.kinds.Kind.{Kind}
use Rattle.meaning.specs.declared.kinds.Kind.TheVariants.{Unknown as UNKNOWN, Goal as GOAL, Start as START, Wait as WAIT, Seq as SEQ, Par as PAR, Maintain as MAINTAIN, Choice as CHOICE, Repeat as REPEAT}
use Rattle.meaning.specs.Kinds.{kind_of, number_of}
use Rattle.meaning.specs.Tree.{Part, goal, start, wait, seq, par, maintain, choice, repeat, kind, children, operand, size, count_operand}
use Rattle.meaning.specs.Program.{parts, variables, clocks, size_bytes, entry_at, entries, preorder, tree_of, program_refusal, Within, file_of}
use Rattle.meaning.specs.Table.{Row, row_bytes, next_of, siblings, block, table_of, compiled, end_at, parent_at, next_at, kind_at, file_in, is_table}
use Rattle.meaning.proofs.Trees.{All, part_ind, preorder_law, rows_law, block_parts_lem, length_preorder, size_law}
use Rattle.meaning.proofs.Parsing.{kind_number_lem}
use Rattle.meaning.proofs.Files.{Holds, accepted, held_tree, held_accepted, past_header, entries_are, number_back, parts_back, file_accepted, held_file}

-- what a row holds of its part's entry
abbrev pub row_entry : Row → Entry
row_entry r = record { kind = r.kind; operand = r.operand }

RowsOf : Part → Type 0
RowsOf p = (n q x : ℕ) → map row_entry ((block p).rows n q x) ≡ preorder p

siblings_entries : (ps : List Part) → All RowsOf ps → (k : Kind) (q n : ℕ) → map row_entry (siblings k q n (map block ps)) ≡ flat preorder ps
unfolding RowsOf
siblings_entries [] h k q n = refl
siblings_entries (p ∷ ps) h k q n = rw (map-append, h.0, siblings_entries ps h.1 k q)

-- the rows' kinds and operands are the entries in preorder
pub rows_entries : (p : Part) (n q x : ℕ) → map row_entry ((block p).rows n q x) ≡ preorder p
unfolding RowsOf
rows_entries = part_ind RowsOf (λ p h n q x. rw (rows_law p n q x, preorder_law p, siblings_entries (children p) h (kind p) n (suc n)))

-- a row per part
pub length_rows : (p : Part) (n q x : ℕ) → length ((block p).rows n q x) ≡ size p
length_rows p n q x = sym (length-map ((block p).rows n q x) row_entry) ∙ ap length (rows_entries p n q x) ∙ length_preorder p

abbrev pub no_row : Row
no_row = record { kind = 0; end = 0; parent = 0; next = 0; operand = count_operand 0 }

-- the rows of a tree that is a whole program
abbrev pub tree_rows : Part → List Row
tree_rows p = (block p).rows 0 no_part no_part

-- sizes and rows
module _ (h : List ℕ) (rs : List Row) (l : length h ≡ header_length) where
  -- a byte of a row
  row_byte_lem : (i j a : ℕ) → i < length rs → j < row_length → a ≡ header_length + (row_length * i + j) → get_or (h ++ flat row_bytes rs) a 0 ≡ get_or (row_bytes (get_or rs i no_row)) j 0
  row_byte_lem i j a k m e = rw (e, past_header h (flat row_bytes rs) (row_length * i + j) l) (piece_at row_bytes row_length (λ r. refl) rs i j no_row 0 k m)

  pub row_entry_lem : (i : ℕ) → i < length rs → entry_at Table (h ++ flat row_bytes rs) i ≡ row_entry (get_or rs i no_row)
  row_entry_lem i k =
      let o : ℕ = operand_place Table 0 i in
      λ x.
      record {
        kind = row_byte_lem i 0 (header_length + row_length * i) k (omega arith) (omega arith) x;
        operand = record {
          b0 = row_byte_lem i (1 + links_length) o k (omega arith) (omega arith) x;
          b1 = row_byte_lem i (1 + links_length + 1) (o + 1) k (omega arith) (omega arith) x;
          b2 = row_byte_lem i (1 + links_length + 2) (o + 2) k (omega arith) (omega arith) x;
          b3 = row_byte_lem i (1 + links_length + 3) (o + 3) k (omega arith) (omega arith) x;
        };
      }

  row_entries : parts (h ++ flat row_bytes rs) ≡ length rs → entries Table (h ++ flat row_bytes rs) ≡ map row_entry rs
  row_entries n =
      entries_are Table (h ++ flat row_bytes rs) (row_entry no_row) (map row_entry rs) (n ∙ sym (length-map rs row_entry)) (λ i k. row_entry_lem i (rw length-map at k) ∙ sym (get_or-map row_entry rs i no_row))

module _ (v k : ℕ) (p : Part) (w : Within v k p) where
  pub table_parts : parts (table_of v k p) ≡ size p
  unfolding table_of
  table_parts = parts_back (size p) v k (flat row_bytes (tree_rows p)) (omega (arith, w.size_fits))

  -- the table of a tree within the limits holds that tree
  pub table_holds : Holds Table (table_of v k p) p
  unfolding table_of
  table_holds =
      let n : parts (table_of v k p) ≡ length (tree_rows p) = table_parts ∙ sym (length_rows p 0 no_part no_part) in
      record {
        length_is = rw n (rw (length-append, length_pieces row_bytes row_length (λ r. refl)));
        parts_are = table_parts;
        entries_are = row_entries (size_bytes (size p) v k) (tree_rows p) refl n ∙ rows_entries p 0 no_part no_part;
        within = w;
      }

  -- the table of a tree within the limits is accepted, and that tree is the one that it holds
  pub table_accepted : (program_refusal Table (table_of v k p) ≡ 0) × (tree_of Table (table_of v k p) ≡ some p) × (variables (table_of v k p) ≡ v) × (clocks (table_of v k p) ≡ k)
  unfolding table_of
  table_accepted = (held_accepted Table (table_of v k p) p table_holds, held_tree Table (table_of v k p) p table_holds, refl, refl)

  -- the file in the table of a tree within the limits is that tree's file
  pub file_in_table : file_in (table_of v k p) ≡ file_of v k p
  unfolding file_in file_of
  file_in_table = rw table_holds.entries_are (unfold table_of in refl)

-- the table of bytes that are read as a tree is that tree's
pub compiled_is : (form : Form) (s : List ℕ) (p : Part) → tree_of form s ≡ some p → compiled form s ≡ table_of (variables s) (clocks s) p
unfolding compiled
compiled_is form s p t = rw t

-- from a file to its table and back is the file that was read
pub file_back : (f : List ℕ) → program_refusal File f ≡ 0 → file_in (compiled File f) ≡ f
file_back f h =
    let a = accepted File f h in
    rw (compiled_is File f a.0 a.1) (file_in_table (variables f) (clocks f) a.0 a.2.within ∙ sym (held_file f a.0 a.2))

-- what the test for a table says: no refusal, and two lists that are the same
checked : (n : ℕ) (xs ys : List ℕ) → (eqb n 0 && same xs ys) ≡ true → (n ≡ 0) × (xs ≡ ys)
checked n xs ys h = (eqb-true n 0 (and_left (eqb n 0) (same xs ys) h), same_eq xs ys (and_right (eqb n 0) (same xs ys) h))

check : (n : ℕ) (xs ys : List ℕ) → n ≡ 0 → xs ≡ ys → (eqb n 0 && same xs ys) ≡ true
check n xs ys z e = rw (z, e) (same_refl ys)

-- the tables are those of the accepted files
pub table_of_file : (t : List ℕ) → (is_table t ≡ true) ↔ ((f : List ℕ) × (program_refusal File f ≡ 0) × (compiled File f ≡ t))
unfolding is_table
table_of_file t = (
  λ h.
      let c = checked (program_refusal File (file_in t)) (compiled File (file_in t)) t h in
      (file_in t, c.0, c.1),
  λ x.
      let e : file_in t ≡ x.0 = rw x.2 at (file_back x.0 x.1) in
      check (program_refusal File (file_in t)) (compiled File (file_in t)) t (rw e x.1) (rw e x.2),
)

-- a table is the table of a tree within the limits
pub table_tree : (t : List ℕ) → is_table t ≡ true → (p : Part) × Within (variables t) (clocks t) p × (t ≡ table_of (variables t) (clocks t) p)
table_tree t h =
    let x = (table_of_file t).0 h in
    let a = accepted File x.0 x.1 in
    let e : t ≡ table_of (variables x.0) (clocks x.0) a.0 = sym x.2 ∙ compiled_is File x.0 a.0 a.1 in
    let r = table_accepted (variables x.0) (clocks x.0) a.0 a.2.within in
    let v : variables t ≡ variables x.0 = ap variables e ∙ r.2 in
    let k : clocks t ≡ clocks x.0 = ap clocks e ∙ r.3 in
    (a.0, rw (v, k) a.2.within, rw (v, k) e)

-- the table of a tree within the limits is a table
pub tree_table : (v k : ℕ) (p : Part) → Within v k p → is_table (table_of v k p) ≡ true
tree_table v k p w =
    let a = file_accepted v k p w in
    (table_of_file (table_of v k p)).1 (file_of v k p, a.0, rw (a.2, a.3) at (compiled_is File (file_of v k p) p a.1))

-- a table holds the tree that it is the table of
pub table_held : (t : List ℕ) → is_table t ≡ true → (p : Part) × Holds Table t p × (t ≡ table_of (variables t) (clocks t) p)
table_held t h =
    let x = table_tree t h in
    (x.0, subst (λ s. Holds Table s x.0) (sym x.2) (table_holds (variables t) (clocks t) x.0 x.1), x.2)

-- whether bytes are a table can be told from the bytes read as a table
pub table_checked : (t : List ℕ) → is_table t ≡ (eqb (program_refusal Table t) 0 && same (compiled Table t) t)
table_checked t = both_true (is_table t) (eqb (program_refusal Table t) 0 && same (compiled Table t) t) to from
  where
    to : is_table t ≡ true → (eqb (program_refusal Table t) 0 && same (compiled Table t) t) ≡ true
    to h =
        let x = table_held t h in
        check (program_refusal Table t) (compiled Table t) t (held_accepted Table t x.0 x.1) (compiled_is Table t x.0 (held_tree Table t x.0 x.1) ∙ sym x.2)

    from : (eqb (program_refusal Table t) 0 && same (compiled Table t) t) ≡ true → is_table t ≡ true
    from h =
        let c = checked (program_refusal Table t) (compiled Table t) t h in
        let a = accepted Table t c.0 in
        subst (λ s. is_table s ≡ true) (sym (compiled_is Table t a.0 a.1) ∙ c.1) (tree_table (variables t) (clocks t) a.0 a.2.within)

-- row r numbered m has for its next a later sibling among the rows after it
record Followed (m : ℕ) (r : Row) (rs : List Row) : Type 0 where
  steps : ℕ
  end_is : r.end ≡ suc m + steps
  there : steps < length rs
  same_parent : (get_or rs steps no_row).parent ≡ r.parent
  next_end_lem : r.next ≡ r.end

-- a CHOICE, numbered m, has its second child among the rows after it: its first does not end where they do
abbrev Branched : ℕ → Row → List Row → Type 0
Branched m r rs = kind_of r.kind ≡ CHOICE → (0 < length rs) × ((get_or rs 0 no_row).end < suc m + length rs)

-- the numbers in row r, numbered m, stay among the rows
record Linked (m : ℕ) (r : Row) (rs : List Row) : Type 0 where
  end_after : m < r.end
  end_within_lem : r.end ≤ suc m + length rs
  parent_is : (r.parent ≡ no_part) ⊎ (r.parent < m)
  next_is : (r.next ≡ no_part) ⊎ ((r.next ≡ m) ⊎ Followed m r rs)
  branches : Branched m r rs

-- rows numbered from m on, each with the rows after it
abbrev Links : ℕ → List Row → Type 0
Links m [] = Unit {0}
Links m (r ∷ rs) = Linked m r rs × Links (suc m) rs

-- further rows leave the links of those before them as they are
module _ (m : ℕ) (r : Row) (rs more : List Row) where
  followed_more : Followed m r rs → Followed m r (rs ++ more)
  followed_more f =
      record {
        steps = f.steps;
        end_is = f.end_is;
        there = rw length-append (omega arith);
        same_parent = rw (get_or-append rs more no_row f.steps f.there) f.same_parent;
        next_end_lem = f.next_end_lem;
      }

  branched_more : Branched m r rs → Branched m r (rs ++ more)
  branched_more f k =
      let b = f k in
      (rw length-append (omega arith), rw (get_or-append rs more no_row 0 b.0, length-append) (omega (arith, b.1)))

  linked_more : Linked m r rs → Linked m r (rs ++ more)
  linked_more l =
      record {
        end_after = l.end_after;
        end_within_lem = rw length-append (omega arith);
        parent_is = l.parent_is;
        next_is = ⊎_map (λ e. e) (⊎_map (λ e. e) followed_more) l.next_is;
        branches = branched_more l.branches;
      }

-- rows that follow rows
links_append : (xs ys : List Row) (m : ℕ) → Links m xs → Links (m + length xs) ys → Links m (xs ++ ys)
links_append [] ys m h k = rw add-zero at k
links_append (x ∷ xs) ys m h k = (linked_more m x xs ys h.0, links_append xs ys (suc m) h.1 (rw (suc-add, ← add-suc) k))

-- a row's next is none, itself, or its end where a sibling follows
next_cases : (k : Kind) (n e : ℕ) (b : Bool) → (next_of k n e b ≡ no_part) ⊎ ((next_of k n e b ≡ n) ⊎ ((b ≡ true) × (next_of k n e b ≡ e)))
unfolding next_of
next_cases UNKNOWN n e b = inl refl
next_cases GOAL n e b = inl refl
next_cases START n e b = inl refl
next_cases WAIT n e b = inl refl
next_cases SEQ n e true = inr (inr (refl, refl))
next_cases SEQ n e false = inl refl
next_cases PAR n e b = inl refl
next_cases MAINTAIN n e b = inl refl
next_cases CHOICE n e b = inl refl
next_cases REPEAT n e b = inr (inl refl)

-- the rows inside a part that stands at number n
abbrev inner_rows : Part → ℕ → List Row
inner_rows p n = siblings (kind p) n (suc n) (map block (children p))

length_inner : (p : Part) (n : ℕ) → suc (length (inner_rows p n)) ≡ size p
length_inner p n = rw (rows_law p n 0 0) at (length_rows p n 0 0)

-- the rows inside a CHOICE are those of its two children
inner_branches : (p : Part) (n : ℕ) → kind p ≡ CHOICE → (0 < length (inner_rows p n)) × ((get_or (inner_rows p n) 0 no_row).end < suc n + length (inner_rows p n))
unfolding number_of
inner_branches (goal o) n e = absurd (omega (arith, ap number_of e))
inner_branches (start o) n e = absurd (omega (arith, ap number_of e))
inner_branches (wait o) n e = absurd (omega (arith, ap number_of e))
inner_branches (seq ps) n e = absurd (omega (arith, ap number_of e))
inner_branches (par ps) n e = absurd (omega (arith, ap number_of e))
inner_branches (maintain o p) n e = absurd (omega (arith, ap number_of e))
inner_branches (choice o p q) n e = (
  rw (rows_law p (suc n) n) (omega arith),
  rw (block_parts_lem p, rows_law p (suc n) n, length-append, length-append, length_rows q) (omega (arith, length_inner p (suc n), length_inner q n)),
)
inner_branches (repeat p) n e = absurd (omega (arith, ap number_of e))

-- the row of part p, at number n, before the rows inside it
row_branches : (p : Part) (n q x : ℕ) → Branched n (record { kind = number_of (kind p); end = n + size p; parent = q; next = x; operand = operand p }) (inner_rows p n)
row_branches p n q x e = inner_branches p n (sym (kind_number_lem p) ∙ e)

module _ (k : Kind) (q n : ℕ) (p : Part) where
  child_row : List Part → Row
  child_row ps = record { kind = number_of (kind p); end = n + size p; parent = q; next = next_of k n (n + size p) (nonempty (map block ps)); operand = operand p }

  after_row : List Part → List Row
  after_row ps = inner_rows p n ++ siblings k q (n + size p) (map block ps)

  child_followed : (ps : List Part) → nonempty (map block ps) ≡ true → next_of k n (n + size p) (nonempty (map block ps)) ≡ n + size p → Followed n (child_row ps) (after_row ps)
  unfolding child_row after_row
  child_followed [] b e = absurd (false≢true b)
  child_followed (c ∷ ps) b e =
      record {
        steps = length (inner_rows p n);
        end_is = omega (arith, length_inner p n);
        there = rw (rows_law c (n + size p) q, length-append) (omega arith);
        same_parent = rw (rows_law c (n + size p) q, get_or-append_seam);
        next_end_lem = e;
      }

  child_linked : (ps : List Part) → q < n → Linked n (child_row ps) (after_row ps)
  unfolding child_row after_row
  child_linked ps l =
      record {
        end_after = omega (arith, length_inner p n);
        end_within_lem = rw length-append (omega (arith, length_inner p n));
        parent_is = inr l;
        next_is = ⊎_map (λ e. e) (⊎_map (λ e. e) (λ e. child_followed ps e.0 e.1)) (next_cases k n (n + size p) (nonempty (map block ps)));
        branches = branched_more n (child_row ps) (inner_rows p n) (siblings k q (n + size p) (map block ps)) (row_branches p n q (child_row ps).next);
      }

InnerLinks : Part → Type 0
InnerLinks p = (n : ℕ) → Links (suc n) (inner_rows p n)

siblings_links : (ps : List Part) → All InnerLinks ps → (k : Kind) (q n : ℕ) → q < n → Links n (siblings k q n (map block ps))
unfolding InnerLinks child_row after_row
siblings_links [] h k q n l = tt
siblings_links (p ∷ ps) h k q n l =
    let s : suc n + length (inner_rows p n) ≡ n + size p = omega (arith, length_inner p n) in
    rw (block_parts_lem p, rows_law p n q)
    (child_linked k q n p ps l, links_append (inner_rows p n) (siblings k q (n + size p) (map block ps)) (suc n) (h.0 n) (rw s (siblings_links ps h.1 k q (n + size p) (omega arith))))

inner_links : (p : Part) → InnerLinks p
unfolding InnerLinks
inner_links = part_ind InnerLinks (λ p h n. siblings_links (children p) h (kind p) n (suc n) (omega arith))

-- the rows of a whole program are linked among themselves
rows_links : (p : Part) → Links 0 (tree_rows p)
unfolding InnerLinks
rows_links p =
    rw (rows_law p 0 no_part no_part)
    (record { end_after = omega (arith, length_inner p 0); end_within_lem = omega (arith, length_inner p 0); parent_is = inl refl; next_is = inl refl; branches = row_branches p 0 no_part no_part }, inner_links p 0)

links_at : (rs : List Row) (m i : ℕ) → Links m rs → i < length rs → Linked (m + i) (get_or rs i no_row) (drop (suc i) rs)
links_at [] m i h l = absurd (not-suc-le-zero l)
links_at (r ∷ rs) m zero h l = rw add-zero h.0
links_at (r ∷ rs) m (suc i) h l = rw (add-suc, ← suc-add) (links_at rs (suc m) i h.1 (le_of_suc-le-suc l))

-- part p's next is a later sibling, the part that stands where p ends
pub record Later (t : List ℕ) (p : ℕ) : Type 0 where
  pub after : p < next_at t p
  pub before_end : next_at t p < parts t
  pub next_end_lem : next_at t p ≡ end_at t p
  pub same_parent : parent_at t (next_at t p) ≡ parent_at t p

-- the numbers in row p stay inside the table
pub record LinksInside (t : List ℕ) (p : ℕ) : Type 0 where
  pub end_after : p < end_at t p
  pub end_within_lem : end_at t p ≤ parts t
  pub parent_is : (parent_at t p ≡ no_part) ⊎ (parent_at t p < p)
  pub next_is : (next_at t p ≡ no_part) ⊎ ((next_at t p ≡ p) ⊎ Later t p)

abbrev row_at : Part → ℕ → Row
row_at p i = get_or (tree_rows p) i no_row

row_linked : (p : Part) (i : ℕ) → i < size p → Linked i (row_at p i) (drop (suc i) (tree_rows p))
row_linked p i l = rw zero-add at (links_at (tree_rows p) 0 i (rows_links p) (rw length_rows l))

rows_after : (p : Part) (i : ℕ) → length (drop (suc i) (tree_rows p)) ≡ size p - suc i
rows_after p i = rw (length-drop, length_rows)

module _ (v k : ℕ) (p : Part) (w : Within v k p) where
  row_number : (i j : ℕ) → i < size p → j < row_length → number_at (table_of v k p) (header_length + row_length * i + j) ≡ number_at (row_bytes (row_at p i)) j
  unfolding table_of
  row_number i j l m = row_byte_lem (size_bytes (size p) v k) (tree_rows p) refl i j (header_length + row_length * i + j) (rw length_rows l) m (omega arith)

  module _ (i : ℕ) (l : i < size p) where
    end_fits : (row_at p i).end ≤ size p
    end_fits =
        let a : Linked i (row_at p i) (drop (suc i) (tree_rows p)) = row_linked p i l in
        omega (arith, rows_after p i)

    pub end_at_lem : end_at (table_of v k p) i ≡ (row_at p i).end
    end_at_lem = row_number i 1 l (omega arith) ∙ number_back (row_at p i).end [] (omega (arith, end_fits, w.size_fits))

    pub parent_at_lem : parent_at (table_of v k p) i ≡ (row_at p i).parent
    parent_at_lem = row_number i (1 + number_width) l (omega arith) ∙ number_back (row_at p i).parent [] (go (row_linked p i l).parent_is)
      where
        go : ((row_at p i).parent ≡ no_part) ⊎ ((row_at p i).parent < i) → (row_at p i).parent ≤ no_part
        go (inl e) = omega arith
        go (inr e) = omega (arith, w.size_fits)

    pub next_at_lem : next_at (table_of v k p) i ≡ (row_at p i).next
    next_at_lem = row_number i (1 + 2 * number_width) l (omega arith) ∙ number_back (row_at p i).next [] (go (row_linked p i l).next_is)
      where
        go : ((row_at p i).next ≡ no_part) ⊎ (((row_at p i).next ≡ i) ⊎ Followed i (row_at p i) (drop (suc i) (tree_rows p))) → (row_at p i).next ≤ no_part
        go (inl e) = omega arith
        go (inr (inl e)) = omega (arith, w.size_fits)
        go (inr (inr f)) = omega (arith, w.size_fits, end_fits)

  later_at : (i : ℕ) → i < size p → Followed i (row_at p i) (drop (suc i) (tree_rows p)) → Later (table_of v k p) i
  later_at i l f =
      let a : (row_at p i).next ≡ suc i + f.steps = f.next_end_lem ∙ f.end_is in
      let b : suc i + f.steps < size p = omega (arith, rows_after p i, f.there) in
      let c : (row_at p (suc i + f.steps)).parent ≡ (row_at p i).parent = rw get_or-drop at f.same_parent in
      record {
        after = omega (arith, next_at_lem i l);
        before_end = omega (arith, next_at_lem i l, table_parts v k p w);
        next_end_lem = next_at_lem i l ∙ f.next_end_lem ∙ sym (end_at_lem i l);
        same_parent = rw (next_at_lem i l ∙ a) (parent_at_lem (suc i + f.steps) b ∙ c ∙ sym (parent_at_lem i l));
      }

  inside_tree : (i : ℕ) → i < size p → LinksInside (table_of v k p) i
  inside_tree i l =
      let a : Linked i (row_at p i) (drop (suc i) (tree_rows p)) = row_linked p i l in
      record {
        end_after = omega (arith, end_at_lem i l);
        end_within_lem = omega (arith, end_at_lem i l, end_fits i l, table_parts v k p w);
        parent_is = ⊎_map (λ e. parent_at_lem i l ∙ e) (λ e. omega (arith, parent_at_lem i l)) a.parent_is;
        next_is = ⊎_map (λ e. next_at_lem i l ∙ e) (⊎_map (λ e. next_at_lem i l ∙ e) (later_at i l)) a.next_is;
      }

  choice_tree : (i : ℕ) → i < size p → kind_at (table_of v k p) i ≡ CHOICE → (suc i < parts (table_of v k p)) × (end_at (table_of v k p) (suc i) < parts (table_of v k p))
  unfolding table_of
  choice_tree i l e =
      let r : entry_at Table (table_of v k p) i ≡ row_entry (row_at p i) = row_entry_lem (size_bytes (size p) v k) (tree_rows p) refl i (rw length_rows l) in
      let b = (row_linked p i l).branches (sym (ap (λ (x : Entry). kind_of x.kind) r) ∙ e) in
      let m : suc i < size p = omega (arith, rows_after p i, b.0) in
      let f : (row_at p (suc i)).end < suc i + (size p - suc i) = rw (get_or-drop, add-zero, rows_after p i) at b.1 in
      (omega (arith, table_parts v k p w), omega (arith, table_parts v k p w, end_at_lem (suc i) m))

-- the numbers in each row of a table stay inside it
pub inside : (t : List ℕ) → is_table t ≡ true → (p : ℕ) → p < parts t → LinksInside t p
inside t h p l =
    let x = table_tree t h in
    subst (λ s. p < parts s → LinksInside s p) (sym x.2) (λ m. inside_tree (variables t) (clocks t) x.0 x.1 p (rw (table_parts (variables t) (clocks t) x.0 x.1) at m)) l

-- there is a root, and it ends where the table does
module _ (t : List ℕ) (table : is_table t ≡ true) where
  pub root_there : 0 < parts t
  root_there =
      let x = table_held t table in
      omega (arith, x.1.parts_are, size_law x.0)

  pub root_end : end_at t 0 ≡ parts t
  root_end =
      let x = table_tree t table in
      let p : Part = x.0 in
      let v : ℕ = variables t in
      let k : ℕ = clocks t in
      let own : (row_at p 0).end ≡ 0 + size p = rw (rows_law p 0 no_part no_part) in
      subst (λ s. end_at s 0 ≡ parts s) (sym x.2) (end_at_lem v k p x.1 0 (omega (arith, size_law p)) ∙ own ∙ omega (arith, table_parts v k p x.1))

-- a CHOICE has its two children inside the table
pub choice_inside : (t : List ℕ) → is_table t ≡ true → (p : ℕ) → p < parts t → kind_at t p ≡ CHOICE → (suc p < parts t) × (end_at t (suc p) < parts t)
choice_inside t h p l e =
    let x = table_tree t h in
    subst (λ s. p < parts s → kind_at s p ≡ CHOICE → (suc p < parts s) × (end_at s (suc p) < parts s)) (sym x.2) (λ m. choice_tree (variables t) (clocks t) x.0 x.1 p (rw (table_parts (variables t) (clocks t) x.0 x.1) at m)) l e
