-- Laws of the bytes that hold a program, in a file or in a table, and of the program file.
use Prim.Native.Nat.{ℕ, zero, suc, ◌+◌, ◌*◌, ◌≤◌, ◌<◌}
use native.Mathlib.Omega.{arith}
use native.Mathlib.Nat.{zero-add, add-zero, suc-add, add-suc, mul-zero, one-mul}
use native.Mathlib.Numerals.{towards_suc}
use mathlib.Core.Path.{◌≡◌, refl, sym, ap, ap₂, ◌∙◌}
use mathlib.Core.Bool.{Bool, true, ◌&&◌, false≢true, and-eq-true_iff}
use mathlib.Core.Option.{Option, none, some, none-ne-some}
use mathlib.Core.List.{List, [], ◌∷◌, ◌++◌, append-nil}
use lib.Dec.{leb}
use lib.ListN.{length, get_or, length-append, get_or-append}
use lib.Seq.{get_or-append-add}
use borrow.Author.Tests.{leb-true, le-leb, eqb-true, eq-eqb}
use Rattle.base.specs.Lists.{flat, all, tabulate}
use Rattle.base.proofs.Lists.{all_append, length_pieces, length-tabulate, piece_at, Passed, none_fails, passed}
use Rattle.base.proofs.Stores.{bytes_all, bytes_append}
use Rattle.meaning.specs.declared.Entry.{Entry}
use Rattle.meaning.specs.declared.Form.{Form}
use Rattle.meaning.specs.declared.Form.TheVariants.{File, Table}
use Rattle.meaning.specs.Sizes.{max_parts, max_variables, max_clocks, max_depth, header_length, operand_length, length_of, operand_place, no_part, number_bytes, number_at, bytes_at}
use Rattle.meaning.specs.Tree.{Part, children, depth, size}
use Rattle.meaning.specs.Program.{parts, variables, clocks, size_bytes, sizes_allowed, entry_at, entries, preorder, entry_known, entry_allowed, follow, trees, single, tree_of, is_tree, program_tests, program_refusal, Within, kind_byte, entry_operand, arrays, file_of}
use Rattle.meaning.proofs.Trees.{All, part_ind, size_law, preorder_law, entry_of, length_preorder}
use Rattle.meaning.proofs.Parsing.{kind_number_lem, known_kind, trees_alone, trees_are}

-- bytes that hold a tree, in either form
pub record Holds (form : Form) (s : List ℕ) (p : Part) : Type 0 where
  pub length_is : length s ≡ length_of form (parts s)
  pub parts_are : parts s ≡ size p
  pub entries_are : entries form s ≡ preorder p
  pub within : Within (variables s) (clocks s) p

-- where the test finds a tree there is one
pub some_part : (m : Option Part) → is_tree m ≡ true → (p : Part) × (m ≡ some p)
some_part none h = absurd (false≢true h)
some_part (some p) h = (p, refl)

-- where one tree is asked for, the trees are that one
pub single_part : (m : Option (List Part)) (p : Part) → follow single m ≡ some p → m ≡ some (p ∷ [])
single_part none p h = absurd (none-ne-some p h)
single_part (some []) p h = absurd (none-ne-some p h)
single_part (some (q ∷ [])) p h = cc
single_part (some (q ∷ r ∷ ps)) p h = absurd (none-ne-some p h)

module _ (form : Form) (s : List ℕ) where
  -- as many entries as parts
  pub length_entries : length (entries form s) ≡ parts s
  unfolding entries
  length_entries = length-tabulate (entry_at form s) 0 (parts s)

  tests_pass : program_refusal form s ≡ 0 → Passed (program_tests form s)
  unfolding program_refusal
  tests_pass h = none_fails (program_tests form s) refl h

  tests_passed : Passed (program_tests form s) → program_refusal form s ≡ 0
  unfolding program_refusal
  tests_passed h = passed (program_tests form s) h

  allowed_sizes : sizes_allowed s ≡ true → (1 ≤ parts s) × (parts s ≤ max_parts) × (1 ≤ variables s) × (variables s ≤ max_variables) × (clocks s ≤ max_clocks)
  unfolding sizes_allowed
  allowed_sizes h =
      let a = (and-eq-true_iff (leb 1 (parts s)) (leb (parts s) max_parts && (leb 1 (variables s) && (leb (variables s) max_variables && leb (clocks s) max_clocks)))).0 h in
      let b = (and-eq-true_iff (leb (parts s) max_parts) (leb 1 (variables s) && (leb (variables s) max_variables && leb (clocks s) max_clocks))).0 a.1 in
      let c = (and-eq-true_iff (leb 1 (variables s)) (leb (variables s) max_variables && leb (clocks s) max_clocks)).0 b.1 in
      let d = (and-eq-true_iff (leb (variables s) max_variables) (leb (clocks s) max_clocks)).0 c.1 in
      (leb-true 1 (parts s) a.0, leb-true (parts s) max_parts b.0, leb-true 1 (variables s) c.0, leb-true (variables s) max_variables d.0, leb-true (clocks s) max_clocks d.1)

  -- the entries of bytes that are read as a tree are that tree's
  tree_entries : (p : Part) → tree_of form s ≡ some p → all entry_known (entries form s) ≡ true → all (entry_allowed (variables s) (clocks s)) (entries form s) ≡ true → entries form s ≡ preorder p
  unfolding tree_of
  tree_entries p t k a = rw append-nil at (trees_are (variables s) (clocks s) (entries form s) (p ∷ []) (single_part (trees (entries form s)) p t) k a)

  -- accepted bytes hold a tree within the limits
  pub accepted : program_refusal form s ≡ 0 → (p : Part) × (tree_of form s ≡ some p) × Holds form s p
  accepted h =
      let w = tests_pass h in
      let t = some_part (tree_of form s) w.1.1.1.1.1.0 in
      let e = tree_entries t.0 t.1 w.1.1.1.0 w.1.1.1.1.0 in
      let n : parts s ≡ size t.0 = sym length_entries ∙ ap length e ∙ length_preorder t.0 in
      let z = allowed_sizes w.1.0 in (
        t.0,
        t.1,
        record {
          length_is = eqb-true (length s) (length_of form (parts s)) w.1.1.0;
          parts_are = n;
          entries_are = e;
          within = record {
            one_variable = z.2;
            variables_fit = z.3;
            clocks_fit = z.4;
            size_fits = omega arith;
            depth_fits = leb-true (depth t.0) max_depth (rw t.1 at w.1.1.1.1.1.1.0);
            entries_allowed = rw e at w.1.1.1.1.0;
          };
        },
      )

-- a test that each part's entry passes, all entries of a tree pass
module _ (t : Entry → Bool) (each : (p : Part) → t (entry_of p) ≡ true) where
  all_children : (ps : List Part) → All (λ p. all t (preorder p) ≡ true) ps → all t (flat preorder ps) ≡ true
  all_children [] h = refl
  all_children (p ∷ ps) h = rw (all_append t (preorder p) (flat preorder ps), h.0) (all_children ps h.1)

  pub all_preorder : (p : Part) → all t (preorder p) ≡ true
  all_preorder = part_ind (λ p. all t (preorder p) ≡ true) (λ p h. rw (preorder_law p, each p) (all_children (children p) h))

-- a part's entry is of a known kind
pub known_entry : (p : Part) → entry_known (entry_of p) ≡ true
unfolding entry_known
known_entry p = rw (kind_number_lem p) (known_kind p)

header_fits : (form : Form) (n : ℕ) → header_length ≤ length_of form n
header_fits File n = omega arith
header_fits Table n = omega arith

module _ (form : Form) (s : List ℕ) (p : Part) (h : Holds form s p) where
  sizes_allowed_lem : sizes_allowed s ≡ true
  unfolding sizes_allowed
  sizes_allowed_lem =
      let n : size p ≡ suc _ = size_law p in
      rw (
        le-leb 1 (parts s) (omega arith),
        le-leb (parts s) max_parts (omega arith),
        le-leb 1 (variables s) h.within.one_variable,
        le-leb (variables s) max_variables h.within.variables_fit,
        le-leb (clocks s) max_clocks h.within.clocks_fit,
      )

  -- bytes that hold a tree are read as that tree
  pub held_tree : tree_of form s ≡ some p
  unfolding tree_of
  held_tree = rw (h.entries_are, trees_alone p)

  -- bytes that hold a tree are accepted
  pub held_accepted : program_refusal form s ≡ 0
  held_accepted =
      tests_passed form s (
        le-leb header_length (length s) (rw h.length_is (header_fits form (parts s))),
        (
          sizes_allowed_lem,
          (
            eq-eqb (length s) (length_of form (parts s)) h.length_is,
            (
              rw h.entries_are (all_preorder entry_known known_entry p),
              (
                rw h.entries_are h.within.entries_allowed,
                (
                  rw held_tree,
                  (rw held_tree (le-leb (depth p) max_depth h.within.depth_fits), tt),
                ),
              ),
            ),
          ),
        ),
      )

-- a byte past the sizes
pub past_header : (h x : List ℕ) (m : ℕ) → length h ≡ header_length → get_or (h ++ x) (header_length + m) 0 ≡ get_or x m 0
past_header h x m l = rw (← l) (get_or-append-add h x m 0)

module _ (form : Form) (s : List ℕ) (d : Entry) where
  entries_from : (es : List Entry) (p : ℕ) → ((i : ℕ) → i < length es → entry_at form s (p + i) ≡ get_or es i d) → tabulate (entry_at form s) p (length es) ≡ es
  entries_from [] p at = refl
  entries_from (e ∷ es) p at =
      let first : entry_at form s p ≡ e = rw add-zero at (at 0 (omega arith)) in
      rw (first, entries_from es (suc p) (λ i l. rw (suc-add, ← add-suc) (at (suc i) (omega arith))))

  -- entries that stand one by one where a form has them are its entries
  pub entries_are : (es : List Entry) → parts s ≡ length es → ((i : ℕ) → i < length es → entry_at form s i ≡ get_or es i d) → entries form s ≡ es
  unfolding entries
  entries_are es n at = rw n (entries_from es 0 (λ i l. rw zero-add (at i l)))

-- sizes and arrays together are as long as a file of so many parts
pub length_arrays : (h : List ℕ) (es : List Entry) → length h ≡ header_length → length (h ++ arrays es) ≡ length_of File (length es)
length_arrays h es l = rw (length-append, length-append, l, length_pieces kind_byte 1 (λ e. refl) es, length_pieces entry_operand operand_length (λ e. refl) es) (omega arith)

-- sizes and arrays
module _ (h : List ℕ) (es : List Entry) (d : Entry) (l : length h ≡ header_length) (n : parts (h ++ arrays es) ≡ length es) where
  length_kinds : length (flat kind_byte es) ≡ length es
  length_kinds = rw (length_pieces kind_byte 1 (λ e. refl) es) (omega arith)

  file_kind : (i : ℕ) → i < length es → get_or (h ++ arrays es) (header_length + i) 0 ≡ (get_or es i d).kind
  file_kind i k =
      let e : 1 * i + 0 ≡ i = omega arith in
      rw (past_header h (arrays es) i l, get_or-append (flat kind_byte es) (flat entry_operand es) 0 i (rw length_kinds k)) (rw e at (piece_at kind_byte 1 (λ e. refl) es i 0 d 0 k (omega arith)))

  file_operand : (i j a : ℕ) → i < length es → j < operand_length → a ≡ header_length + (length es + (operand_length * i + j)) → get_or (h ++ arrays es) a 0 ≡ get_or (entry_operand (get_or es i d)) j 0
  file_operand i j a k m e =
      rw (e, past_header h (arrays es) (length es + (operand_length * i + j)) l, ← length_kinds, get_or-append-add) (piece_at entry_operand operand_length (λ e. refl) es i j d 0 k m)

  file_entry : (i : ℕ) → i < length es → entry_at File (h ++ arrays es) i ≡ get_or es i d
  file_entry i k =
      let o : ℕ = operand_place File (parts (h ++ arrays es)) i in
      λ x.
      record {
        kind = file_kind i k x;
        operand = record {
          b0 = file_operand i 0 o k (omega arith) (omega arith) x;
          b1 = file_operand i 1 (o + 1) k (omega arith) (omega arith) x;
          b2 = file_operand i 2 (o + 2) k (omega arith) (omega arith) x;
          b3 = file_operand i 3 (o + 3) k (omega arith) (omega arith) x;
        };
      }

  -- the entries of sizes and arrays are those that the arrays are made of
  pub file_entries : entries File (h ++ arrays es) ≡ es
  file_entries = entries_are File (h ++ arrays es) d es n file_entry

-- a part's number is read back from its bytes
pub number_back : (n : ℕ) (x : List ℕ) → n ≤ no_part → number_at (number_bytes n ++ x) 0 ≡ n
number_back n x h = omega arith

-- the sizes say the number of parts, whatever follows
pub parts_back : (n v k : ℕ) (x : List ℕ) → n ≤ no_part → parts (size_bytes n v k ++ x) ≡ n
parts_back n v k x h = number_back n ((v ∷ k ∷ []) ++ x) h

-- the file of a tree is as long as a file of so many parts
pub file_length : (v k : ℕ) (p : Part) → length (file_of v k p) ≡ length_of File (size p)
unfolding file_of
file_length v k p = length_arrays (size_bytes (size p) v k) (preorder p) refl ∙ ap (length_of File) (length_preorder p)

-- the file of a tree whose number of parts the sizes can hold, within the limits or not
module _ (v k : ℕ) (p : Part) (fits : size p ≤ no_part) where
  pub file_parts : parts (file_of v k p) ≡ size p
  unfolding file_of
  file_parts = parts_back (size p) v k (arrays (preorder p)) fits

  pub file_preorder : entries File (file_of v k p) ≡ preorder p
  unfolding file_of
  file_preorder = file_entries (size_bytes (size p) v k) (preorder p) (entry_of p) refl (file_parts ∙ sym (length_preorder p))

module _ (v k : ℕ) (p : Part) (w : Within v k p) where
  -- the file of a tree within the limits holds that tree
  pub file_holds : Holds File (file_of v k p) p
  unfolding file_of
  file_holds =
      let fits : size p ≤ no_part = omega (arith, w.size_fits) in
      record {
        length_is = rw (file_parts v k p fits) (file_length v k p);
        parts_are = file_parts v k p fits;
        entries_are = file_preorder v k p fits;
        within = w;
      }

  -- each tree within the limits has a file that is accepted, and that tree is the one that it holds
  pub file_accepted : (program_refusal File (file_of v k p) ≡ 0) × (tree_of File (file_of v k p) ≡ some p) × (variables (file_of v k p) ≡ v) × (clocks (file_of v k p) ≡ k)
  unfolding file_of
  file_accepted = (held_accepted File (file_of v k p) p file_holds, held_tree File (file_of v k p) p file_holds, refl, refl)

-- a list cut into pieces of one width is those pieces one after the other
module _ (form : Form) (s : List ℕ) (g : Entry → List ℕ) (w a : ℕ) (cut : (q : ℕ) → g (entry_at form s q) ≡ bytes_at s (a + w * q) w) where
  pub pieces_back : (p n : ℕ) → flat g (tabulate (entry_at form s) p n) ≡ bytes_at s (a + w * p) (w * n)
  pieces_back p zero = rw mul-zero
  pieces_back p (suc n) =
      let e : w * suc n ≡ w + w * n = omega arith in
      let m : a + w * suc p ≡ a + w * p + w = omega arith in
      rw (e, bytes_append s (a + w * p) w (w * n), cut p, pieces_back (suc p) n, m)

-- the first bytes are those of the sizes that they say
pub sizes_back : (s : List ℕ) → parts s ≤ no_part → bytes_at s 0 header_length ≡ size_bytes (parts s) (variables s) (clocks s)
sizes_back s h = rw (number_back (parts s) [] h)

module _ (s : List ℕ) where
  kinds_back : flat kind_byte (entries File s) ≡ bytes_at s header_length (parts s)
  unfolding entries
  kinds_back =
      rw (one-mul, add-zero) at (pieces_back File s kind_byte 1 header_length (λ q. rw one-mul) 0 (parts s))

  operands_back : flat entry_operand (entries File s) ≡ bytes_at s (header_length + parts s) (operand_length * parts s)
  unfolding entries
  operands_back = rw add-zero at (pieces_back File s entry_operand operand_length (header_length + parts s) (λ q. simp towards_suc) 0 (parts s))

  -- bytes of a file's length are its sizes and its arrays
  arrays_back : length s ≡ length_of File (parts s) → s ≡ bytes_at s 0 header_length ++ arrays (entries File s)
  arrays_back h =
      let e : length s ≡ header_length + (parts s + operand_length * parts s) = omega arith in
      rw (kinds_back, operands_back, ← bytes_append s header_length (parts s), ← bytes_append s 0 header_length, ← e, bytes_all)

-- a file that holds a tree is that tree's file
pub held_file : (f : List ℕ) (p : Part) → Holds File f p → f ≡ file_of (variables f) (clocks f) p
unfolding file_of
held_file f p h =
    let n : parts f ≤ no_part = omega (arith, h.within.size_fits) in
    arrays_back f h.length_is ∙ ap₂ (λ a b. a ++ arrays b) (sizes_back f n ∙ ap (λ m. size_bytes m (variables f) (clocks f)) h.parts_are) h.entries_are

-- the accepted files are encodings of trees within the limits
pub accepted_file : (f : List ℕ) → program_refusal File f ≡ 0 → (p : Part) × (tree_of File f ≡ some p) × Within (variables f) (clocks f) p × (f ≡ file_of (variables f) (clocks f) p)
accepted_file f h =
    let a = accepted File f h in
    (a.0, a.1, a.2.within, held_file f a.0 a.2)
