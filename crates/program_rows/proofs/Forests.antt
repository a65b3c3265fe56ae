-- The rows of trees that stand one after the other, written from the last part down.
use Prim.Native.Nat.{ℕ, zero, suc, ◌+◌, ◌-◌, ◌*◌, ◌%◌, ◌≤◌, ◌<◌}
use native.Mathlib.Nat.{add-zero, mod-eq_of_lt}
use native.Mathlib.Omega.{arith}
use native.Mathlib.Numerals.{add-one, add-two, add-three}
use mathlib.Core.Path.{◌≡◌, refl, sym, ap, subst, ◌∙◌}
use mathlib.Core.Bool.{Bool}
use mathlib.Core.Option.{Option, none, some, none-ne-some}
use mathlib.Core.List.{List, [], ◌∷◌, ◌++◌, map, append_assoc, append-nil}
use lib.Dec.{ltb}
use lib.ListN.{length, get_or, set, drop, length-append, length-drop, get_or-append}
use lib.Seq.{sets, drop-drop, drop-append_seam, get_or-append-add, get_or-set_other, set-get_or}
use borrow.Author.Tests.{lt-ltb, le-ltb}
use Rattle.base.specs.Lists.{sum, nonempty}
use Rattle.base.proofs.Stores.{sets-append, sets_before, sets_inside, sets_start, get_or-sets_in}
use Rattle.meaning.specs.declared.Entry.{Entry}
use Rattle.meaning.specs.declared.Form.TheVariants.{File, Table}
use Rattle.meaning.specs.Sizes.{byte_values, number_limit, no_part, header_length, end_place, parent_place, next_place, row_length, length_of, number_at}
use Rattle.meaning.specs.declared.kinds.Kind.{Kind}
use Rattle.meaning.specs.declared.kinds.Kind.TheVariants.{Par as PAR}
use Rattle.meaning.specs.Kinds.{kind_of}
use Rattle.meaning.specs.Tree.{Part, kind, children, size}
use Rattle.meaning.specs.Program.{parts, entries, entry_at, arity_of, trees, follow, take_children, operand_bytes}
use Rattle.meaning.specs.Table.{Row, next_of, siblings, block}
use Rattle.meaning.proofs.Trees.{size_law, block_parts_lem, rows_law}
use Rattle.meaning.proofs.Tables.{length_rows}
use Rattle.meaning.proofs.Parsing.{Placed, placed}
use Rattle.meaning.proofs.Files.{length_entries}
use Rattle.program_walk.specs.Walk.{TreeAt, Walkable, OneTree, part_at}
use Rattle.program_rows.specs.Rows.{entry_row, with_links, linked_rows, forest_rows, Forest, inner_rows, inner_written, end_of, row_written, rows_of}
use Rattle.program_walk.proofs.Entries.{entries_at, entries_end}
use Rattle.program_walk.proofs.Standing.{ChildrenLeft, First, stands_entry, stands_below, left_first, left_head, left_more, head_is, head_stands, head_part, part_is, past}

-- a part has a row for itself and one for each part inside it
inner_long : (p : Part) (n : ℕ) → suc (length (inner_rows p n)) ≡ size p
unfolding inner_rows
inner_long p n = ap length (sym (rows_law p n 0 0)) ∙ length_rows p n 0 0

module _ (s : List ℕ) where
  rows_long : (q : ℕ) (rs : List Row) → length (linked_rows s q rs) ≡ row_length * length rs
  unfolding linked_rows
  rows_long q [] = refl
  rows_long q (r ∷ rs) = let rest : length (linked_rows s (suc q) rs) ≡ row_length * length rs = rows_long (suc q) rs in omega arith

  rows_append : (q : ℕ) (xs ys : List Row) → linked_rows s q (xs ++ ys) ≡ linked_rows s q xs ++ linked_rows s (q + length xs) ys
  unfolding linked_rows
  rows_append q [] ys = rw add-zero
  rows_append q (x ∷ xs) ys =
      let own : List ℕ = entry_row (entry_at File s q) x.end x.parent x.next in
      ap (λ (l : List ℕ). own ++ l) (rows_append (suc q) xs ys)
      ∙ sym (append_assoc own (linked_rows s (suc q) xs) (linked_rows s (suc q + length xs) ys))
      ∙ ap (λ (i : ℕ). (own ++ linked_rows s (suc q) xs) ++ linked_rows s i ys) (omega arith)

  -- The rows of children are that of the first, those of the parts inside it, and those of the other children
  children_rows : (c : Part) (k : Kind) (n q : ℕ) (cs : List Part)
      → linked_rows s q (siblings k n q (map block (c ∷ cs)))
      ≡ entry_row (entry_at File s q) (q + size c) n (next_of k q (q + size c) (nonempty (map block cs))) ++ (linked_rows s (q + 1) (inner_rows c q) ++ linked_rows s (q + size c) (siblings k n (q + size c) (map block cs)))
  unfolding inner_rows linked_rows
  children_rows c k n q cs =
      let m : suc q + length (inner_rows c q) ≡ q + size c = omega (arith, inner_long c q) in
      rw (block_parts_lem c, rows_law c q n (next_of k q (q + size c) (nonempty (map block cs))), add-one q)
      (ap (λ (l : List ℕ). entry_row (entry_at File s q) (q + size c) n (next_of k q (q + size c) (nonempty (map block cs))) ++ l)
      (rows_append (suc q) (inner_rows c q) (siblings k n (q + size c) (map block cs)) ∙ ap (λ (i : ℕ). linked_rows s (suc q) (inner_rows c q) ++ linked_rows s i (siblings k n (q + size c) (map block cs))) m))

  -- so writing those inside the first, then its own, then the others' writes them all
  child_rows : (c : Part) (k : Kind) (n q : ℕ) (cs : List Part) (out : List ℕ)
      → sets
      (sets (sets out (header_length + row_length * (q + 1)) (linked_rows s (q + 1) (inner_rows c q))) (header_length + row_length * q) (entry_row (entry_at File s q) (q + size c) n (next_of k q (q + size c) (nonempty (map block cs)))))
      (header_length + row_length * (q + size c))
      (linked_rows s (q + size c) (siblings k n (q + size c) (map block cs)))
      ≡ sets out (header_length + row_length * q) (linked_rows s q (siblings k n q (map block (c ∷ cs))))
  child_rows c k n q cs out =
      let I : List ℕ = linked_rows s (q + 1) (inner_rows c q) in
      let L : List ℕ = entry_row (entry_at File s q) (q + size c) n (next_of k q (q + size c) (nonempty (map block cs))) in
      let S : List ℕ = linked_rows s (q + size c) (siblings k n (q + size c) (map block cs)) in
      ap (λ (l : List ℕ). sets l (header_length + row_length * (q + size c)) S) (sets_before out (header_length + row_length * q) (header_length + row_length * (q + 1)) L I (omega arith))
      ∙ sets-append out (header_length + row_length * q) (header_length + row_length * (q + size c)) (L ++ I) S (omega (arith, rows_long (q + 1) (inner_rows c q), inner_long c q))
      ∙ ap (λ (l : List ℕ). sets out (header_length + row_length * q) l) (sym (children_rows c k n q cs))

-- The loop over the children of part n of kind k: those that are left complete its rows and lead to its end
pub record Rowing (s : List ℕ) (k : Kind) (n q remaining : ℕ) (out whole : List ℕ) (end : ℕ) : Type 0 where
  pub left : ChildrenLeft (entries File s) q remaining
  pub further : n < q
  pub completes : sets out (header_length + row_length * q) (linked_rows s q (siblings k n q (map block left.parts))) ≡ whole
  pub ends : q + sum (map size left.parts) ≡ end

pub rowing_first : (s : List ℕ) (n remaining : ℕ) (out : List ℕ) (part : Entry) → TreeAt (entries File s) n → part ≡ entry_at File s n → remaining ≡ arity_of part
    → Rowing s (kind_of part.kind) n (n + 1) remaining out (inner_written s n out) (end_of s n)
unfolding inner_rows
rowing_first s n remaining out part st is e =
    let t : part_at (entries File s) n ≡ st.part = part_is (entries File s) n st.part st.later st.is in
    rw (is, t, (stands_entry File s n st).kind_is)
    (record {
      left = left_first File s n remaining st (e ∙ ap arity_of is);
      further = omega arith;
      completes = ap (λ (m : ℕ). sets out (header_length + row_length * (n + 1)) (linked_rows s (n + 1) (siblings (kind st.part) n m (map block (children st.part))))) (add-one n);
      ends = omega (arith, size_law st.part);
    })

module _ (s : List ℕ) (k : Kind) (n q remaining : ℕ) (out whole : List ℕ) (end : ℕ) (w : Rowing s k n q remaining out whole end) (some : 0 < remaining) where
  abbrev es : List Entry
  es = entries File s

  first : First es q remaining w.left
  first = left_head es q remaining w.left some

  pub rowing_stands : TreeAt es q
  rowing_stands = head_stands es q remaining w.left first

  follows_is : ltb 0 (remaining - 1) ≡ nonempty (map block first.rest)
  follows_is = go first.rest (w.left.many ∙ ap length first.are)
    where
      go : (ps : List Part) → remaining ≡ suc (length ps) → ltb 0 (remaining - 1) ≡ nonempty (map block ps)
      go [] e = le-ltb 0 (remaining - 1) (omega arith)
      go (p ∷ ps) e = lt-ltb 0 (remaining - 1) (omega arith)

  rowing_next : Rowing s k n (q + size first.part) (remaining - 1)
      (sets
      (sets out (header_length + row_length * (q + 1)) (linked_rows s (q + 1) (inner_rows first.part q)))
      (header_length + row_length * q)
      (entry_row (entry_at File s q) (q + size first.part) n (next_of k q (q + size first.part) (nonempty (map block first.rest)))))
      whole
      end
  rowing_next =
      record {
        left = left_more es q remaining w.left first;
        further = omega (arith, w.further);
        completes =
            child_rows s first.part k n q first.rest out
            ∙ ap (λ (ps : List Part). sets out (header_length + row_length * q) (linked_rows s q (siblings k n q (map block ps)))) (sym first.are)
            ∙ w.completes;
        ends = omega (arith, ap (λ (ps : List Part). sum (map size ps)) first.are, w.ends);
      }

  -- a child is written: what is inside it, then itself
  pub rowing_child : (e next : ℕ) (follows : Bool) (out₁ out₂ : List ℕ) → e ≡ end_of s q → out₁ ≡ inner_written s q out → follows ≡ ltb 0 (remaining - 1) → next ≡ next_of k q e follows
      → out₂ ≡ sets out₁ (header_length + row_length * q) (entry_row (entry_at File s q) e n next) → Rowing s k n e (remaining - 1) out₂ whole end
  rowing_child e next follows out₁ out₂ he h₁ hf hn h₂ =
      rw (h₂, hn, h₁, he, head_part es q remaining w.left first, hf, follows_is) rowing_next

pub rowing_end : (s : List ℕ) (k : Kind) (n q remaining : ℕ) (out whole : List ℕ) (end : ℕ) → Rowing s k n q remaining out whole end → remaining ≤ 0 → (q ≡ end) × (out ≡ whole)
unfolding linked_rows
rowing_end s k n q remaining out whole end w h = go w.left.parts refl
  where
    go : (ps : List Part) → w.left.parts ≡ ps → (q ≡ end) × (out ≡ whole)
    go [] e = (
      omega (arith, ap (λ (ps : List Part). sum (map size ps)) e, w.ends),
      ap (λ (ps : List Part). sets out (header_length + row_length * q) (linked_rows s q (siblings k n q (map block ps)))) (sym e) ∙ w.completes,
    )
    go (p ∷ ps) e = absurd (omega (arith, w.left.many ∙ ap length e))

-- Bytes that stand in a list from place i on
abbrev There : List ℕ → ℕ → List ℕ → Type 0
There l i xs = (j : ℕ) → j < length xs → get_or l (i + j) 0 ≡ get_or xs j 0

module _ (l : List ℕ) where
  there_front : (i : ℕ) (xs ys : List ℕ) → There l i (xs ++ ys) → There l i xs
  there_front i xs ys t j h = t j (rw length-append (omega arith)) ∙ get_or-append xs ys 0 j h

  there_back : (i k : ℕ) (xs ys : List ℕ) → i + length xs ≡ k → There l i (xs ++ ys) → There l k ys
  there_back i k xs ys e t j h =
      let at : k + j ≡ i + (length xs + j) = omega arith in
      rw at (t (length xs + j) (rw length-append (omega arith)) ∙ get_or-append-add xs ys j 0)

  -- storing them changes nothing
  there_stored : (i : ℕ) (xs : List ℕ) → There l i xs → sets l i xs ≡ l
  there_stored i [] t = refl
  there_stored i (x ∷ xs) t =
      let own : get_or l i 0 ≡ x = rw add-zero at (t 0 (omega arith)) in
      rw (← own, set-get_or l i 0) (there_stored (suc i) xs (λ j h. let at : suc i + j ≡ i + suc j = omega arith in rw at (t (suc j) (omega arith))))

  -- a store before them leaves them
  there_kept : (i a x : ℕ) (xs : List ℕ) → a < i → There l i xs → There (set l a x) i xs
  there_kept i a x xs b t j h = get_or-set_other l a (i + j) x 0 (λ e. omega (arith, e)) ∙ t j h

  there_sets : (i : ℕ) (xs : List ℕ) → i + length xs ≤ length l → There (sets l i xs) i xs
  there_sets i xs b j h = get_or-sets_in l i j xs h (omega arith)

-- Trees have as many parts as they were made of
sizes_append : (cs ds : List Part) → sum (map size (cs ++ ds)) ≡ sum (map size cs) + sum (map size ds)
sizes_append [] ds = omega arith
sizes_append (c ∷ cs) ds = let rest : sum (map size (cs ++ ds)) ≡ sum (map size cs) + sum (map size ds) = sizes_append cs ds in omega arith

sizes_are : (xs : List Entry) (ps : List Part) → trees xs ≡ some ps → sum (map size ps) ≡ length xs
unfolding trees
sizes_are [] ps t = let n : ps ≡ [] = cc in rw n
sizes_are (e ∷ xs) ps t = go (trees xs) (λ qs q. sizes_are xs qs q) refl t
  where
    go : (m : Option (List Part)) → ((qs : List Part) → trees xs ≡ some qs → sum (map size qs) ≡ length xs) → trees xs ≡ m → follow (take_children e) m ≡ some ps → sum (map size ps) ≡ suc (length xs)
    go none ih q h = absurd (none-ne-some ps h)
    go (some qs) ih q h =
        let w : Placed e qs ps = placed e qs ps h in
        rw (w.result, size_law w.part) (omega (arith, ih qs q, ap (λ (l : List Part). sum (map size l)) w.inner, sizes_append (children w.part) w.later))

module _ (s : List ℕ) where
  abbrev all : List Entry
  all = entries File s

  -- trees that stand from q on reach to the last part
  reach_end : (q : ℕ) (ps : List Part) → q ≤ parts s → trees (drop q all) ≡ some ps → q + sum (map size ps) ≡ parts s
  reach_end q ps h t = omega (arith, sizes_are (drop q all) ps t, length-drop q all, length_entries File s)

  -- where the whole is trees, so are the parts from any number on
  trees_after : (e : Entry) (xs : List Entry) (ps : List Part) → trees (e ∷ xs) ≡ some ps → (qs : List Part) × (trees xs ≡ some qs)
  unfolding trees
  trees_after e xs ps h = go (trees xs) refl h
    where
      go : (m : Option (List Part)) → trees xs ≡ m → follow (take_children e) m ≡ some ps → (qs : List Part) × (trees xs ≡ some qs)
      go none q f = absurd (none-ne-some ps f)
      go (some qs) q f = (qs, q)

  pub trees_from : (ps : List Part) → trees all ≡ some ps → (q : ℕ) → q ≤ parts s → (qs : List Part) × (trees (drop q all) ≡ some qs)
  trees_from ps t zero h = (ps, t)
  trees_from ps t (suc q) h =
      let w = trees_from ps t q (omega arith) in
      trees_after (entry_at File s q) (drop (suc q) all) w.0 (ap trees (sym (entries_at File s q (omega arith))) ∙ w.1)

  -- the rows of trees one after the other
  siblings_append : (q : ℕ) (cs ds : List Part) → siblings PAR no_part q (map block (cs ++ ds)) ≡ siblings PAR no_part q (map block cs) ++ siblings PAR no_part (q + sum (map size cs)) (map block ds)
  unfolding next_of
  siblings_append q [] ds = rw add-zero
  siblings_append q (c ∷ cs) ds =
      let far : q + (size c + sum (map size cs)) ≡ q + size c + sum (map size cs) = omega arith in
      rw (block_parts_lem c, siblings_append (q + size c) cs ds, far) (sym (append_assoc ((block c).rows q no_part no_part) (siblings PAR no_part (q + size c) (map block cs)) (siblings PAR no_part (q + size c + sum (map size cs)) (map block ds))))

  siblings_long : (q : ℕ) (cs : List Part) → length (siblings PAR no_part q (map block cs)) ≡ sum (map size cs)
  unfolding next_of
  siblings_long q [] = refl
  siblings_long q (c ∷ cs) = rw (length-append, length_rows c q no_part no_part, block_parts_lem c, siblings_long (q + size c) cs)

  forest_long : (q : ℕ) (cs : List Part) → length (forest_rows s q cs) ≡ row_length * sum (map size cs)
  unfolding forest_rows
  forest_long q cs = rows_long s q (siblings PAR no_part q (map block cs)) ∙ ap (λ (n : ℕ). row_length * n) (siblings_long q cs)

  forest_append : (q : ℕ) (cs ds : List Part) → forest_rows s q (cs ++ ds) ≡ forest_rows s q cs ++ forest_rows s (q + sum (map size cs)) ds
  unfolding forest_rows
  forest_append q cs ds =
      ap (linked_rows s q) (siblings_append q cs ds)
      ∙ rows_append s q (siblings PAR no_part q (map block cs)) (siblings PAR no_part (q + sum (map size cs)) (map block ds))
      ∙ ap (λ (n : ℕ). linked_rows s q (siblings PAR no_part q (map block cs)) ++ linked_rows s (q + n) (siblings PAR no_part (q + sum (map size cs)) (map block ds))) (siblings_long q cs)

  -- the first tree's own row, the rows inside it, and those of the others
  forest_first : (q : ℕ) (c : Part) (cs : List Part) → forest_rows s q (c ∷ cs) ≡ entry_row (entry_at File s q) (q + size c) no_part no_part ++ (linked_rows s (q + 1) (inner_rows c q) ++ forest_rows s (q + size c) cs)
  unfolding forest_rows next_of
  forest_first q c cs = children_rows s c PAR no_part q cs

-- A row that stands in a list gets its parent and its next
row_links : (l : List ℕ) (i k e a b p x : ℕ) (os : List ℕ) → There l i (k ∷ e ∷ a ∷ b ∷ os) → set (set l (i + 2) p) (i + 3) x ≡ sets l i (k ∷ e ∷ p ∷ x ∷ os)
row_links l i k e a b p x os t =
    let first : get_or l i 0 ≡ k = rw add-zero at (t 0 (omega arith)) in
    let second : get_or l (suc i) 0 ≡ e = rw add-one at (t 1 (omega arith)) in
    let rest : There l (suc (suc (suc (suc i)))) os = there_back l i (suc (suc (suc (suc i)))) (k ∷ e ∷ a ∷ b ∷ []) os (omega arith) t in
    let low : suc (suc i) < suc (suc (suc (suc i))) = omega arith in
    let high : suc (suc (suc i)) < suc (suc (suc (suc i))) = omega arith in
    let kept : There (set (set l (suc (suc i)) p) (suc (suc (suc i))) x) (suc (suc (suc (suc i)))) os = there_kept (set l (suc (suc i)) p) (suc (suc (suc (suc i)))) (suc (suc (suc i))) x os high (there_kept l (suc (suc (suc (suc i)))) (suc (suc i)) p os low rest) in
    rw (add-two, add-three, ← first, set-get_or l i 0, ← second, set-get_or l (suc i) 0) (sym (there_stored (set (set l (suc (suc i)) p) (suc (suc (suc i))) x) (suc (suc (suc (suc i)))) os kept))

-- The loop over the children of part n, whose rows stand in the buffer
module _ (s : List ℕ) (k : Kind) (n q remaining : ℕ) (out whole : List ℕ) (end : ℕ) (w : Rowing s k n q remaining out whole end) (some-remaining : 0 < remaining) (f : Forest s out q) (small : parts s < number_limit) where
  child : First (entries File s) q remaining w.left
  child = first s k n q remaining out whole end w some-remaining

  abbrev others : List Part
  others = child.rest ++ w.left.later

  abbrev row : ℕ
  row = header_length + row_length * q

  here : q < parts s
  here = stands_below File s q (rowing_stands s k n q remaining out whole end w some-remaining)

  trees_are : trees (drop q (entries File s)) ≡ some (child.part ∷ others)
  trees_are = head_is (entries File s) q remaining w.left child

  stand : There out row (entry_row (entry_at File s q) (q + size child.part) no_part no_part ++ (linked_rows s (q + 1) (inner_rows child.part q) ++ forest_rows s (q + size child.part) others))
  stand =
      let same : f.trees_left ≡ child.part ∷ others = cc (f.are, trees_are) in
      subst (λ (xs : List ℕ). There out row xs) (ap (forest_rows s q) same ∙ forest_first s q child.part others) f.there

  whole_end : q + (size child.part + sum (map size others)) ≡ parts s
  whole_end = reach_end s q (child.part ∷ others) (omega (arith, here)) trees_are

  end_is : q + size child.part ≡ end_of s q
  end_is = ap (λ (c : Part). q + size c) (sym (head_part (entries File s) q remaining w.left child))

  fits : q + size child.part < number_limit
  fits = omega (arith, whole_end)

  pub end_read : (a e : ℕ) → a ≡ row → e ≡ number_at out (a + end_place) → e ≡ end_of s q
  end_read a e a-is e-is =
      let read : number_at out (row + end_place) ≡ (q + size child.part) % byte_values = stand 1 (omega arith) in
      rw (e-is, a-is) (read ∙ mod-eq_of_lt fits ∙ end_is)

  -- what is inside the child is written already
  inside_there : There out (header_length + row_length * (q + 1)) (linked_rows s (q + 1) (inner_rows child.part q))
  inside_there =
      there_front out (header_length + row_length * (q + 1)) (linked_rows s (q + 1) (inner_rows child.part q)) (forest_rows s (q + size child.part) others)
      (there_back out row (header_length + row_length * (q + 1)) (entry_row (entry_at File s q) (q + size child.part) no_part no_part) (linked_rows s (q + 1) (inner_rows child.part q) ++ forest_rows s (q + size child.part) others) (omega arith) stand)

  inside_written : out ≡ inner_written s q out
  inside_written = rw (head_part (entries File s) q remaining w.left child) (sym (there_stored out (header_length + row_length * (q + 1)) (linked_rows s (q + 1) (inner_rows child.part q)) inside_there))

  -- and so are the other trees
  others_there : There out (header_length + row_length * (q + size child.part)) (forest_rows s (q + size child.part) others)
  others_there =
      there_back out (header_length + row_length * (q + 1)) (header_length + row_length * (q + size child.part)) (linked_rows s (q + 1) (inner_rows child.part q)) (forest_rows s (q + size child.part) others)
      (omega (arith, rows_long s (q + 1) (inner_rows child.part q), inner_long child.part q))
      (there_back out row (header_length + row_length * (q + 1)) (entry_row (entry_at File s q) (q + size child.part) no_part no_part) (linked_rows s (q + 1) (inner_rows child.part q) ++ forest_rows s (q + size child.part) others) (omega arith) stand)

  module _ (e x : ℕ) (out₂ : List ℕ) (e-is : e ≡ end_of s q) (out-is : out₂ ≡ with_links out q n x) where
    linked : out₂ ≡ sets out (header_length + row_length * q) (entry_row (entry_at File s q) e n x)
    linked =
        let same : e ≡ q + size child.part = e-is ∙ sym end_is in
        out-is
        ∙ row_links out row (entry_at File s q).kind ((q + size child.part) % byte_values) no_part no_part (n % byte_values) (x % byte_values) (operand_bytes (entry_at File s q).operand) (there_front out row (entry_row (entry_at File s q) (q + size child.part) no_part no_part) (linked_rows s (q + 1) (inner_rows child.part q) ++ forest_rows s (q + size child.part) others) stand)
        ∙ rw same

    -- the child gets its links, and the others still stand
    pub link_child : (follows : Bool) → follows ≡ ltb 0 (remaining - 1) → x ≡ next_of k q e follows → Rowing s k n e (remaining - 1) out₂ whole end
    link_child follows follows-are x-is = rowing_child s k n q remaining out whole end w some-remaining e x follows out out₂ e-is inside_written follows-are x-is linked

    pub others_stand : Forest s out₂ e
    others_stand =
        let same : e ≡ q + size child.part = e-is ∙ sym end_is in
        rw (same, out-is)
        (record {
          trees_left = others;
          are = ap trees (sym (drop-drop (size child.part) q (entries File s))) ∙ past child.part (drop q (entries File s)) others trees_are;
          there = there_kept (set out (row + parent_place) (n % byte_values)) (header_length + row_length * (q + size child.part)) (row + next_place) (x % byte_values) (forest_rows s (q + size child.part) others) (omega (arith, size_law child.part))
              (there_kept out (header_length + row_length * (q + size child.part)) (row + parent_place) (n % byte_values) (forest_rows s (q + size child.part) others) (omega (arith, size_law child.part)) others_there);
        })

-- After the loop the part's own row is stored
pub row_done : (s : List ℕ) (k : Kind) (n q remaining : ℕ) (out₀ out out₁ : List ℕ) (part : Entry) → Rowing s k n q remaining out (inner_written s n out₀) (end_of s n) → remaining ≤ 0 → part ≡ entry_at File s n
    → out₁ ≡ sets out (header_length + row_length * n) (entry_row part q no_part no_part) → out₁ ≡ row_written s n out₀
unfolding row_written
row_done s k n q remaining out₀ out out₁ part w h part_is out-is =
    let d = rowing_end s k n q remaining out (inner_written s n out₀) (end_of s n) w h in
    rw (out-is, part_is, d.0, d.1)

-- The rows from p on are written, and nothing else
pub record Growing (s out₀ out : List ℕ) (p : ℕ) : Type 0 where
  pub trees_left : List Part
  pub are : trees (drop p (entries File s)) ≡ some trees_left
  pub rows : out ≡ sets out₀ (header_length + row_length * p) (forest_rows s p trees_left)

-- bytes in place of as many others
replaced : (l : List ℕ) (i : ℕ) (xs ys zs : List ℕ) → length ys ≡ length xs → sets (sets l i (xs ++ zs)) i ys ≡ sets l i (ys ++ zs)
replaced l i xs ys zs e =
    ap (λ (j : ℕ). sets (sets l i (xs ++ zs)) j ys) (sym (add-zero i))
    ∙ sets_inside l i 0 (xs ++ zs) ys (rw length-append (omega arith))
    ∙ ap (sets l i) (sets_start (xs ++ zs) ys (rw length-append (omega arith)) ∙ ap (λ (n : ℕ). ys ++ drop n (xs ++ zs)) e ∙ ap (λ (r : List ℕ). ys ++ r) (drop-append_seam xs zs))

module _ (s out₀ : List ℕ) (tree : OneTree s) where
  pub grow_first : (p : ℕ) → p ≡ parts s → Growing s out₀ out₀ p
  unfolding trees forest_rows linked_rows
  grow_first p p-is = rw p-is (record { trees_left = []; are = ap trees (entries_end File s); rows = refl })

  -- a part stands at each number
  stands_at : (p : ℕ) → p < parts s → TreeAt (entries File s) p
  stands_at p h =
      let t = trees_from s (tree.part ∷ []) tree.is p (omega arith) in
      go t.0 t.1 (reach_end s p t.0 (omega arith) t.1)
    where
      go : (ps : List Part) → trees (drop p (entries File s)) ≡ some ps → p + sum (map size ps) ≡ parts s → TreeAt (entries File s) p
      go [] t e = absurd (omega arith)
      go (c ∷ cs) t e = record { part = c; later = cs; is = t }

  module _ (p : ℕ) (h : p < parts s) where
    pub grow_walkable : Walkable File s p
    grow_walkable = record { long = tree.long; stands = stands_at p h }

    module _ (q : ℕ) (q-is : q ≡ p + 1) (out : List ℕ) (g : Growing s out₀ out q) (room : length_of Table (parts s) ≤ length out₀) where
      pub grow_forest : Forest s out (p + 1)
      grow_forest =
          let all_there : There (sets out₀ (header_length + row_length * q) (forest_rows s q g.trees_left)) (header_length + row_length * q) (forest_rows s q g.trees_left) = there_sets out₀ (header_length + row_length * q) (forest_rows s q g.trees_left) (omega (arith, room, forest_long s q g.trees_left, reach_end s q g.trees_left (omega arith) g.are)) in
          rw (← q-is, g.rows) (record { trees_left = g.trees_left; are = g.are; there = all_there })

      pub grow_next : (out₁ : List ℕ) → out₁ ≡ row_written s p out → Growing s out₀ out₁ p
      unfolding row_written
      grow_next out₁ out-is =
          let st : TreeAt (entries File s) p = stands_at p h in
          let c : Part = st.part in
          let j : ℕ = header_length + row_length * (p + 1) in
          let i : ℕ = header_length + row_length * p in
          let around : part_at (entries File s) p ≡ c = part_is (entries File s) p c st.later st.is in
          let inside : trees (drop (p + 1) (entries File s)) ≡ some (children c ++ st.later) = ap (λ (k : ℕ). trees (drop k (entries File s))) (add-one p) ∙ (stands_entry File s p st).inside in
          let left : g.trees_left ≡ children c ++ st.later = cc (ap (λ (k : ℕ). trees (drop k (entries File s))) (sym q-is) ∙ g.are, inside) in
          let far : p + 1 + sum (map size (children c)) ≡ p + size c = omega (arith, size_law c) in
          let own : List ℕ = entry_row (entry_at File s p) (p + size c) no_part no_part in
          let inner-rows : List ℕ = linked_rows s (p + 1) (inner_rows c p) in
          let now : out ≡ sets out₀ j (forest_rows s (p + 1) (children c) ++ forest_rows s (p + size c) st.later) =
          g.rows
          ∙ ap (λ (k : ℕ). sets out₀ (header_length + row_length * k) (forest_rows s k g.trees_left)) q-is
          ∙ ap (λ (ps : List Part). sets out₀ j (forest_rows s (p + 1) ps)) left
          ∙ ap (sets out₀ j) (forest_append s (p + 1) (children c) st.later ∙ ap (λ (k : ℕ). forest_rows s (p + 1) (children c) ++ forest_rows s k st.later) far) in
          let long : length inner-rows ≡ length (forest_rows s (p + 1) (children c)) = omega (arith, rows_long s (p + 1) (inner_rows c p), inner_long c p, forest_long s (p + 1) (children c), size_law c) in
          record {
            trees_left = c ∷ st.later;
            are = st.is;
            rows =
                out-is
                ∙ ap (λ (d : Part). sets (sets out j (linked_rows s (p + 1) (inner_rows d p))) i (entry_row (entry_at File s p) (p + size d) no_part no_part)) around
                ∙ ap (λ (l : List ℕ). sets (sets l j inner-rows) i own) now
                ∙ ap (λ (l : List ℕ). sets l i own) (replaced out₀ j (forest_rows s (p + 1) (children c)) inner-rows (forest_rows s (p + size c) st.later) long)
                ∙ sets_before out₀ i j own (inner-rows ++ forest_rows s (p + size c) st.later) (omega arith)
                ∙ ap (sets out₀ i) (sym (forest_first s p c st.later));
          }

pub grow_all : (s out₀ out : List ℕ) (p : ℕ) → OneTree s → Growing s out₀ out p → p ≤ 0 → out ≡ sets out₀ header_length (rows_of s)
unfolding rows_of forest_rows next_of
grow_all s out₀ out p tree g h =
    let none_left : p ≡ 0 = omega arith in
    let left : g.trees_left ≡ tree.part ∷ [] = cc (ap (λ (k : ℕ). trees (drop k (entries File s))) (sym none_left) ∙ g.are, tree.is) in
    let root : part_at (entries File s) 0 ≡ tree.part = part_is (entries File s) 0 tree.part [] tree.is in
    g.rows
    ∙ ap (λ (k : ℕ). sets out₀ (header_length + row_length * k) (forest_rows s k g.trees_left)) none_left
    ∙ ap (λ (ps : List Part). sets out₀ header_length (linked_rows s 0 (siblings PAR no_part 0 (map block ps)))) left
    ∙ rw root (ap (λ (rs : List Row). sets out₀ header_length (linked_rows s 0 rs)) (append-nil ((block tree.part).rows 0 no_part no_part)))
