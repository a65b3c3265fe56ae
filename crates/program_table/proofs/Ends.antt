-- The ends of parts: what a walk that ends at the last part says of a table's ends, and that a table passes it.
use Prim.Native.Nat.{ℕ, suc, ◌+◌, ◌≤◌, ◌<◌}
use native.Mathlib.Nat.{eq-or-lt_of_le}
use native.Mathlib.Omega.{arith}
use native.Mathlib.Numerals.{add-one}
use mathlib.Core.Path.{◌≡◌, refl, sym, ap, subst, ◌∙◌}
use mathlib.Core.Logic.{◌⊎◌, inl, inr}
use mathlib.Core.Bool.{Bool, true, false}
use mathlib.Core.Option.{some}
use mathlib.Core.List.{List, [], ◌∷◌, ◌++◌, map}
use lib.Dec.{ltb}
use lib.ListN.{drop}
use lib.Seq.{drop-drop}
use borrow.Author.Tests.{ltb-true, ltb-false, eqb-true, eq-eqb, ne_eqb, le-leb}
use Rattle.base.specs.Lists.{sum}
use Rattle.meaning.specs.declared.Entry.{Entry}
use Rattle.meaning.specs.declared.Form.TheVariants.{Table}
use Rattle.meaning.specs.Sizes.{no_part, max_depth}
use Rattle.meaning.specs.declared.kinds.Kind.{Kind}
use Rattle.meaning.specs.Tree.{Part, children, size, depth}
use Rattle.meaning.specs.Program.{parts, variables, clocks, entries, trees, tree_of, program_refusal}
use Rattle.meaning.specs.Table.{end_at, is_table, compiled}
use Rattle.meaning.proofs.Trees.{All, part_ind, size_law}
use Rattle.meaning.proofs.Files.{accepted, held_tree, single_part}
use Rattle.meaning.proofs.Tables.{table_held, compiled_is}
use Rattle.meaning.proofs.Entries.{entry_allowed_lem}
use Rattle.meaning.proofs.Lies.{Lies, LieIn, own_row, children_lie, first_lies, others_lie, root_lies}
use Rattle.program_walk.specs.Walk.{part_at, parts_end}
use Rattle.program_walk.proofs.Standing.{peel, past, part_is}
use Rattle.program_walk.proofs.Ending.{Fine, WholeTree, whole_reached}
use Rattle.program_table.specs.Checking.{end_stored, Ending}

-- A part that lies in a table ends there where the entries say
module _ (t : List ℕ) (es : List Entry) where
  abbrev Agree : Part → Type 0
  Agree c = (p q x : ℕ) (later : List Part) → Lies t c p q x → trees (drop p es) ≡ some (c ∷ later) → (i : ℕ) → p ≤ i → i < p + size c → end_at t i ≡ i + size (part_at es i)

  agree_in : (cs : List Part) → All Agree cs → {k : Kind} {q n : ℕ} (later : List Part) → LieIn t k q n cs → trees (drop n es) ≡ some (cs ++ later) → (i : ℕ) → n ≤ i → i < n + sum (map size cs) → end_at t i ≡ i + size (part_at es i)
  agree_in [] h later l s i a b = absurd (omega arith)
  agree_in (c ∷ cs) h {k} {q} {n} later l s i a b = go (ltb i (n + size c)) refl (λ m. agree_in cs h.1 later (others_lie l) (ap trees (sym (drop-drop (size c) n es)) ∙ past c (drop n es) (cs ++ later) s) i m (omega arith))
    where
      go : (x : Bool) → ltb i (n + size c) ≡ x → (n + size c ≤ i → end_at t i ≡ i + size (part_at es i)) → end_at t i ≡ i + size (part_at es i)
      go true e others = h.0 n q _ (cs ++ later) (first_lies l) s i a (ltb-true i (n + size c) e)
      go false e others = others (ltb-false i (n + size c) e)

  -- after a part's own entry stand its children
  inner_trees : (p : ℕ) (c : Part) (later : List Part) (xs : List Entry) → drop p es ≡ xs → trees xs ≡ some (c ∷ later) → trees (drop (suc p) es) ≡ some (children c ++ later)
  unfolding trees
  inner_trees p c later [] e h = cc
  inner_trees p c later (x ∷ xs) e h =
      let rest : xs ≡ drop (suc p) es = ap (drop 1) (sym e) ∙ drop-drop 1 p es ∙ ap (λ (n : ℕ). drop n es) (add-one p) in
      rw (← rest) (peel x xs c later h).inside

  agree_part : (c : Part) → All Agree (children c) → Agree c
  agree_part c h p q x later l s i a b = go (eq-or-lt_of_le a)
    where
      go : (p ≡ i) ⊎ (p < i) → end_at t i ≡ i + size (part_at es i)
      go (inl e) = rw (← e) ((own_row l).end_is ∙ ap (λ (d : Part). p + size d) (sym (part_is es p c later s)))
      go (inr m) = agree_in (children c) h later (children_lie l) (inner_trees p c later (drop p es) refl s) i m (omega (arith, size_law c))

  pub agree : (c : Part) → Agree c
  agree c = part_ind Agree agree_part c

module _ (t : List ℕ) where
  abbrev es : List Entry
  es = entries Table t

  -- a tree that stands alone and lies in a table from its first row on
  all_agree : (s : List ℕ) (c : Part) → trees es ≡ some (c ∷ []) → Lies s c 0 no_part no_part → (p : ℕ) → p < size c → end_at s p ≡ p + size (part_at es p)
  all_agree s c h l p b = agree s es c 0 no_part no_part [] l h p (omega arith) (omega arith)

  -- A walk that ends at the last part: the bytes hold a program, and their ends are those implied
  pub ending_found : WholeTree Table t (end_stored t) max_depth → program_refusal Table t ≡ 0 → Ending t
  unfolding end_stored
  ending_found w z =
      let a = accepted Table t z in
      let tree : trees es ≡ some (a.0 ∷ []) = single_part (trees es) a.0 (unfold tree_of in a.1) in
      let lies : Lies (compiled Table t) a.0 0 no_part no_part = subst (λ s. Lies s a.0 0 no_part no_part) (sym (compiled_is Table t a.0 a.1)) (root_lies (variables t) (clocks t) a.0 a.2.within) in
      record {
        accepted = z;
        ends = λ p b. sym (eqb-true (p + size (part_at es p)) (end_at t p) (w.fine p b).tested) ∙ sym (all_agree (compiled Table t) a.0 tree lies p (omega (arith, a.2.parts_are)));
      }

  -- And a table passes it
  pub table_ends : is_table t ≡ true → parts_end Table t (end_stored t) max_depth 1 0 ≡ parts t
  unfolding end_stored
  table_ends table =
      let x = table_held t table in
      let tree : trees es ≡ some (x.0 ∷ []) = single_part (trees es) x.0 (unfold tree_of in held_tree Table t x.0 x.1) in
      let lies : Lies t x.0 0 no_part no_part = subst (λ s. Lies s x.0 0 no_part no_part) (sym x.2) (root_lies (variables t) (clocks t) x.0 x.1.within) in
      let fine : (p : ℕ) → p < parts t → Fine Table t (end_stored t) p = λ p b. record { allowed = entry_allowed_lem t table p b; tested = eq-eqb (p + size (part_at es p)) (end_at t p) (sym (all_agree t x.0 tree lies p (omega (arith, x.1.parts_are)))) } in
      whole_reached Table t (end_stored t) fine max_depth x.0 tree ∙ rw (le-leb (depth x.0) max_depth x.1.within.depth_fits) (omega (arith, x.1.parts_are))

-- An end compared with the one that the row says
module _ (t : List ℕ) (q x r : ℕ) (r-is : r ≡ end_at t q) where
  pub end_same : x ≡ r → end_stored t q x ≡ true
  unfolding end_stored
  end_same h = eq-eqb x (end_at t q) (h ∙ r-is)

  pub end_differs : (x ≡ r → ⊥) → end_stored t q x ≡ false
  unfolding end_stored
  end_differs h = ne_eqb x (end_at t q) (λ e. h (e ∙ sym r-is))
