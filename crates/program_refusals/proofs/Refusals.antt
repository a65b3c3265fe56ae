-- Refusals 1 to 7, one law for each place where the code gives its answer.
use Prim.Native.Nat.{ℕ, ◌+◌, ◌≤◌, ◌<◌}
use native.Mathlib.Omega.{arith}
use mathlib.Core.Path.{◌≡◌, refl, sym, ap, ◌∙◌}
use mathlib.Core.Bool.{Bool, true, false, not, cond, ◌&&◌}
use mathlib.Core.List.{List, [], ◌∷◌, ◌++◌}
use lib.Dec.{leb}
use lib.ListN.{length, length-append}
use borrow.Author.Tests.{le-leb, lt-leb, leb-true, eq-eqb, ne_eqb, not-true, not-false}
use Rattle.base.specs.Lists.{all, first_failing}
use Rattle.base.proofs.Lists.{and_left}
use Rattle.meaning.specs.declared.Form.{Form}
use Rattle.meaning.specs.Sizes.{max_parts, max_variables, max_clocks, max_depth, header_length, length_of}
use Rattle.meaning.specs.Tree.{size, depth}
use Rattle.meaning.specs.Program.{parts, variables, clocks, sizes_allowed, entries, preorder, entry_known, entry_allowed, tree_of, is_tree, part_tests, program_refusal}
use Rattle.meaning.specs.Answers.{file_too_short, size_out_of_range, wrong_length, unknown_kind, operand_not_allowed, not_one_tree, too_deep}
use Rattle.meaning.proofs.Trees.{length_preorder}
use Rattle.meaning.proofs.Parsing.{trees_are}
use Rattle.meaning.proofs.Files.{length_entries}
use Rattle.program_walk.specs.Walk.{any_end, parts_end}
use Rattle.program_walk.proofs.Entries.{all_entries, each_entry}
use Rattle.program_walk.proofs.Standing.{Alone, alone}
use Rattle.program_walk.proofs.Ending.{Fine, whole_reached, WholeTree, whole}
use Rattle.program_refusals.specs.Counting.{fills}
use Rattle.program_refusals.proofs.Counting.{all_known_lem, one_tree}

-- what a test says, once its negation is known
refused : (r b : Bool) → r ≡ b → not r ≡ true → b ≡ false
refused r b e t = sym e ∙ not-true r t

passed : (r b : Bool) → r ≡ b → not r ≡ false → b ≡ true
passed r b e t = sym e ∙ not-false r t

pub long_enough : (form : Form) (s : List ℕ) (n m : ℕ) → n ≡ parts s → m ≡ length_of form n → length s ≡ m → length_of form (parts s) ≤ length s
long_enough form s n m p l f = omega (arith, f ∙ l ∙ ap (length_of form) p)

-- sizes that are allowed have a part
pub has_parts_lem : (r : Bool) (s : List ℕ) → r ≡ sizes_allowed s → not r ≡ false → 1 ≤ parts s
unfolding sizes_allowed
has_parts_lem r s e t = leb-true 1 (parts s) (and_left (leb 1 (parts s)) (leb (parts s) max_parts && (leb 1 (variables s) && (leb (variables s) max_variables && leb (clocks s) max_clocks))) (passed r (sizes_allowed s) e t))

module _ (form : Form) (s : List ℕ) where
  pub too_short : length s < header_length → file_too_short ≡ program_refusal form s
  unfolding program_refusal
  too_short h = rw (lt-leb header_length (length s) h)

  pub sizes_refused : (r : Bool) → header_length ≤ length s → r ≡ sizes_allowed s → not r ≡ true → size_out_of_range ≡ program_refusal form s
  unfolding program_refusal
  sizes_refused r h e t = rw (le-leb header_length (length s) h, refused r (sizes_allowed s) e t)

  module _ (r : Bool) (n m : ℕ) (h : header_length ≤ length s) (e : r ≡ sizes_allowed s) (t : not r ≡ false) (p : n ≡ parts s) (l : m ≡ length_of form n) where
    pub length_refused : (length s ≡ m → ⊥) → wrong_length ≡ program_refusal form s
    unfolding program_refusal
    length_refused f =
        rw (le-leb header_length (length s) h, passed r (sizes_allowed s) e t, ne_eqb (length s) (length_of form (parts s)) (λ x. f (x ∙ sym (l ∙ ap (length_of form) p))))

    pub parts_refused : (a : ℕ) → length s ≡ m → a ≡ first_failing (part_tests form s) → a ≡ program_refusal form s
    unfolding program_refusal
    parts_refused a f g =
        g ∙ rw (le-leb header_length (length s) h, passed r (sizes_allowed s) e t, eq-eqb (length s) (length_of form (parts s)) (f ∙ l ∙ ap (length_of form) p))

  module _ (known : Bool) (a : known ≡ all entry_known (entries form s)) where
    pub kinds_refused : not known ≡ true → unknown_kind ≡ first_failing (part_tests form s)
    kinds_refused t = rw (refused known (all entry_known (entries form s)) a t)

    module _ (t : not known ≡ false) (allowed : Bool) (b : allowed ≡ all (entry_allowed (variables s) (clocks s)) (entries form s)) where
      kinds_pass : all entry_known (entries form s) ≡ true
      kinds_pass = passed known (all entry_known (entries form s)) a t

      pub operands_refused : not allowed ≡ true → operand_not_allowed ≡ first_failing (part_tests form s)
      operands_refused u = rw (kinds_pass, refused allowed (all (entry_allowed (variables s) (clocks s)) (entries form s)) b u)

      module _ (u : not allowed ≡ false) (r : Bool) (d : r ≡ fills (entries form s) 1) where
        operands_pass : all (entry_allowed (variables s) (clocks s)) (entries form s) ≡ true
        operands_pass = passed allowed (all (entry_allowed (variables s) (clocks s)) (entries form s)) b u

        tree_is : is_tree (tree_of form s) ≡ r
        tree_is = one_tree (variables s) (clocks s) form s kinds_pass operands_pass ∙ sym d

        pub tree_refused : not r ≡ true → not_one_tree ≡ first_failing (part_tests form s)
        tree_refused f = rw (kinds_pass, operands_pass, tree_is, not-true r f)

        -- a tree that stands alone has all parts
        alone_size : (one : Alone form s) → size one.part ≡ parts s
        alone_size one =
            let are : entries form s ≡ preorder one.part ++ [] = trees_are (variables s) (clocks s) (entries form s) (one.part ∷ []) one.is kinds_pass operands_pass in
            omega (arith, length_preorder one.part, ap length are, length-append (preorder one.part) [], length_entries form s)

        -- one tree of allowed parts that the walk does not find to end is too deep
        pub depth_refused : not r ≡ false → (parts_end form s any_end max_depth 1 0 ≡ parts s → ⊥) → too_deep ≡ first_failing (part_tests form s)
        depth_refused f no_end =
            let one : Alone form s = alone form s (tree_is ∙ not-false r f) in
            let fine : (p : ℕ) → p < parts s → Fine form s any_end p = λ p h. record { allowed = each_entry form s (entry_allowed (variables s) (clocks s)) operands_pass p h; tested = refl } in
            go one (leb (depth one.part) max_depth) refl (whole_reached form s any_end fine max_depth one.part one.is)
          where
            go : (one : Alone form s) (x : Bool) → leb (depth one.part) max_depth ≡ x → parts_end form s any_end max_depth 1 0 ≡ cond x (0 + size one.part) 0 → too_deep ≡ first_failing (part_tests form s)
            go one true x-is e = absurd (no_end (e ∙ omega (arith, alone_size one)))
            go one false x-is e = rw (kinds_pass, operands_pass, one.tree, x-is)

  -- a walk that ends at the last part has found one tree of allowed parts that is not too deep, whatever its ends are tested for
  module _ (test : ℕ → ℕ → Bool) (e n : ℕ) (e-is : e ≡ parts_end form s test max_depth 1 0) (n-is : n ≡ parts s) where
    pub no_end : (e ≡ n → ⊥) → parts_end form s test max_depth 1 0 ≡ parts s → ⊥
    no_end h d = h (e-is ∙ d ∙ sym n-is)

    pub found_whole : 1 ≤ parts s → e ≡ n → WholeTree form s test max_depth
    found_whole has_parts_lem h = whole form s test max_depth (sym e-is ∙ h ∙ n-is) (λ z. omega arith)

    pub parts_pass : 1 ≤ parts s → e ≡ n → 0 ≡ first_failing (part_tests form s)
    unfolding tree_of
    parts_pass has_parts_lem h =
        let w : WholeTree form s test max_depth = found_whole has_parts_lem h in
        let allowed : all (entry_allowed (variables s) (clocks s)) (entries form s) ≡ true = all_entries form s (entry_allowed (variables s) (clocks s)) (λ p b. (w.fine p b).allowed) in
        rw (all_known_lem (variables s) (clocks s) (entries form s) allowed, allowed, w.tree, le-leb (depth w.part) max_depth w.shallow)
