-- Which texts are accepted, and what assembling answers and writes: the text has the refusals of its file, and that file means the text's tree.
use Prim.Native.Nat.{ℕ, ◌≤◌}
use native.Mathlib.Omega.{arith}
use mathlib.Core.Path.{◌≡◌, refl, sym, ap, ◌∙◌}
use mathlib.Core.Bool.{Bool, true, false}
use mathlib.Core.List.{List, [], ◌∷◌}
use mathlib.Core.Logic.{◌↔◌}
use mathlib.Core.Option.{Option, none, some}
use lib.Dec.{eqb, leb}
use lib.ListN.{length, drop}
use borrow.Author.Tests.{leb-true, le-leb, eq-eqb, ne_eqb}
use Rattle.base.specs.Lists.{all, any, first_failing, bytes_at}
use Rattle.base.proofs.Lists.{and_left, and_right, none_fails, passed, fails_append}
use Rattle.meaning.specs.declared.Form.TheVariants.{File}
use Rattle.meaning.specs.Sizes.{max_parts, max_depth, no_part, header_length, length_of}
use Rattle.meaning.specs.Tree.{Part, size, depth}
use Rattle.meaning.specs.Program.{parts, variables, clocks, sizes_in_range, sizes_allowed, entries, entry_known, entry_allowed, preorder, tree_of, program_refusal, file_of}
use Rattle.meaning.specs.Answers.{size_out_of_range, operand_not_allowed, too_deep, buffer_too_short, not_a_text}
use Rattle.meaning.proofs.Parsing.{trees_alone}
use Rattle.meaning.proofs.Files.{accepted, all_preorder, known_entry, file_length, file_parts, file_preorder}
use Rattle.meaning.proofs.Refusals.{front_written}
use Rattle.text_grammar.specs.Syntax.{Text}
use Rattle.text_grammar.specs.Trees.{body_tree, text_file}
use Rattle.text_grammar.specs.Texts.{Fits}
use Rattle.text_grammar.specs.Parser.{reading}
use Rattle.text_grammar.specs.Assembling.{text_tests, assemble_tests, refusal_of, assemble_refusal, file_in, assembled_into}
use Rattle.text_grammar.proofs.Exact.{reading_exact}

-- the tree of a text
abbrev tree : Text → Part
tree x = body_tree x.body

-- the file's sizes say V and K as they are typed
file_sizes : (x : Text) → (variables (text_file x) ≡ x.variables) × (clocks (text_file x) ≡ x.clocks)
unfolding text_file file_of
file_sizes x = (refl, refl)

length_file : (x : Text) → length (text_file x) ≡ length_of File (size (tree x))
unfolding text_file
length_file x = file_length x.variables x.clocks (tree x)

-- where the sizes can hold the number of parts
module _ (x : Text) (fits : size (tree x) ≤ no_part) where
  parts_are : parts (text_file x) ≡ size (tree x)
  unfolding text_file
  parts_are = file_parts x.variables x.clocks (tree x) fits

  entries_are : entries File (text_file x) ≡ preorder (tree x)
  unfolding text_file
  entries_are = file_preorder x.variables x.clocks (tree x) fits

  tree_is : tree_of File (text_file x) ≡ some (tree x)
  unfolding tree_of
  tree_is = rw (entries_are, trees_alone (tree x))

-- "then 2, 5, 7 and 8 as for files"
pub as_for_files : (x : Text) → size (body_tree x.body) ≤ no_part → first_failing (text_tests x) ≡ program_refusal File (text_file x)
unfolding program_refusal sizes_allowed
as_for_files x fits =
    let n = parts_are x fits in
    let long : header_length ≤ length (text_file x) = omega (arith, length_file x) in
    let whole : length (text_file x) ≡ length_of File (parts (text_file x)) = length_file x ∙ ap (length_of File) (sym n) in
    rw (
      le-leb header_length (length (text_file x)) long,
      eq-eqb (length (text_file x)) (length_of File (parts (text_file x))) whole,
      n,
      (file_sizes x).0,
      (file_sizes x).1,
      entries_are x fits,
      all_preorder entry_known known_entry (tree x),
      tree_is x fits,
    )

-- The file of more parts than its sizes can hold is refused: its length is not that of the number which they say
few_enough : (x : Text) → program_refusal File (text_file x) ≡ 0 → size (tree x) ≤ no_part
few_enough x h =
    let a = (accepted File (text_file x) h).2 in
    omega (arith, length_file x, a.length_is, a.parts_are, a.within.size_fits)

-- "The program file comes out": the file of the tree that the text means, with V and K as typed
pub text_tree : (x : Text) → program_refusal File (text_file x) ≡ 0
    → (tree_of File (text_file x) ≡ some (body_tree x.body)) × (variables (text_file x) ≡ x.variables) × (clocks (text_file x) ≡ x.clocks)
text_tree x h = (tree_is x (few_enough x h), (file_sizes x).0, (file_sizes x).1)

module _ (x : Text) (room : ℕ) where
  tests_pass : first_failing (assemble_tests x room) ≡ 0 → (program_refusal File (text_file x) ≡ 0) × (length (text_file x) ≤ room)
  tests_pass h =
      let w = none_fails (assemble_tests x room) refl h in
      let n = leb-true (size (tree x)) max_parts (and_left (leb (size (tree x)) max_parts) _ (and_right (leb 1 (size (tree x))) _ w.0)) in
      (sym (as_for_files x (omega arith)) ∙ passed (text_tests x) (w.0, (w.1.0, (w.1.1.0, tt))), leb-true (length (text_file x)) room w.1.1.1.0)

  tests_passed : program_refusal File (text_file x) ≡ 0 → length (text_file x) ≤ room → first_failing (assemble_tests x room) ≡ 0
  tests_passed h l =
      rw (fails_append (text_tests x) ((buffer_too_short, leb (length (text_file x)) room) ∷ []) refl, as_for_files x (few_enough x h), h, le-leb (length (text_file x)) room l)

-- "A text is accepted exactly when it fits this grammar and its file is accepted"
pub text_accepted : (t : List ℕ) (room : ℕ) → (assemble_refusal t room ≡ 0) ↔ ((x : Text) × Fits t x × (program_refusal File (text_file x) ≡ 0) × (length (text_file x) ≤ room))
unfolding assemble_refusal refusal_of
text_accepted t room = (
  to (reading t) refl,
  λ w. rw ((reading_exact t w.0).1 w.1) (tests_passed w.0 room w.2 w.3),
)
  where
    to : (o : Option Text) → reading t ≡ o → refusal_of o room ≡ 0 → (x : Text) × Fits t x × (program_refusal File (text_file x) ≡ 0) × (length (text_file x) ≤ room)
    to none e h = absurd (omega arith)
    to (some x) e h = let w = tests_pass x room h in (x, (reading_exact t x).0 e, w.0, w.1)

-- "Refused: 16 for a text outside the grammar or too long, given first; then 2, 5, 7 and 8": no other answer comes
abbrev pub answers : List ℕ
answers = 0 ∷ not_a_text ∷ size_out_of_range ∷ operand_not_allowed ∷ too_deep ∷ buffer_too_short ∷ []

pub text_refusals : (t : List ℕ) (room : ℕ) → any (eqb (assemble_refusal t room)) answers ≡ true
unfolding assemble_refusal refusal_of
text_refusals t room = of (reading t)
  where
    first : (a b c d : Bool) → any (eqb (first_failing ((size_out_of_range, a) ∷ (operand_not_allowed, b) ∷ (too_deep, c) ∷ (buffer_too_short, d) ∷ []))) answers ≡ true
    first false b c d = refl
    first true false c d = refl
    first true true false d = refl
    first true true true false = refl
    first true true true true = refl

    of : (o : Option Text) → any (eqb (refusal_of o room)) answers ≡ true
    of none = refl
    of (some x) =
        first (sizes_in_range (size (tree x)) x.variables x.clocks) (all (entry_allowed x.variables x.clocks) (preorder (tree x))) (leb (depth (tree x)) max_depth) (leb (length (text_file x)) room)

-- "The program file comes out", and further bytes of the buffer are untouched
pub file_written : (t out : List ℕ) (x : Text) → Fits t x → assemble_refusal t (length out) ≡ 0
    → (bytes_at (assembled_into t out) 0 (length (text_file x)) ≡ text_file x) × (drop (length (text_file x)) (assembled_into t out) ≡ drop (length (text_file x)) out)
unfolding assembled_into assemble_refusal refusal_of file_in
file_written t out x f h =
    let r : reading t ≡ some x = (reading_exact t x).1 f in
    let l : length (text_file x) ≤ length out = (tests_pass x (length out) (rw r at h)).1 in
    rw (h, r) (front_written (text_file x) out (length (text_file x)) refl l)

-- "A refused call changes nothing"
pub refused_unchanged : (t out : List ℕ) → (assemble_refusal t (length out) ≡ 0 → ⊥) → assembled_into t out ≡ out
unfolding assembled_into
refused_unchanged t out h = rw (ne_eqb (assemble_refusal t (length out)) 0 h)
