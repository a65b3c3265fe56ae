-- What the programs at the desk rely on: an input that is longer than every text can be told from its first bytes, and with room for the longest
-- program file every refusal of a text has words.
use Prim.Native.Nat.{ℕ, ◌+◌, ◌≤◌, ◌<◌}
use native.Mathlib.Decide.{dec_le}
use native.Mathlib.Omega.{arith}
use mathlib.Core.Path.{◌≡◌, refl, ap}
use mathlib.Core.Bool.{Bool, true, false}
use mathlib.Core.List.{List, [], ◌∷◌}
use mathlib.Core.Option.{Option, none, some}
use lib.Dec.{eqb, leb}
use lib.ListN.{length, take, length-take}
use lib.Seq.{take_all, take-take}
use borrow.Author.Tests.{leb-true, le-leb, lt-leb}
use Rattle.base.specs.Lists.{all, any, first_failing}
use Rattle.base.proofs.Lists.{and_left, and_right}
use Rattle.meaning.specs.declared.Form.TheVariants.{File}
use Rattle.meaning.specs.Sizes.{max_parts, max_depth, length_of}
use Rattle.meaning.specs.Tree.{size, depth}
use Rattle.meaning.specs.Program.{sizes_in_range, entry_allowed, preorder}
use Rattle.meaning.specs.Answers.{size_out_of_range, operand_not_allowed, too_deep, buffer_too_short, not_a_text}
use Rattle.meaning.proofs.Files.{file_length}
use Rattle.text_grammar.specs.Syntax.{Text}
use Rattle.text_grammar.specs.Trees.{body_tree, text_file}
use Rattle.text_grammar.specs.Texts.{max_text_length}
use Rattle.text_grammar.specs.Parser.{reading}
use Rattle.text_grammar.specs.Assembling.{refusal_of, assemble_refusal}
use Rattle.desk_texts.specs.Forms.{least_byte, telling, is_text}

-- one byte more than the longest text has
abbrev pub max_text_input : ℕ
max_text_input = max_text_length + 1

unread : (s : List ℕ) → max_text_length < length s → reading s ≡ none
unfolding reading
unread s h = rw (lt-leb (length s) max_text_length h)

-- so a buffer for so many bytes is enough to read any input
pub reading_first : (s : List ℕ) → reading (take max_text_input s) ≡ reading s
reading_first s = go (dec_le (length s) max_text_input)
  where
    go : Dec (length s ≤ max_text_input) → reading (take max_text_input s) ≡ reading s
    go (yes h) = rw (take_all max_text_input s h)
    go (no h) = rw (unread (take max_text_input s) (omega (arith, length-take max_text_input s, h)), unread s (omega arith))

pub refusal_first : (s : List ℕ) (room : ℕ) → assemble_refusal (take max_text_input s) room ≡ assemble_refusal s room
unfolding assemble_refusal
refusal_first s room = ap (λ (o : Option Text). refusal_of o room) (reading_first s)

-- and to tell whether it is a text
pub form_first : (s : List ℕ) → is_text (take max_text_input s) ≡ is_text s
unfolding is_text
form_first [] = refl
form_first (b ∷ bs) = ap (all (leb least_byte)) (take-take telling max_text_input (b ∷ bs) (omega arith))

-- the answers to a text in such a buffer: none but 0 and those that have words
abbrev with_words : List ℕ
with_words = 0 ∷ not_a_text ∷ size_out_of_range ∷ operand_not_allowed ∷ too_deep ∷ []

module _ (t : List ℕ) (room : ℕ) (enough : length_of File max_parts ≤ room) where
  roomy : (x : Text) → sizes_in_range (size (body_tree x.body)) x.variables x.clocks ≡ true → leb (length (text_file x)) room ≡ true
  unfolding text_file
  roomy x h =
      let p = body_tree x.body in
      let few = leb-true (size p) max_parts (and_left (leb (size p) max_parts) _ (and_right (leb 1 (size p)) _ h)) in
      le-leb (length (text_file x)) room (omega (arith, file_length x.variables x.clocks p, few))

  first : (a b c d : Bool) → (a ≡ true → d ≡ true)
      → any (eqb (first_failing ((size_out_of_range, a) ∷ (operand_not_allowed, b) ∷ (too_deep, c) ∷ (buffer_too_short, d) ∷ []))) with_words ≡ true
  first false b c d h = refl
  first true false c d h = refl
  first true true false d h = refl
  first true true true d h = rw (h refl)

  pub every_refusal_has_words : any (eqb (assemble_refusal t room)) with_words ≡ true
  unfolding assemble_refusal refusal_of
  every_refusal_has_words = of (reading t)
    where
      of : (o : Option Text) → any (eqb (refusal_of o room)) with_words ≡ true
      of none = refl
      of (some x) =
          let p = body_tree x.body in
          first (sizes_in_range (size p) x.variables x.clocks) (all (entry_allowed x.variables x.clocks) (preorder p)) (leb (depth p) max_depth) (leb (length (text_file x)) room) (roomy x)
