-- Assembling a text: one law for each answer, and what follows for the buffers.
use Prim.Native.Nat.{ℕ, ◌≤◌}
use native.Mathlib.Nat.{zero-add}
use native.Mathlib.Omega.{arith}
use mathlib.Core.Path.{◌≡◌, refl, sym, ap, ◌∙◌}
use mathlib.Core.Bool.{false}
use mathlib.Core.List.{List, ◌++◌}
use lib.Dec.{eqb}
use lib.ListN.{length, take, drop}
use lib.Seq.{sets, length-sets, take_at}
use borrow.Author.Tests.{eqb-true, ne_eqb}
use Rattle.base.proofs.Lists.{none_fails}
use Rattle.base.proofs.Stores.{sets_start, get_or-sets_in}
use Rattle.meaning.specs.declared.Form.TheVariants.{File}
use Rattle.meaning.specs.declared.Refusal.{Refusal}
use Rattle.std.specs.Prelude.{Result, Ok, Err}
use Rattle.meaning.specs.Sizes.{length_of}
use Rattle.meaning.specs.Program.{parts, program_tests, program_refusal}
use Rattle.meaning.specs.Answers.{refusal_number, answer_number}
use Rattle.meaning.proofs.Answers.{refusal_positive, not_refused, is_refused}
use Rattle.text_grammar.specs.Syntax.{Text}
use Rattle.text_grammar.specs.Trees.{text_file}
use Rattle.text_grammar.specs.Texts.{Fits}
use Rattle.text_grammar.specs.Parser.{reading}
use Rattle.text_grammar.specs.Assembling.{assemble_refusal, file_in, assembled_into, Assembled}
use Rattle.text_grammar.proofs.Exact.{reading_exact}
use Rattle.text_grammar.proofs.Accepted.{text_accepted}
use Rattle.text_stops.specs.Places.{stop_place}
use Rattle.text_stops.proofs.Stops.{stop_inside}
use Rattle.desk_format.specs.Writing.{Written}
use Rattle.desk_texts.specs.Words.{refusal_text, max_words}
use Rattle.desk_texts.proofs.Saying.{words_fit}
use Rattle.desk_assembly.specs.declared.Refused.{Refused}
use Rattle.desk_assembly.specs.Assembly.{words_of, number_in, length_in, Assembling}

-- A text that is accepted: its file, and how long that is by the sizes that it begins with
module _ (t file : List ℕ) (z : assemble_refusal t (length file) ≡ 0) where
  abbrev pub text : Text
  text = ((text_accepted t (length file)).0 z).0

  pub fits : Fits t text
  fits = ((text_accepted t (length file)).0 z).1

  accepted : program_refusal File (text_file text) ≡ 0
  accepted = ((text_accepted t (length file)).0 z).2

  room : length (text_file text) ≤ length file
  room = ((text_accepted t (length file)).0 z).3

  file_of_lem : file_in (reading t) ≡ text_file text
  unfolding file_in
  file_of_lem = rw ((reading_exact t text).1 fits)

  written_file : assembled_into t file ≡ sets file 0 (text_file text)
  unfolding assembled_into
  written_file = rw (z, file_of_lem)

  whole : length (text_file text) ≡ length_of File (parts (text_file text))
  unfolding program_refusal
  whole = eqb-true (length (text_file text)) (length_of File (parts (text_file text))) (none_fails (program_tests File (text_file text)) refl accepted).1.1.0

  same_parts : parts (assembled_into t file) ≡ parts (text_file text)
  same_parts = rw written_file (get_or-sets_in file 0 0 (text_file text) (omega (arith, whole)) (omega (arith, whole, room)))

  length_told : length_of File (parts (assembled_into t file)) ≡ length (file_in (reading t))
  length_told = ap (length_of File) same_parts ∙ sym whole ∙ ap length (sym file_of_lem)

-- The place for the words
pub place_inside : (t : List ℕ) (place : ℕ) → place ≡ stop_place t → place ≤ length t
place_inside t place h = rw h (stop_inside t)

-- By each answer
module _ (t file file' words : List ℕ) (a : Result (Unit {0}) Refusal) (h : Assembled t file (answer_number a) file') where
  pub assembled_done : (n p : ℕ) → a ≡ Ok tt → p ≡ parts file' → n ≡ length_of File p → Assembling t file file' words words (Ok n)
  unfolding words_of
  assembled_done n p told p-is n-is =
      let z : assemble_refusal t (length file) ≡ 0 = not_refused a (assemble_refusal t (length file)) h.answer_is told in
      record {
        answer_is = sym z;
        file_is = h.buffer_is;
        words_are = rw z;
        length_is = rw z (n-is ∙ ap (length_of File) (p-is ∙ ap parts h.buffer_is) ∙ length_told t file z);
      }

  pub assembled_refused : (why : Refusal) (words' : List ℕ) (n place : ℕ) → a ≡ Err why → place ≡ stop_place t → Written (refusal_text (refusal_number why) t place) words 0 words' n
      → Assembling t file file' words words' (Err (record { why = why; length = n }))
  unfolding words_of
  assembled_refused why words' n place told place_is w =
      let number : refusal_number why ≡ assemble_refusal t (length file) = ap answer_number (sym told) ∙ h.answer_is in
      let no : eqb (assemble_refusal t (length file)) 0 ≡ false = ne_eqb (assemble_refusal t (length file)) 0 (is_refused a why (assemble_refusal t (length file)) h.answer_is told) in
      record {
        answer_is = number;
        file_is = h.buffer_is;
        words_are = rw (no, ← number, ← place_is) w.bytes;
        length_is = rw (no, ← number, ← place_is) (w.after ∙ zero-add (length (refusal_text (refusal_number why) t place)));
      }

-- An accepted text's file stands at the buffer's begin, and is the file that the text means
module _ (t file file' words words' : List ℕ) (a : Result ℕ Refused) (h : Assembling t file file' words words' a) where
  module _ (n : ℕ) (told : a ≡ Ok n) where
    pub zero_is : assemble_refusal t (length file) ≡ 0
    zero_is = sym h.answer_is ∙ ap number_in told

    size_is : n ≡ length (text_file (text t file zero_is))
    size_is = ap length_in (sym told) ∙ h.length_is ∙ rw (zero_is, file_of_lem t file zero_is)

    pub file_fits : n ≤ length file
    file_fits = omega (arith, size_is, room t file zero_is)

    pub file_inside : n ≤ length file'
    file_inside = rw (h.file_is, written_file t file zero_is, length-sets file 0 (text_file (text t file zero_is))) file_fits

    pub file_comes_out : Fits t (text t file zero_is) × (take n file' ≡ text_file (text t file zero_is))
    file_comes_out =
        let f = text_file (text t file zero_is) in
        let front : file' ≡ f ++ drop (length f) file = h.file_is ∙ written_file t file zero_is ∙ sets_start file f (room t file zero_is) in
        (fits t file zero_is, ap (take n) front ∙ take_at f (drop (length f) file) n (sym size_is))

  -- and the words fit theirs
  pub words_inside : (e : Refused) → a ≡ Err e → e.length ≤ max_words
  unfolding words_of
  words_inside e told =
      let n = assemble_refusal t (length file) in
      let number : refusal_number e.why ≡ n = ap number_in (sym told) ∙ h.answer_is in
      let no : eqb n 0 ≡ false = ne_eqb n 0 (λ z. refusal_positive e.why (number ∙ z)) in
      let size : e.length ≡ length (refusal_text n t (stop_place t)) = ap length_in (sym told) ∙ h.length_is ∙ rw no in
      omega (arith, size, words_fit n t (stop_place t))
