-- What assembling a text at the desk comes to: its program file, or the words that say why it is refused.
use Rattle.std.specs.Prelude.{ℕ, ◌≡◌, cond, List, [], Result, Ok, Err, eqb, length}
use Rattle.std.proofs.lemmas.List.Edits.{sets}
use Rattle.meaning.specs.Answers.{refusal_number}
use Rattle.text_grammar.specs.Parser.{reading}
use Rattle.text_grammar.specs.Assembling.{assemble_refusal, file_in, assembled_into}
use Rattle.text_stops.specs.Places.{stop_place}
use Rattle.desk_texts.specs.Words.{refusal_text}
use Rattle.desk_assembly.specs.declared.Refused.{Refused}

-- by assembling's answer, 0 or the refusal's number: nothing, or why the text is refused, with the place where it stops fitting
unfoldable pub words_of : ℕ → List ℕ → List ℕ
words_of n t = cond (eqb n 0) [] (refusal_text n t (stop_place t))

-- What an answer says of the text, 0 or the refusal's number, and the length that it gives, of the program file or of the words
abbrev pub number_in : Result ℕ Refused → ℕ
number_in (Ok n) = 0
number_in (Err e) = refusal_number e.why

abbrev pub length_in : Result ℕ Refused → ℕ
length_in (Ok n) = n
length_in (Err e) = e.length

-- A text t that was assembled into the buffer `file`, with the buffer `words`
pub record Assembling (t file file' words words' : List ℕ) (a : Result ℕ Refused) : Type 0 where
  pub answer_is : number_in a ≡ assemble_refusal t (length file)
  pub file_is : file' ≡ assembled_into t file
  pub words_are : words' ≡ sets words 0 (words_of (assemble_refusal t (length file)) t)
  pub length_is : length_in a ≡ cond (eqb (assemble_refusal t (length file)) 0) (length (file_in (reading t))) (length (words_of (assemble_refusal t (length file)) t))
