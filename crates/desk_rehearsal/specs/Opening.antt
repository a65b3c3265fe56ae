-- A program file is compiled before the first line: its table follows, or the text that says why it is refused.
use Rattle.std.specs.Prelude.{ℕ, ◌≡◌, cond, List, [], Result, Ok, Err, eqb, length}
use Rattle.std.proofs.lemmas.List.Edits.{sets}
use Rattle.meaning.specs.declared.Form.TheVariants.{Table}
use Rattle.meaning.specs.Sizes.{length_of}
use Rattle.meaning.specs.Program.{parts}
use Rattle.meaning.specs.Table.{compile_refusal, compiled_into}
use Rattle.desk_answers.specs.Answers.{refused_text}

-- by compiling's answer, 0 or the refusal's number
unfoldable pub opened_text : ℕ → List ℕ
opened_text n = cond (eqb n 0) [] (refused_text n)

-- A file f that was compiled into the buffer `table`, with the buffer `out` for text: the answer is the table's length, or the text's
pub record Opening (f table table' out out' : List ℕ) (o : Result ℕ ℕ) : Type 0 where
  pub answer_is : o ≡ cond (eqb (compile_refusal f (length table)) 0) (Ok (length_of Table (parts f))) (Err (length (opened_text (compile_refusal f (length table)))))
  pub table_is : table' ≡ compiled_into f table
  pub text_is : out' ≡ sets out 0 (opened_text (compile_refusal f (length table)))
