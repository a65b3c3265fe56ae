-- What assembling a text answers and writes: its refusals, and the program file that comes out.
use Rattle.std.specs.Prelude.{ℕ, ◌≡◌, Bool, cond, List, [], ◌∷◌, ◌++◌, eqb, leb, length}
use Rattle.std.proofs.Math.Option.{Option, none, some}
use Rattle.std.proofs.lemmas.List.Edits.{sets}
use Rattle.base.specs.Lists.{all, first_failing}
use Rattle.meaning.specs.Sizes.{max_depth}
use Rattle.meaning.specs.Tree.{size, depth}
use Rattle.meaning.specs.Program.{sizes_in_range, entry_allowed, preorder}
use Rattle.meaning.specs.Answers.{size_out_of_range, operand_not_allowed, too_deep, buffer_too_short, not_a_text}
use Rattle.text_grammar.specs.Syntax.{Text}
use Rattle.text_grammar.specs.Trees.{body_tree, text_file}
use Rattle.text_grammar.specs.Parser.{reading}

-- "then 2, 5, 7 and 8 as for files": the tests that the program of a text must pass, over the numbers as they are typed. proofs/Accepted.antt says
-- that these are the refusals of its file
abbrev pub text_tests : Text → List (ℕ × Bool)
text_tests x =
    (size_out_of_range, sizes_in_range (size (body_tree x.body)) x.variables x.clocks)
    ∷ (operand_not_allowed, all (entry_allowed x.variables x.clocks) (preorder (body_tree x.body)))
    ∷ (too_deep, leb (depth (body_tree x.body)) max_depth)
    ∷ []

abbrev pub assemble_tests : Text → ℕ → List (ℕ × Bool)
assemble_tests x room = text_tests x ++ ((buffer_too_short, leb (length (text_file x)) room) ∷ [])

-- "16 for a text outside the grammar or too long, given first"
unfoldable pub refusal_of : Option Text → ℕ → ℕ
refusal_of none room = not_a_text
refusal_of (some x) room = first_failing (assemble_tests x room)

unfoldable pub assemble_refusal : List ℕ → ℕ → ℕ
assemble_refusal t room = refusal_of (reading t) room

-- "The program file comes out"; a refused call changes nothing
unfoldable pub file_in : Option Text → List ℕ
file_in none = []
file_in (some x) = text_file x

unfoldable pub assembled_into : List ℕ → List ℕ → List ℕ
assembled_into t out = cond (eqb (assemble_refusal t (length out)) 0) (sets out 0 (file_in (reading t))) out

-- Assembling, of a text and an output buffer, that answers a number and leaves a buffer
pub record Assembled (t out : List ℕ) (answer : ℕ) (out' : List ℕ) : Type 0 where
  pub answer_is : answer ≡ assemble_refusal t (length out)
  pub buffer_is : out' ≡ assembled_into t out
