-- Lines, columns and words, and the two forms, computed by the definitions.
use mathlib.Core.Path.{◌≡◌, refl}
use mathlib.Core.Bool.{true, false}
use mathlib.Core.List.{List, [], ◌∷◌}
use Prim.Native.Nat.{ℕ}
use Rattle.meaning.specs.Answers.{not_a_text}
use Rattle.desk_parse.specs.Words.{leading}
use Rattle.desk_format.specs.Decimal.{digits, decimal}
use Rattle.desk_format.specs.Words.{word}
use Rattle.desk_texts.specs.Forms.{is_text}
use Rattle.desk_texts.specs.Places.{line_ends, line_of, column_of}
use Rattle.desk_texts.specs.Words.{column_text, outside_text, not_a_text_text, refusal_text}

-- a wrong word in the third line, and a step that is missing at the end of the second
wrong : List ℕ
wrong = word "4 1:\n  v0=1 ;\n  stat c0\n"

at_the_word : refusal_text not_a_text wrong 16 ≡ word "refused 16: the text does not fit the grammar from line 3, column 3 on\n"
unfolding wrong refusal_text not_a_text_text outside_text column_text line_of line_ends column_of leading digits decimal
at_the_word = refl

at_the_end : refusal_text not_a_text (word "4 1:\n  v0=1 ;") 13 ≡ word "refused 16: the text does not fit the grammar from line 2, column 9 on\n"
unfolding refusal_text not_a_text_text outside_text column_text line_of line_ends column_of leading digits decimal
at_the_end = refl

-- a line end stands in the line that it ends
line_end_itself : (line_of (word "1\n1") 1 ≡ 1) × (column_of (word "1\n1") 1 ≡ 2) × (line_of (word "1\n1") 2 ≡ 2) × (column_of (word "1\n1") 2 ≡ 1)
unfolding line_of line_ends column_of leading
line_end_itself = (refl, refl, refl, refl)

-- a text may begin with line ends; a program file has a kind in its fourth byte; an input of no bytes is a program file
forms : (is_text (word "\n\n\n4 1:") ≡ true) × (is_text (word "4") ≡ true) × (is_text (200 ∷ 32 ∷ 16 ∷ 8 ∷ 49 ∷ []) ≡ false) × (is_text [] ≡ false)
unfolding is_text
forms = (refl, refl, refl, refl)
