-- What a refusal of a text says in words: one line.
use Rattle.std.specs.Prelude.{ℕ, cond, List, ◌++◌, eqb, ltb, length}
use Rattle.meaning.specs.Answers.{size_out_of_range, operand_not_allowed, too_deep, not_a_text}
use Rattle.text_grammar.specs.Texts.{max_text_length}
use Rattle.desk_format.specs.Decimal.{decimal}
use Rattle.desk_format.specs.Words.{word}
use Rattle.desk_answers.specs.Answers.{refused_text}
use Rattle.desk_texts.specs.Places.{line_of, column_of}

-- "from line L, column C on"
unfoldable pub column_text : ℕ → List ℕ
column_text column = word ", column " ++ (decimal column ++ word " on\n")

unfoldable pub outside_text : List ℕ → ℕ → List ℕ
outside_text t place = word "refused 16: the text does not fit the grammar from line " ++ (decimal (line_of t place) ++ column_text (column_of t place))

unfoldable pub not_a_text_text : List ℕ → ℕ → List ℕ
not_a_text_text t place = cond (ltb max_text_length (length t)) (word "refused 16: the text has more than 16384 bytes\n") (outside_text t place)

-- A refused text gets these words by the refusal's number. Any other number is without words: only a program file, or a buffer that is too short, gets it
unfoldable pub refusal_text : ℕ → List ℕ → ℕ → List ℕ
refusal_text n t place =
    cond (eqb n size_out_of_range) (word "refused 2: a size is out of range (1 to 200 parts, 1 to 32 variables, 0 to 16 clocks)\n")
    (cond (eqb n operand_not_allowed) (word "refused 5: a variable, clock or value is not allowed (variables below V, clocks below K, values of variables up to 250)\n")
    (cond (eqb n too_deep) (word "refused 7: a part stands more than 16 deep\n")
    (cond (eqb n not_a_text) (not_a_text_text t place) (refused_text n))))

-- room for the longest
abbrev pub max_words : ℕ
max_words = 128
