-- Laws of the words: which a refusal gets, how those of several pieces are written, and that each line fits its buffer.
use Prim.Native.Nat.{ℕ, ◌<◌, ◌≤◌}
use native.Mathlib.Omega.{arith}
use mathlib.Core.Path.{◌≡◌, refl}
use mathlib.Core.List.{List}
use lib.Dec.{eqb, ltb}
use lib.ListN.{length}
use borrow.Author.Tests.{lt-ltb, le-ltb}
use Rattle.meaning.specs.declared.Refusal.{Refusal}
use Rattle.meaning.specs.declared.Refusal.TheVariants.{FileTooShort, SizeOutOfRange, WrongLength, UnknownKind, OperandNotAllowed, NotOneTree, TooDeep, BufferTooShort, NotATable, RecordNotAllowed, WrongPhase, TimeBeforeLast, EstimateNotAllowed, RunFinished, NothingAtWork, NotAText}
use Rattle.meaning.specs.Answers.{refusal_number, size_out_of_range, operand_not_allowed, too_deep, not_a_text}
use Rattle.text_grammar.specs.Texts.{max_text_length}
use Rattle.desk_format.specs.Decimal.{decimal}
use Rattle.desk_format.specs.Words.{word}
use Rattle.desk_format.proofs.Digits.{decimal_few}
use Rattle.desk_format.proofs.Texts.{Three, three_length}
use Rattle.desk_answers.specs.Answers.{refused_text}
use Rattle.desk_answers.proofs.Lengths.{either_fits, refused_short}
use Rattle.desk_texts.specs.Places.{line_of, column_of}
use Rattle.desk_texts.specs.Words.{column_text, outside_text, not_a_text_text, refusal_text, max_words}

-- The pieces of the lines that have several
pub column_pieces : (column : ℕ) → Three (column_text column) (word ", column ") (decimal column) (word " on\n")
unfolding column_text
column_pieces column = record { made = refl }

abbrev from_line : List ℕ
from_line = word "refused 16: the text does not fit the grammar from line "

outside_pieces : (t : List ℕ) (place : ℕ) → Three (outside_text t place) from_line (decimal (line_of t place)) (column_text (column_of t place))
unfolding outside_text
outside_pieces t place = record { made = refl }

column_fits : (column : ℕ) → length (column_text column) ≤ 33
column_fits column = omega (arith, three_length (column_pieces column), decimal_few column)

-- A text that is too long, and one that does not fit
pub too_long_lem : (t : List ℕ) (place : ℕ) → max_text_length < length t → not_a_text_text t place ≡ word "refused 16: the text has more than 16384 bytes\n"
unfolding not_a_text_text
too_long_lem t place h = rw (lt-ltb max_text_length (length t) h)

pub not_fitting : (t : List ℕ) (place : ℕ) → length t ≤ max_text_length → not_a_text_text t place ≡ outside_text t place
unfolding not_a_text_text
not_fitting t place h = rw (le-ltb max_text_length (length t) h)

-- Each line fits its buffer
outside_fits : (t : List ℕ) (place : ℕ) → length (outside_text t place) ≤ max_words
outside_fits t place = omega (arith, three_length (outside_pieces t place), decimal_few (line_of t place), column_fits (column_of t place))

not_a_text_fits : (t : List ℕ) (place : ℕ) → length (not_a_text_text t place) ≤ max_words
unfolding not_a_text_text
not_a_text_fits t place = either_fits (ltb max_text_length (length t)) _ _ max_words (omega arith) (outside_fits t place)

pub words_fit : (n : ℕ) (t : List ℕ) (place : ℕ) → length (refusal_text n t place) ≤ max_words
unfolding refusal_text
words_fit n t place =
    either_fits (eqb n size_out_of_range) _ _ max_words (omega arith)
    (either_fits (eqb n operand_not_allowed) _ _ max_words (omega arith)
    (either_fits (eqb n too_deep) _ _ max_words (omega arith)
    (either_fits (eqb n not_a_text) _ _ max_words (not_a_text_fits t place) (omega (arith, refused_short n)))))

-- The line of a refusal that has no words of its own
module _ (t : List ℕ) (place : ℕ) (why : Refusal) (size : why ≡ SizeOutOfRange → ⊥) (operand : why ≡ OperandNotAllowed → ⊥) (deep : why ≡ TooDeep → ⊥) (text : why ≡ NotAText → ⊥) where
  pub without_words : (r : Refusal) → why ≡ r → refusal_text (refusal_number r) t place ≡ refused_text (refusal_number r)
  unfolding refusal_text
  without_words FileTooShort is = refl
  without_words SizeOutOfRange is = absurd (size is)
  without_words WrongLength is = refl
  without_words UnknownKind is = refl
  without_words OperandNotAllowed is = absurd (operand is)
  without_words NotOneTree is = refl
  without_words TooDeep is = absurd (deep is)
  without_words BufferTooShort is = refl
  without_words NotATable is = refl
  without_words RecordNotAllowed is = refl
  without_words WrongPhase is = refl
  without_words TimeBeforeLast is = refl
  without_words EstimateNotAllowed is = refl
  without_words RunFinished is = refl
  without_words NothingAtWork is = refl
  without_words NotAText is = absurd (text is)
