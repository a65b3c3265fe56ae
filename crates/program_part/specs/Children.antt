-- How many children follow a part, where its operand is allowed.
use Rattle.std.specs.Prelude.{ℕ, Bool, cond, Option, None, Some}
use Rattle.meaning.specs.declared.Entry.{Entry}
use Rattle.meaning.specs.declared.kinds.Kind.{Kind}
use Rattle.meaning.specs.declared.kinds.Kind.TheVariants.{Unknown as UNKNOWN, Goal as GOAL, Start as START, Wait as WAIT, Seq as SEQ, Par as PAR, Maintain as MAINTAIN, Choice as CHOICE, Repeat as REPEAT}
use Rattle.meaning.specs.Program.{entry_allowed, arity_of}

abbrev pub count_if : Bool → ℕ → Option ℕ
count_if allowed n = cond allowed (Some n) None

unfoldable pub children_of : ℕ → ℕ → Entry → Option ℕ
children_of v k e = count_if (entry_allowed v k e) (arity_of e)

-- of a part of a kind with a condition
abbrev pub of_condition : Kind → Bool → Option ℕ
of_condition UNKNOWN allowed = None
of_condition GOAL allowed = None
of_condition START allowed = None
of_condition WAIT allowed = count_if allowed 0
of_condition SEQ allowed = None
of_condition PAR allowed = None
of_condition MAINTAIN allowed = count_if allowed 1
of_condition CHOICE allowed = count_if allowed 2
of_condition REPEAT allowed = None
