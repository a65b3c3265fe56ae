-- A part's kind, asked for in place of its kind byte: a known kind has one byte.
use Prim.Native.Nat.{ℕ}
use mathlib.Core.Path.{◌≡◌, refl, sym, ap, ◌∙◌}
use mathlib.Core.Bool.{true, false}
use lib.Dec.{eqb}
use borrow.Author.Tests.{eq-eqb, ne_eqb}
use Rattle.meaning.specs.declared.kinds.Kind.{Kind}
use Rattle.meaning.specs.declared.kinds.Kind.TheVariants.{Unknown as UNKNOWN, Goal as GOAL, Start as START, Wait as WAIT, Seq as SEQ, Par as PAR, Maintain as MAINTAIN, Choice as CHOICE, Repeat as REPEAT}
use Rattle.meaning.specs.Kinds.{kind_of, number_of, known}
use Rattle.meaning.proofs.Parsing.{number_known}

of_number : (k : Kind) → kind_of (number_of k) ≡ k
unfolding kind_of number_of
of_number UNKNOWN = refl
of_number GOAL = refl
of_number START = refl
of_number WAIT = refl
of_number SEQ = refl
of_number PAR = refl
of_number MAINTAIN = refl
of_number CHOICE = refl
of_number REPEAT = refl

module _ (k : Kind) (b : ℕ) where
  pub kind_byte : known k ≡ true → kind_of b ≡ k → eqb b (number_of k) ≡ true
  kind_byte h e = eq-eqb b (number_of k) (sym (number_known b (rw e h)) ∙ ap number_of e)

  pub kind_byte_not : (kind_of b ≡ k → ⊥) → eqb b (number_of k) ≡ false
  kind_byte_not n = ne_eqb b (number_of k) (λ e. n (ap kind_of e ∙ of_number k))
