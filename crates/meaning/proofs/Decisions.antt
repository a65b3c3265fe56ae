-- Which parts take a child at a settling: deciding CHOICEs alone.
use mathlib.Core.Path.{◌≡◌, refl}
use mathlib.Core.Bool.{Bool, true, false, not, false≢true}
use Rattle.meaning.specs.declared.Operand.{Operand}
use Rattle.meaning.specs.declared.Transition.{Transition}
use Rattle.meaning.specs.declared.Transition.TheVariants.{Stays, Ends, First, Second}
use Rattle.meaning.specs.declared.kinds.Kind.{Kind}
use Rattle.meaning.specs.declared.kinds.Kind.TheVariants.{Unknown as UNKNOWN, Goal as GOAL, Start as START, Wait as WAIT, Seq as SEQ, Par as PAR, Maintain as MAINTAIN, Choice as CHOICE, Repeat as REPEAT}
use Rattle.meaning.specs.Conditions.{Situation, reached, satisfied}
use Rattle.meaning.specs.Cycle.{ends_if, transition}

-- to decide is to take a child
abbrev pub decides : Transition → Bool
decides Stays = false
decides Ends = false
decides First = true
decides Second = true

undecided : (b : Bool) → decides (ends_if b) ≡ true → ⊥
undecided true e = false≢true e
undecided false e = false≢true e

-- a part that decides is a deciding CHOICE
pub decides_kind : (sit : Situation) (k : Kind) (o : Operand) (before after : Bool) → decides (transition sit k o before after) ≡ true → (k ≡ CHOICE) × (before ≡ false)
unfolding transition
decides_kind sit UNKNOWN o b a e = absurd (false≢true e)
decides_kind sit GOAL o b a e = absurd (undecided (reached sit o) e)
decides_kind sit START o b a e = absurd (false≢true e)
decides_kind sit WAIT o b a e = absurd (undecided (satisfied sit o) e)
decides_kind sit SEQ o b a e = absurd (undecided (not a) e)
decides_kind sit PAR o b a e = absurd (undecided (not a) e)
decides_kind sit MAINTAIN o b a e = absurd (undecided (not a) e)
decides_kind sit CHOICE o true a e = absurd (undecided (not a) e)
decides_kind sit CHOICE o false a e = (refl, refl)
decides_kind sit REPEAT o b a e = absurd (undecided (not a) e)
