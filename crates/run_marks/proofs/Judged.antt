-- What a part of a kind that is judged by the estimate or by a clock tells of its operand, and when a GOAL ends.
use Prim.Native.Nat.{ℕ, ◌<◌, ◌≤◌}
use native.Mathlib.Omega.{arith}
use mathlib.Core.Path.{◌≡◌, refl, sym, ◌∙◌, ap}
use mathlib.Core.Bool.{Bool, true}
use mathlib.Core.List.{List}
use lib.Dec.{eqb}
use lib.ListN.{length, get_or}
use Rattle.meaning.specs.declared.Entry.{Entry}
use Rattle.meaning.specs.declared.Transition.{Transition}
use Rattle.meaning.specs.declared.kinds.Kind.{Kind}
use Rattle.meaning.specs.declared.kinds.Kind.TheVariants.{Goal as GOAL, Wait as WAIT, Choice as CHOICE}
use Rattle.meaning.specs.Kinds.{kind_of, known, value, condition_allowed, operand_allowed}
use Rattle.meaning.specs.Program.{entry_allowed}
use Rattle.meaning.specs.Conditions.{Situation}
use Rattle.meaning.specs.Cycle.{ends_if, transition}
use Rattle.meaning.proofs.Entries.{goal_fits, goal_reached}
use Rattle.program_table.proofs.KindTests.{kind_byte}

module _ (v k : ℕ) (e : Entry) (allowed : entry_allowed v k e ≡ true) (f : Kind) (f-is : f ≡ kind_of e.kind) where
  -- the variable of a GOAL of the program stands in the estimate
  pub goal_inside : (est : List ℕ) → v ≤ length est → f ≡ GOAL → e.operand.b1 < length est
  unfolding known
  goal_inside est long goal = omega (arith, (goal_fits v k e allowed (kind_byte GOAL e.kind refl (sym f-is ∙ goal))).0)

  -- a GOAL ends where its variable has its value
  pub goal_judged : (sit : Situation) (before after b : Bool) (g : Transition) → f ≡ GOAL → b ≡ eqb (get_or sit.estimate e.operand.b1 0) (value e.operand) → g ≡ ends_if b → g ≡ transition sit (kind_of e.kind) e.operand before after
  unfolding transition known
  goal_judged sit before after b g goal b-is g-is =
      rw (sym f-is ∙ goal, g-is) (ap ends_if (b-is ∙ sym (goal_reached v k sit e allowed (kind_byte GOAL e.kind refl (sym f-is ∙ goal)))))

  -- the condition of a WAIT or a CHOICE is allowed
  pub wait_fits : f ≡ WAIT → condition_allowed v k e.operand ≡ true
  unfolding entry_allowed operand_allowed
  wait_fits wait = rw (sym f-is ∙ wait) at allowed

  pub choice_fits : f ≡ CHOICE → condition_allowed v k e.operand ≡ true
  unfolding entry_allowed operand_allowed
  choice_fits choice = rw (sym f-is ∙ choice) at allowed
