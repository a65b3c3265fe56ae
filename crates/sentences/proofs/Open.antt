-- What an open condition and an unknown variable come to in a settling and in an offer: it follows from the stepping.
use Prim.Native.Nat.{ℕ, suc}
use mathlib.Core.Path.{◌≡◌, refl, sym, ◌∙◌}
use mathlib.Core.Logic.{inl, inr}
use mathlib.Core.Bool.{Bool, true, false, false≢true}
use mathlib.Core.List.{List}
use lib.Dec.{eqb}
use borrow.Author.Tests.{eqb-true, eqb-false}
use Rattle.meaning.specs.declared.Operand.{Operand}
use Rattle.meaning.specs.declared.Outcome.TheVariants.{Open}
use Rattle.meaning.specs.Sizes.{unknown_value}
use Rattle.meaning.specs.Table.{operand_of, end_at}
use Rattle.meaning.specs.Conditions.{Situation, estimate_of, outcome, reached, satisfied, violated}
use Rattle.meaning.specs.Record.{last_time, estimate_in, marks_in}
use Rattle.meaning.specs.Cycle.{situation}
use Rattle.sentences.specs.Marks.{Deciding}
use Rattle.sentences.specs.Stepping.{OfferSteps, SettlingSteps, Broken, child_taken}
use Rattle.sentences.specs.Open.{OpenAt, OpenSettled, OpenOffered}

-- a condition that is open is neither satisfied nor violated, and a GOAL is not reached on an unknown variable
module _ (sit : Situation) (o : Operand) where
  not_satisfied : outcome sit o ≡ Open → satisfied sit o ≡ false
  unfolding satisfied
  not_satisfied h = rw h

  not_violated : outcome sit o ≡ Open → violated sit o ≡ false
  unfolding violated
  not_violated h = rw h

  not_reached : estimate_of sit o.b1 ≡ unknown_value → reached sit o ≡ false
  unfolding reached
  not_reached h = rw h

pub open_settled : (t r est r' : List ℕ) → SettlingSteps t r est r' → OpenSettled t r est r'
open_settled t r est r' s =
    record {
      wait_stays = λ p m k o. (s.marks_settled p).1 (inl (m, s.endings.wait_end p m k ∙ not_satisfied sit (operand_of t p) o));
      second_taken = taken;
      second_initialised =
          λ p d o.
          ((s.marks_settled p).1 (inl (d.0, s.endings.deciding_end p d)), λ q b. (s.marks_settled q).1 (inr (p, (end_at t (suc p), inr (d, taken p d o), b))));
      goal_stays = λ p m k u. (s.marks_settled p).1 (inl (m, s.endings.goal_end p m k ∙ not_reached sit (operand_of t p) u));
    }
  where
    sit : Situation
    sit = situation t r est (last_time r)

    taken : (p : ℕ) → Deciding t (marks_in t r) p → OpenAt t sit p → child_taken t sit p ≡ end_at t (suc p)
    taken p d o = rw (not_satisfied sit (operand_of t p) o)

pub open_offered : (t r : List ℕ) (time : ℕ) (goals : List ℕ) (name : ℕ) (r' goals' : List ℕ) → OfferSteps t r time goals name r' goals' → OpenOffered t r time r'
open_offered t r time goals name r' goals' s =
    record {
      open_unbroken = unbroken;
      inside_stays = λ p q o m others. (s.marks_checked q).1 (m, λ u i b. go p u o (eqb u p) refl b (λ ne. others u ne i b));
    }
  where
    sit : Situation
    sit = situation t r (estimate_in t r) time

    unbroken : (p : ℕ) → OpenAt t sit p → Broken t sit (marks_in t r) p → ⊥
    unbroken p o b = false≢true (sym (not_violated sit (operand_of t p) o) ∙ b.2)

    go : (p u : ℕ) → OpenAt t sit p → (z : Bool) → eqb u p ≡ z → Broken t sit (marks_in t r) u → ((u ≡ p → ⊥) → ⊥) → ⊥
    go p u o true e b other = unbroken p o (rw (eqb-true u p e) at b)
    go p u o false e b other = other (eqb-false u p e)
