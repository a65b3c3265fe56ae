-- What document 02, R-4, says of open conditions and unknown variables, by part number: in a settling and in an offer.
use Rattle.std.specs.Prelude.{ℕ, suc, ◌≡◌, ◌≢◌, List, get_or}
use Rattle.meaning.specs.declared.Outcome.TheVariants.{Open}
use Rattle.meaning.specs.Sizes.{unknown_value}
use Rattle.meaning.specs.declared.kinds.Kind.TheVariants.{Goal as GOAL, Wait as WAIT}
use Rattle.meaning.specs.Table.{kind_at, operand_of, end_at, Inside}
use Rattle.meaning.specs.Conditions.{Situation, outcome}
use Rattle.meaning.specs.Record.{last_time, estimate_in, marks_in}
use Rattle.meaning.specs.Cycle.{situation}
use Rattle.sentences.specs.Marks.{Marked, Deciding}
use Rattle.sentences.specs.Stepping.{BegunWith, Broken, child_taken}

-- the condition of part p is open
abbrev pub OpenAt : List ℕ → Situation → ℕ → Type 0
OpenAt t sit p = outcome sit (operand_of t p) ≡ Open

-- A settling: record r, and r' after it
pub record OpenSettled (t r est r' : List ℕ) : Type 0 where
  -- "An open WAIT stays"
  pub wait_stays : (p : ℕ) → Marked (marks_in t r) p → kind_at t p ≡ WAIT → OpenAt t (situation t r est (last_time r)) p → Marked (marks_in t r') p
  -- "an open CHOICE takes its second child", which stands where the first ends: it is the one taken, the CHOICE stays, and that child is initialised
  pub second_taken : (p : ℕ) → Deciding t (marks_in t r) p → OpenAt t (situation t r est (last_time r)) p → child_taken t (situation t r est (last_time r)) p ≡ end_at t (suc p)
  pub second_initialised : (p : ℕ) → Deciding t (marks_in t r) p → OpenAt t (situation t r est (last_time r)) p → Marked (marks_in t r') p × ((q : ℕ) → BegunWith t (end_at t (suc p)) q → Marked (marks_in t r') q)
  -- "a GOAL on an unknown variable is not reached": it stays
  pub goal_stays : (p : ℕ) → Marked (marks_in t r) p → kind_at t p ≡ GOAL → get_or est (operand_of t p).b1 0 ≡ unknown_value → Marked (marks_in t r') p

-- An offer: record r, and r' after it
pub record OpenOffered (t r : List ℕ) (time : ℕ) (r' : List ℕ) : Type 0 where
  -- "an open MAINTAIN goes on": it drops no mark, so that what is marked, inside it or elsewhere, stays marked unless another MAINTAIN around that drops it
  pub open_unbroken : (p : ℕ) → OpenAt t (situation t r (estimate_in t r) time) p → Broken t (situation t r (estimate_in t r) time) (marks_in t r) p → ⊥
  pub inside_stays : (p q : ℕ) → OpenAt t (situation t r (estimate_in t r) time) p → Marked (marks_in t r) q
      → ((u : ℕ) → u ≢ p → Inside t u q → Broken t (situation t r (estimate_in t r) time) (marks_in t r) u → ⊥) → Marked (marks_in t r') q
