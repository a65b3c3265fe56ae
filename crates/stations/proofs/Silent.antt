-- The doubtful cycle again, with nothing to say of the frame just as the clock comes due (document 02, R-4): every value of it. docs/DEFINITIONS.md goes
-- through it; each fact here is computed from the definitions.
use Prim.Native.Nat.{ℕ}
use mathlib.Core.Path.{◌≡◌, refl}
use mathlib.Core.Bool.{false}
use mathlib.Core.Logic.{inl, inr}
use mathlib.Core.Option.{some}
use mathlib.Core.List.{List, [], ◌∷◌}
use Rattle.meaning.specs.declared.Transition.TheVariants.{Ends}
use Rattle.meaning.specs.declared.Outcome.TheVariants.{Violated, Open}
use Rattle.meaning.specs.Sizes.{unknown_value}
use Rattle.meaning.specs.declared.kinds.Kind.TheVariants.{Wait as WAIT}
use Rattle.meaning.specs.Table.{operand_of}
use Rattle.meaning.specs.Conditions.{Situation, outcome}
use Rattle.meaning.specs.Record.{last_time, estimate_in}
use Rattle.meaning.specs.Cycle.{breaks, checked_from, transition, settled_from, situation, offered_into, settled_into}
use Rattle.meaning.proofs.Computed.{settle as settle_call}
use Rattle.agreement.specs.Unfolding.{Rest, holding, broken, afresh, check, settle}
use Rattle.stations.specs.Moments.{Says, cycle}
use Rattle.stations.proofs.Doubtful.{table, tree, level, tilted, begun, at_wait}

-- As before, but in the cycle at 109 the settling's estimate has 255 for variable 1
abbrev pub silent : List ℕ
silent = 0 ∷ unknown_value ∷ []

abbrev pub before : List ℕ
before = cycle table (cycle table begun 100 level) 109 silent

-- the record after the offer at 110, and after the settling that follows it, which has the frame tilted
abbrev pub offered : List ℕ
offered = offered_into table before 110 2

abbrev pub after : List ℕ
after = settled_into table offered tilted

-- what the offer at 110 judges by, and what the settling does
abbrev pub offering : Situation
offering = record { estimate = silent; started = 1 ∷ []; starts = 100 ∷ []; time = 110 }

abbrev pub settling : Situation
settling = record { estimate = tilted; started = 1 ∷ []; starts = 100 ∷ []; time = 110 }

-- the inner SEQ at its third child
abbrev pub at_goal : Rest tree
at_goal = inl (holding (inr (inr tt)))

pub record Worked : Type 0 where
  pub before_says : Says table before (1 ∷ 1 ∷ 1 ∷ 0 ∷ 1 ∷ 0 ∷ 0 ∷ []) 0 109 silent (1 ∷ []) (100 ∷ [])
  -- the offer finds the MAINTAIN's condition open, and drops no mark
  pub offer_judges : situation table before (estimate_in table before) 110 ≡ offering
  pub condition_open : outcome offering (operand_of table 1) ≡ Open
  pub unbroken_1 : breaks table offering 1 1 ≡ false
  pub all_kept : checked_from table offering 0 (1 ∷ 1 ∷ 1 ∷ 0 ∷ 1 ∷ 0 ∷ 0 ∷ []) 0 ≡ 1 ∷ 1 ∷ 1 ∷ 0 ∷ 1 ∷ 0 ∷ 0 ∷ []
  pub offered_says : Says table offered (1 ∷ 1 ∷ 1 ∷ 0 ∷ 1 ∷ 0 ∷ 0 ∷ []) 1 110 silent (1 ∷ []) (100 ∷ [])
  -- the settling does not look at the MAINTAIN, which its estimate would violate; the WAIT is marked still, and its clock is due
  pub settling_judges : situation table offered tilted (last_time offered) ≡ settling
  pub would_break : outcome settling (operand_of table 1) ≡ Violated
  pub fate_4 : transition settling WAIT (operand_of table 4) false false ≡ Ends
  pub all_settled : settled_from table settling 0 (1 ∷ 1 ∷ 1 ∷ 0 ∷ 1 ∷ 0 ∷ 0 ∷ []) ≡ 1 ∷ 1 ∷ 1 ∷ 0 ∷ 0 ∷ 1 ∷ 0 ∷ []
  pub after_says : Says table after (1 ∷ 1 ∷ 1 ∷ 0 ∷ 0 ∷ 1 ∷ 0 ∷ []) 0 110 tilted (1 ∷ []) (100 ∷ [])
  -- by unfolding the tree; the next offer, which knows of the tilt, finds the MAINTAIN violated
  pub offer_keeps : check offering tree at_wait ≡ at_wait
  pub settling_goes_on : settle settling tree at_wait ≡ some at_goal
  pub next_breaks : check (record { estimate = tilted; started = 1 ∷ []; starts = 100 ∷ []; time = 111 }) tree at_goal ≡ inl broken

pub worked : Worked
unfolding settle_call afresh check settle
worked =
    record {
      before_says = refl;
      offer_judges = refl;
      condition_open = refl;
      unbroken_1 = refl;
      all_kept = refl;
      offered_says = refl;
      settling_judges = refl;
      would_break = refl;
      fate_4 = refl;
      all_settled = refl;
      after_says = refl;
      offer_keeps = refl;
      settling_goes_on = refl;
      next_breaks = refl;
    }
