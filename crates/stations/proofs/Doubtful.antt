-- One doubtful cycle, every value of it: a MAINTAIN's condition breaks just as a clock comes due, three parts deep. docs/DEFINITIONS.md goes
-- through it; each fact here is computed from the definitions.
use Prim.Native.Nat.{ℕ}
use mathlib.Core.Path.{◌≡◌, refl}
use mathlib.Core.Bool.{true, false}
use mathlib.Core.Logic.{inl, inr}
use mathlib.Core.Option.{some}
use mathlib.Core.List.{List, [], ◌∷◌}
use lib.ListN.{replicate}
use Rattle.meaning.specs.declared.Form.TheVariants.{File}
use Rattle.meaning.specs.declared.Transition.TheVariants.{Stays, Ends}
use Rattle.meaning.specs.declared.Outcome.TheVariants.{Satisfied, Violated}
use Rattle.meaning.specs.declared.kinds.Kind.TheVariants.{Seq as SEQ, Maintain as MAINTAIN}
use Rattle.meaning.specs.Kinds.{kind_of, number_of, test_of}
use Rattle.meaning.specs.Tree.{Part, goal, start, wait, seq, maintain, one, more}
use Rattle.meaning.specs.Program.{tree_of}
use Rattle.meaning.specs.Table.{operand_of, next_at, compiled}
use Rattle.meaning.specs.Conditions.{Situation, outcome, violated}
use Rattle.meaning.specs.Record.{record_length, last_time, estimate_in}
use Rattle.meaning.specs.Cycle.{begins_in, initial_marks_from, initial_marks, breaks, checked_from, leaves_from, values_for, goal_bytes, transition, applied, settled_from, situation, begun_into, offered_into, settled_into}
use Rattle.meaning.proofs.Computed.{compile, settle as settle_call}
use Rattle.agreement.specs.Unfolding.{Rest, broken, holding, afresh, check, working, settle}
use Rattle.stations.specs.Moments.{Says, cycle, operand}

-- SEQ(MAINTAIN(variable 1 equals 0, SEQ(START 0, WAIT clock 0 at least 10, GOAL 0=2)), GOAL 0=1)
abbrev pub file : List ℕ
file =
    7 ∷ 2 ∷ 1
    ∷ 4 ∷ 6 ∷ 4 ∷ 2 ∷ 3 ∷ 1 ∷ 1
    ∷ 2 ∷ 0 ∷ 0 ∷ 0
    ∷ 1 ∷ 1 ∷ 0 ∷ 0
    ∷ 3 ∷ 0 ∷ 0 ∷ 0
    ∷ 0 ∷ 0 ∷ 0 ∷ 0
    ∷ 3 ∷ 0 ∷ 10 ∷ 0
    ∷ 0 ∷ 0 ∷ 2 ∷ 0
    ∷ 0 ∷ 0 ∷ 1 ∷ 0
    ∷ []

-- its table: kind, end, parent, next and operand of each part
abbrev pub table : List ℕ
table =
    7 ∷ 2 ∷ 1
    ∷ 4 ∷ 7 ∷ 255 ∷ 255 ∷ 2 ∷ 0 ∷ 0 ∷ 0
    ∷ 6 ∷ 6 ∷ 0 ∷ 6 ∷ 1 ∷ 1 ∷ 0 ∷ 0
    ∷ 4 ∷ 6 ∷ 1 ∷ 255 ∷ 3 ∷ 0 ∷ 0 ∷ 0
    ∷ 2 ∷ 4 ∷ 2 ∷ 4 ∷ 0 ∷ 0 ∷ 0 ∷ 0
    ∷ 3 ∷ 5 ∷ 2 ∷ 5 ∷ 3 ∷ 0 ∷ 10 ∷ 0
    ∷ 1 ∷ 6 ∷ 2 ∷ 255 ∷ 0 ∷ 0 ∷ 2 ∷ 0
    ∷ 1 ∷ 7 ∷ 0 ∷ 255 ∷ 0 ∷ 0 ∷ 1 ∷ 0
    ∷ []

pub table_is : compiled File file ≡ table
unfolding compile
table_is = refl

-- The record after a beginning, and after cycles at 100 and 109; in the second the frame tilts: the settling's estimate has 1 for variable 1
abbrev pub level : List ℕ
level = 0 ∷ 0 ∷ []

abbrev pub tilted : List ℕ
tilted = 0 ∷ 1 ∷ []

abbrev pub begun : List ℕ
begun = begun_into table level (replicate record_length 0)

abbrev pub before : List ℕ
before = cycle table (cycle table begun 100 level) 109 tilted

-- the record after the offer at 110, and after the settling that follows it
abbrev pub offered : List ℕ
offered = offered_into table before 110 2

abbrev pub after : List ℕ
after = settled_into table offered level

-- The offer at 110. By the stored estimate and this time the clock comes due and the MAINTAIN is violated
abbrev pub offering : Situation
offering = record { estimate = tilted; started = 1 ∷ []; starts = 100 ∷ []; time = 110 }

pub clock_due : outcome offering (operand_of table 4) ≡ Satisfied
unfolding test_of outcome
clock_due = refl

pub condition_breaks : outcome offering (operand_of table 1) ≡ Violated
unfolding test_of outcome
condition_breaks = refl

pub breaks_1 : breaks table offering 1 1 ≡ true
unfolding number_of test_of outcome violated
breaks_1 = refl

pub checked : checked_from table offering 0 (1 ∷ 1 ∷ 1 ∷ 0 ∷ 1 ∷ 0 ∷ 0 ∷ []) 0 ≡ 1 ∷ 1 ∷ 0 ∷ 0 ∷ 0 ∷ 0 ∷ 0 ∷ []
unfolding number_of test_of outcome violated checked_from
checked = refl

pub nothing_offered : leaves_from table 0 (1 ∷ 1 ∷ 0 ∷ 0 ∷ 0 ∷ 0 ∷ 0 ∷ []) ≡ []
unfolding number_of leaves_from
nothing_offered = refl

pub goals : goal_bytes 2 [] ≡ 255 ∷ 255 ∷ []
unfolding values_for goal_bytes
goals = refl

-- The settling, whose estimate has the frame level again. The passes go from the last part down: the marks from part p on, for p = 6 to 0
abbrev pub settling : Situation
settling = record { estimate = level; started = 1 ∷ []; starts = 100 ∷ []; time = 110 }

pub from_6 : settled_from table settling 6 (0 ∷ []) ≡ 0 ∷ []
unfolding settled_from
from_6 = refl

pub from_2 : settled_from table settling 2 (0 ∷ 0 ∷ 0 ∷ 0 ∷ 0 ∷ []) ≡ 0 ∷ 0 ∷ 0 ∷ 0 ∷ 0 ∷ []
unfolding settled_from
from_2 = refl

pub fate_1 : transition settling MAINTAIN (operand_of table 1) false false ≡ Ends
unfolding transition
fate_1 = refl

pub next_1 : next_at table 1 ≡ 6
next_1 = refl

pub from_1 : settled_from table settling 1 (1 ∷ 0 ∷ 0 ∷ 0 ∷ 0 ∷ 0 ∷ []) ≡ 0 ∷ 0 ∷ 0 ∷ 0 ∷ 0 ∷ 1 ∷ []
unfolding kind_of number_of begins_in initial_marks_from initial_marks transition applied settled_from
from_1 = refl

pub fate_0 : transition settling SEQ (operand_of table 0) true true ≡ Stays
unfolding transition
fate_0 = refl

pub from_0 : settled_from table settling 0 (1 ∷ 1 ∷ 0 ∷ 0 ∷ 0 ∷ 0 ∷ 0 ∷ []) ≡ 1 ∷ 0 ∷ 0 ∷ 0 ∷ 0 ∷ 0 ∷ 1 ∷ []
unfolding kind_of number_of begins_in initial_marks_from initial_marks transition applied settled_from
from_0 = refl

-- the run up to the doubtful cycle and over it
pub record Worked : Type 0 where
  pub begun_says : Says table begun (1 ∷ 1 ∷ 1 ∷ 1 ∷ 0 ∷ 0 ∷ 0 ∷ []) 0 0 level (0 ∷ []) (0 ∷ [])
  pub before_says : Says table before (1 ∷ 1 ∷ 1 ∷ 0 ∷ 1 ∷ 0 ∷ 0 ∷ []) 0 109 tilted (1 ∷ []) (100 ∷ [])
  pub offer_judges : situation table before (estimate_in table before) 110 ≡ offering
  pub offered_says : Says table offered (1 ∷ 1 ∷ 0 ∷ 0 ∷ 0 ∷ 0 ∷ 0 ∷ []) 1 110 tilted (1 ∷ []) (100 ∷ [])
  pub settling_judges : situation table offered level (last_time offered) ≡ settling
  pub after_says : Says table after (1 ∷ 0 ∷ 0 ∷ 0 ∷ 0 ∷ 0 ∷ 1 ∷ []) 0 110 level (1 ∷ []) (100 ∷ [])

pub worked : Worked
unfolding settle_call
worked =
    record {
      begun_says = refl;
      before_says = refl;
      offer_judges = refl;
      offered_says = refl;
      settling_judges = refl;
      after_says = refl;
    }

-- The same cycle by unfolding the tree
abbrev pub tree : Part
tree =
    seq
    (more
    (maintain (operand 1 1 0) (seq (more (start (operand 0 0 0)) (more (wait (operand 3 0 10)) (one (goal (operand 0 0 2)))))))
    (one (goal (operand 0 0 1))))

pub tree_is : tree_of File file ≡ some tree
unfolding compile
tree_is = refl

-- the SEQ is at its first child, a MAINTAIN that holds, whose SEQ is at its second
abbrev pub at_wait : Rest tree
at_wait = inl (holding (inr (inl tt)))

pub offer_breaks : check offering tree at_wait ≡ inl broken
unfolding test_of outcome violated check
offer_breaks = refl

pub nothing_works : working tree (inl broken) ≡ []
unfolding working
nothing_works = refl

pub settling_ends : settle settling tree (inl broken) ≡ some (inr tt)
unfolding afresh settle
settling_ends = refl
