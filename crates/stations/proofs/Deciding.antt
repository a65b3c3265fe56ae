-- A run of three cycles in which a CHOICE decides over an unstarted clock, its branch ends, and a REPEAT begins again. docs/DEFINITIONS.md goes
-- through it; each fact here is computed from the definitions.
use Prim.Native.Nat.{ℕ}
use mathlib.Core.Path.{◌≡◌, refl}
use mathlib.Core.Bool.{true, false}
use mathlib.Core.Logic.{inl, inr}
use mathlib.Core.Option.{some}
use mathlib.Core.List.{List, [], ◌∷◌}
use lib.ListN.{replicate}
use Rattle.meaning.specs.declared.Form.TheVariants.{File}
use Rattle.meaning.specs.declared.Transition.TheVariants.{Stays, Ends, Second}
use Rattle.meaning.specs.declared.Outcome.TheVariants.{Satisfied, Open}
use Rattle.meaning.specs.declared.kinds.Kind.TheVariants.{Goal as GOAL, Seq as SEQ, Choice as CHOICE, Repeat as REPEAT}
use Rattle.meaning.specs.Kinds.{kind_of, number_of, test_of}
use Rattle.meaning.specs.Tree.{Part, goal, start, wait, seq, par, choice, repeat, one, more}
use Rattle.meaning.specs.Program.{tree_of}
use Rattle.meaning.specs.Table.{operand_of, next_at, compiled}
use Rattle.meaning.specs.Conditions.{Situation, outcome, reached, satisfied}
use Rattle.meaning.specs.Record.{record_length}
use Rattle.meaning.specs.Cycle.{begins_in, initial_marks_from, initial_marks, transition, applied, settled_from, situation, offered_goals, begun_into, offered_into}
use Rattle.meaning.proofs.Computed.{compile, settle as settle_call}
use Rattle.agreement.specs.Unfolding.{that, both, undecided, second, afresh, settle}
use Rattle.stations.specs.Moments.{Says, cycle, operand}

-- PAR(WAIT clock 0 at least 0, REPEAT(SEQ(START 0, CHOICE(clock 1 below 5; GOAL 0=1; GOAL 0=2)))); nothing starts clock 1
abbrev pub file : List ℕ
file =
    8 ∷ 1 ∷ 2
    ∷ 5 ∷ 3 ∷ 8 ∷ 4 ∷ 2 ∷ 7 ∷ 1 ∷ 1
    ∷ 2 ∷ 0 ∷ 0 ∷ 0
    ∷ 3 ∷ 0 ∷ 0 ∷ 0
    ∷ 0 ∷ 0 ∷ 0 ∷ 0
    ∷ 2 ∷ 0 ∷ 0 ∷ 0
    ∷ 0 ∷ 0 ∷ 0 ∷ 0
    ∷ 4 ∷ 1 ∷ 5 ∷ 0
    ∷ 0 ∷ 0 ∷ 1 ∷ 0
    ∷ 0 ∷ 0 ∷ 2 ∷ 0
    ∷ []

-- its table: kind, end, parent, next and operand of each part
abbrev pub table : List ℕ
table =
    8 ∷ 1 ∷ 2
    ∷ 5 ∷ 8 ∷ 255 ∷ 255 ∷ 2 ∷ 0 ∷ 0 ∷ 0
    ∷ 3 ∷ 2 ∷ 0 ∷ 255 ∷ 3 ∷ 0 ∷ 0 ∷ 0
    ∷ 8 ∷ 8 ∷ 0 ∷ 255 ∷ 0 ∷ 0 ∷ 0 ∷ 0
    ∷ 4 ∷ 8 ∷ 2 ∷ 3 ∷ 2 ∷ 0 ∷ 0 ∷ 0
    ∷ 2 ∷ 5 ∷ 3 ∷ 5 ∷ 0 ∷ 0 ∷ 0 ∷ 0
    ∷ 7 ∷ 8 ∷ 3 ∷ 255 ∷ 4 ∷ 1 ∷ 5 ∷ 0
    ∷ 1 ∷ 7 ∷ 5 ∷ 255 ∷ 0 ∷ 0 ∷ 1 ∷ 0
    ∷ 1 ∷ 8 ∷ 5 ∷ 255 ∷ 0 ∷ 0 ∷ 2 ∷ 0
    ∷ []

pub table_is : compiled File file ≡ table
unfolding compile
table_is = refl

-- The record after a beginning, after a cycle at 100, one at 101 and one at 102; the estimate has 2 for variable 0 in the last settling
abbrev pub begun : List ℕ
begun = begun_into table (0 ∷ []) (replicate record_length 0)

abbrev pub started : List ℕ
started = cycle table begun 100 (0 ∷ [])

abbrev pub decided : List ℕ
decided = cycle table started 101 (0 ∷ [])

abbrev pub again : List ℕ
again = cycle table decided 102 (2 ∷ [])

-- What each settling judges by: in the first no clock is started, in the others clock 0 is
abbrev pub starting : Situation
starting = record { estimate = 0 ∷ []; started = 0 ∷ 0 ∷ []; starts = 0 ∷ 0 ∷ []; time = 100 }

abbrev pub deciding : Situation
deciding = record { estimate = 0 ∷ []; started = 1 ∷ 0 ∷ []; starts = 100 ∷ 0 ∷ []; time = 101 }

abbrev pub ending : Situation
ending = record { estimate = 2 ∷ []; started = 1 ∷ 0 ∷ []; starts = 100 ∷ 0 ∷ []; time = 102 }

pub record Worked : Type 0 where
  pub begun_says : Says table begun (1 ∷ 1 ∷ 1 ∷ 1 ∷ 1 ∷ 0 ∷ 0 ∷ 0 ∷ []) 0 0 (0 ∷ []) (0 ∷ 0 ∷ []) (0 ∷ 0 ∷ [])
  pub first_judges : situation table (offered_into table begun 100 1) (0 ∷ []) 100 ≡ starting
  pub started_says : Says table started (1 ∷ 1 ∷ 1 ∷ 1 ∷ 0 ∷ 1 ∷ 0 ∷ 0 ∷ []) 0 100 (0 ∷ []) (1 ∷ 0 ∷ []) (100 ∷ 0 ∷ [])
  pub second_judges : situation table (offered_into table started 101 1) (0 ∷ []) 101 ≡ deciding
  pub decided_says : Says table decided (1 ∷ 0 ∷ 1 ∷ 1 ∷ 0 ∷ 1 ∷ 0 ∷ 1 ∷ []) 0 101 (0 ∷ []) (1 ∷ 0 ∷ []) (100 ∷ 0 ∷ [])
  pub third_goals : offered_goals table decided 102 ≡ 2 ∷ []
  pub third_judges : situation table (offered_into table decided 102 1) (2 ∷ []) 102 ≡ ending
  pub again_says : Says table again (1 ∷ 0 ∷ 1 ∷ 1 ∷ 1 ∷ 0 ∷ 0 ∷ 0 ∷ []) 0 102 (2 ∷ []) (1 ∷ 0 ∷ []) (100 ∷ 0 ∷ [])

pub worked : Worked
unfolding settle_call
worked =
    record {
      begun_says = refl;
      first_judges = refl;
      started_says = refl;
      second_judges = refl;
      decided_says = refl;
      third_goals = refl;
      third_judges = refl;
      again_says = refl;
    }

-- The first settling: clock 0 starts after judging, so the WAIT over it is open; a reading of 0 would satisfy it
pub wait_open : outcome starting (operand_of table 1) ≡ Open
unfolding test_of outcome
wait_open = refl

-- The second: the WAIT is due, and the CHOICE over the unstarted clock 1 takes its second child; a reading of 0 would take the first
pub wait_due : outcome deciding (operand_of table 1) ≡ Satisfied
unfolding test_of outcome
wait_due = refl

pub choice_open : outcome deciding (operand_of table 5) ≡ Open
unfolding test_of outcome
choice_open = refl

pub takes_second : transition deciding CHOICE (operand_of table 5) false false ≡ Second
unfolding test_of outcome satisfied transition
takes_second = refl

-- The third, from the last part down: the branch ends, and with it the CHOICE and the SEQ, which is its own next and begins again
pub branch_ends : transition ending GOAL (operand_of table 7) false false ≡ Ends
unfolding reached transition
branch_ends = refl

pub from_7 : settled_from table ending 7 (1 ∷ []) ≡ 0 ∷ []
unfolding kind_of reached transition applied settled_from
from_7 = refl

pub choice_ends : transition ending CHOICE (operand_of table 5) true false ≡ Ends
unfolding transition
choice_ends = refl

pub from_5 : settled_from table ending 5 (1 ∷ 0 ∷ 1 ∷ []) ≡ 0 ∷ 0 ∷ 0 ∷ []
unfolding kind_of reached transition applied settled_from
from_5 = refl

pub seq_ends : transition ending SEQ (operand_of table 3) true false ≡ Ends
unfolding transition
seq_ends = refl

pub own_next : next_at table 3 ≡ 3
own_next = refl

pub from_3 : settled_from table ending 3 (1 ∷ 0 ∷ 1 ∷ 0 ∷ 1 ∷ []) ≡ 1 ∷ 1 ∷ 0 ∷ 0 ∷ 0 ∷ []
unfolding kind_of number_of begins_in initial_marks_from initial_marks reached transition applied settled_from
from_3 = refl

pub repeat_stays : transition ending REPEAT (operand_of table 2) true true ≡ Stays
unfolding transition
repeat_stays = refl

-- The same cycles by unfolding the tree
abbrev pub tree : Part
tree =
    par
    (more
    (wait (operand 3 0 0))
    (one (repeat (seq (more (start (operand 0 0 0)) (one (choice (operand 4 1 5) (goal (operand 0 0 1)) (goal (operand 0 0 2)))))))))

pub tree_is : tree_of File file ≡ some tree
unfolding compile
tree_is = refl

pub record Unfolded : Type 0 where
  pub afresh_is : afresh tree ≡ both tt (inl tt)
  pub first_settling : settle starting tree (both tt (inl tt)) ≡ some (both tt (inr undecided))
  pub second_settling : settle deciding tree (both tt (inr undecided)) ≡ some (that (inr (second tt)))
  pub third_settling : settle ending tree (that (inr (second tt))) ≡ some (that (inl tt))

pub unfolded : Unfolded
unfolding test_of outcome satisfied reached afresh settle
unfolded = record { afresh_is = refl; first_settling = refl; second_settling = refl; third_settling = refl }
