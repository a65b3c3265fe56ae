-- A beginning, an offer and a settling as the papers say them: by part number, variable and clock, with no pass over the parts.
use Rattle.std.specs.Prelude.{ℕ, suc, ◌≤◌, ◌<◌, ◌≡◌, Bool, true, false, cond, ◌↔◌, ◌≢◌, ◌⊎◌, List, length, get_or}
use Rattle.meaning.specs.declared.Form.TheVariants.{Table}
use Rattle.meaning.specs.Sizes.{max_value, no_part}
use Rattle.meaning.specs.declared.kinds.Kind.TheVariants.{Goal as GOAL, Start as START, Wait as WAIT, Seq as SEQ, Par as PAR, Maintain as MAINTAIN, Repeat as REPEAT}
use Rattle.meaning.specs.Program.{variables, clocks, entry_at}
use Rattle.meaning.specs.Table.{kind_at, operand_of, end_at, next_at, Inside}
use Rattle.meaning.specs.Conditions.{Situation, reached, satisfied, violated}
use Rattle.meaning.specs.Record.{record_length, phase_of, last_time, estimate_in, started_in, starts_in, marks_in, started_flag, waiting, offered, finished}
use Rattle.meaning.specs.Cycle.{is_leaf, no_goal, contested, situation}
use Rattle.sentences.specs.Marks.{Marked, Flags, Deciding, NoGoalAt, GoalsAgree, GoalsDiffer, NamesLowest, StartAt}
use Rattle.sentences.specs.Fields.{Spare}
use Rattle.sentences.specs.Allowed.{Child}

-- "To initialise is to mark the part and initialise SEQ's first child, all of PAR's, MAINTAIN's and REPEAT's child, and none of CHOICE's":
-- the parts that are marked where part q is initialised
pub data BegunWith (t : List ℕ) (q : ℕ) : ℕ → Type 0 where
  itself : BegunWith t q q
  seq_first : (u : ℕ) → BegunWith t q u → kind_at t u ≡ SEQ → Child t u (suc u) → BegunWith t q (suc u)
  par_all : (u p : ℕ) → BegunWith t q u → kind_at t u ≡ PAR → Child t u p → BegunWith t q p
  maintain_child : (u p : ℕ) → BegunWith t q u → kind_at t u ≡ MAINTAIN → Child t u p → BegunWith t q p
  repeat_child : (u p : ℕ) → BegunWith t q u → kind_at t u ≡ REPEAT → Child t u p → BegunWith t q p

-- "Beginning a run: phase 0, last time 0, no clock started, the estimate stored, the root initialised": buffer r, and r' after it
pub record BeginningSteps (t est r r' : List ℕ) : Type 0 where
  pub begins_waiting : phase_of r' ≡ waiting
  pub begins_at : last_time r' ≡ 0
  pub none_started : (c : ℕ) → c < clocks t → (get_or (started_in t r') c 0 ≡ 0) × (get_or (starts_in t r') c 0 ≡ 0)
  pub first_stored : estimate_in t r' ≡ est
  pub root_initialised : (p : ℕ) → Marked (marks_in t r') p ↔ BegunWith t 0 p
  pub first_marks : Flags (marks_in t r')
  -- "entries beyond V, K and N are 0"
  pub spare_zero : (i : ℕ) → Spare t i → i < record_length → get_or r' i 0 ≡ 0
  -- "A longer buffer's further bytes are untouched"
  pub further_kept : (i : ℕ) → record_length ≤ i → get_or r' i 0 ≡ get_or r i 0
  pub buffer_length : length r' ≡ length r

-- "a marked MAINTAIN whose condition is violated"
abbrev pub Broken : List ℕ → Situation → List ℕ → ℕ → Type 0
Broken t sit ms p = Marked ms p × (kind_at t p ≡ MAINTAIN) × (violated sit (operand_of t p) ≡ true)

-- An offer: record r and goal buffer goals, the variable that it names, and r' and goals' after it
pub record OfferSteps (t r : List ℕ) (time : ℕ) (goals : List ℕ) (name : ℕ) (r' goals' : List ℕ) : Type 0 where
  -- "The phase becomes 1 and the time becomes the last time"
  pub phase_offered : phase_of r' ≡ offered
  pub time_offered : last_time r' ≡ time
  -- "From the root down, a marked MAINTAIN whose condition is violated by the stored estimate and this time loses every mark inside it and stays marked":
  -- a part is marked afterwards where it was and stands inside no such MAINTAIN
  pub marks_checked : (p : ℕ) → Marked (marks_in t r') p ↔ (Marked (marks_in t r) p × ((q : ℕ) → Inside t q p → Broken t (situation t r (estimate_in t r) time) (marks_in t r) q → ⊥))
  pub checked_flags : Flags (marks_in t r')
  -- "Of the V goal bytes, each is 255 where no marked GOAL names that variable, the value where all agree, 254 where two differ (contested)"
  pub goal_none : (v : ℕ) → v < variables t → (get_or goals' v 0 ≡ no_goal) ↔ NoGoalAt t (marks_in t r') v
  pub goal_value : (v : ℕ) → v < variables t → (x : ℕ) → ((get_or goals' v 0 ≡ x) × (x ≤ max_value)) ↔ GoalsAgree t (marks_in t r') v x
  pub goal_differs : (v : ℕ) → v < variables t → (get_or goals' v 0 ≡ contested) ↔ GoalsDiffer t (marks_in t r') v
  -- "The offer now names the lowest-numbered contested variable" (document 02, R-1)
  pub lowest_named : NamesLowest (GoalsDiffer t (marks_in t r')) (variables t) name
  -- "Further goal bytes are untouched"
  pub goals_kept : (v : ℕ) → variables t ≤ v → get_or goals' v 0 ≡ get_or goals v 0
  pub goals_length : length goals' ≡ length goals
  -- and all else stays as it was
  pub estimate_kept : estimate_in t r' ≡ estimate_in t r
  pub clocks_kept : (started_in t r' ≡ started_in t r) × (starts_in t r' ≡ starts_in t r)
  pub offer_spare : (i : ℕ) → Spare t i → get_or r' i 0 ≡ get_or r i 0
  pub offer_length : length r' ≡ length r

-- A settling, of marks ms in a situation, in which the parts end that `ends` says.
-- A part that was marked and does not end
abbrev pub StaysMarked : List ℕ → (ℕ → Bool) → ℕ → Type 0
StaysMarked ms ends p = Marked ms p × (ends p ≡ false)

-- "one deciding before it has its first child initialised if satisfied, else its second", which stands where the first ends
abbrev pub child_taken : List ℕ → Situation → ℕ → ℕ
child_taken t sit p = cond (satisfied sit (operand_of t p)) (suc p) (end_at t (suc p))

-- "A part that ends loses its mark and then initialises its next, if it has one": part q initialises part x
abbrev pub Initialises : List ℕ → Situation → List ℕ → (ℕ → Bool) → ℕ → ℕ → Type 0
Initialises t sit ms ends q x = ((ends q ≡ true) × (next_at t q ≡ x) × (x ≢ no_part)) ⊎ (Deciding t ms q × (child_taken t sit q ≡ x))

-- part p is marked where part q initialises
abbrev pub MarkedBy : List ℕ → Situation → List ℕ → (ℕ → Bool) → ℕ → ℕ → Type 0
MarkedBy t sit ms ends q p = (x : ℕ) × Initialises t sit ms ends q x × BegunWith t x p

-- "marked inside after this": inside part p, and marked there by what the parts inside p do
abbrev pub MarkedInside : List ℕ → Situation → List ℕ → (ℕ → Bool) → ℕ → ℕ → Type 0
MarkedInside t sit ms ends p n = Inside t p n × (StaysMarked ms ends n ⊎ ((q : ℕ) × Inside t p q × MarkedBy t sit ms ends q n))

-- Which parts end
pub record Endings (t : List ℕ) (sit : Situation) (ms : List ℕ) (ends : ℕ → Bool) : Type 0 where
  -- "A marked GOAL ends when its variable has its value, a WAIT when satisfied, a START always"
  pub goal_end : (p : ℕ) → Marked ms p → kind_at t p ≡ GOAL → ends p ≡ reached sit (operand_of t p)
  pub wait_end : (p : ℕ) → Marked ms p → kind_at t p ≡ WAIT → ends p ≡ satisfied sit (operand_of t p)
  pub start_end : (p : ℕ) → Marked ms p → kind_at t p ≡ START → ends p ≡ true
  -- a CHOICE that decides goes on
  pub deciding_end : (p : ℕ) → Deciding t ms p → ends p ≡ false
  -- "Any other marked composite with nothing marked inside after this ends too, a CHOICE whose branch has just ended included"
  pub composite_end : (p : ℕ) → Marked ms p → is_leaf (entry_at Table t p) ≡ false → (Deciding t ms p → ⊥) → (ends p ≡ true) ↔ ((n : ℕ) → MarkedInside t sit ms ends p n → ⊥)
  -- "Newly marked parts are not judged, do not end"
  pub unmarked_end : (p : ℕ) → (Marked ms p → ⊥) → ends p ≡ false

-- A settling: record r, and r' after it
pub record SettlingSteps (t r est r' : List ℕ) : Type 0 where
  -- "All judgements use the new estimate, this cycle's time and the clocks as they were before the cycle"
  pub ends : ℕ → Bool
  pub endings : Endings t (situation t r est (last_time r)) (marks_in t r) ends
  -- the parts that are marked afterwards: those that stay, and those that are initialised
  pub marks_settled : (p : ℕ) → Marked (marks_in t r') p ↔ (StaysMarked (marks_in t r) ends p ⊎ ((q : ℕ) × MarkedBy t (situation t r est (last_time r)) (marks_in t r) ends q p))
  pub settled_flags_lem : Flags (marks_in t r')
  -- "From now on every marked START sets its clock to the cycle's time" (document 02, R-2), and any other clock stays as it was
  pub clock_set : (c : ℕ) → c < clocks t → (p : ℕ) → StartAt t (marks_in t r) c p → (get_or (started_in t r') c 0 ≡ started_flag) × (get_or (starts_in t r') c 0 ≡ last_time r)
  pub clock_kept : (c : ℕ) → c < clocks t → ((p : ℕ) → StartAt t (marks_in t r) c p → ⊥) → (get_or (started_in t r') c 0 ≡ get_or (started_in t r) c 0) × (get_or (starts_in t r') c 0 ≡ get_or (starts_in t r) c 0)
  -- "If the root ends, phase is 2 and the answer "finished", else 0 and "running""
  pub phase_settled : phase_of r' ≡ cond (ends 0) finished waiting
  -- "The new estimate is stored"
  pub estimate_stored : estimate_in t r' ≡ est
  -- and all else stays as it was
  pub time_kept : last_time r' ≡ last_time r
  pub settled_spare : (i : ℕ) → Spare t i → get_or r' i 0 ≡ get_or r i 0
  pub settled_length : length r' ≡ length r
