-- The two runs of demand 3: one program run by its table and by unfolding its tree, over one list of calls.
use Prim.Native.Nat.{ℕ, zero, suc, ◌+◌, ◌<◌}
use Rattle.std.specs.Prelude.{◌≡◌, Bool, true, cond, not, ◌&&◌, ◌||◌, eqb, leb, length, set, replicate}
use Rattle.std.proofs.Math.Option.{Option, none, some, map}
use mathlib.Core.List.{List, [], ◌∷◌}
use Rattle.base.specs.Lists.{all, any, first_failing, bytes_at}
use Rattle.meaning.specs.declared.Entry.{Entry}
use Rattle.meaning.specs.Sizes.{time_limit}
use Rattle.meaning.specs.declared.kinds.Kind.TheVariants.{Start as START}
use Rattle.meaning.specs.Kinds.{value}
use Rattle.meaning.specs.Tree.{Part}
use Rattle.meaning.specs.declared.Form.TheVariants.{File}
use Rattle.meaning.specs.Program.{variables, clocks, tree_of}
use Rattle.meaning.specs.Table.{compiled}
use Rattle.meaning.specs.Conditions.{Situation}
use Rattle.meaning.specs.Record.{phase_of, last_time, estimate_in, started_in, starts_in, record_length, started_flag, waiting, offered, finished}
use Rattle.meaning.specs.Cycle.{begin_refusal, begun_into, is_kind, gives_to, goal_bytes, offer_refusal, offered_name, offered_into, goals_into, settle_refusal, settled_into, estimate_allowed}
use Rattle.meaning.specs.Answers.{buffer_too_short, not_a_table, record_not_allowed, wrong_phase, time_before_last, estimate_not_allowed, run_finished, nothing_at_work, no_variable}
use Rattle.agreement.specs.Unfolding.{Rest, afresh, check, working, settle}

-- A call: an offer's time and goal buffer, or a settling's estimate
pub data Call : Type 0 where
  offer : ℕ → List ℕ → Call
  settling : List ℕ → Call

-- What a call answers: a refusal, an offer's V goal bytes and the variable that it names, or whether the run goes on
pub data Reply : Type 0 where
  refused : ℕ → Reply
  goals : List ℕ → ℕ → Reply
  running done : Reply

abbrev pub reply : ℕ → Reply → Reply
reply n r = cond (eqb n 0) r (refused n)

-- "the same 'running' or 'finished' from a settling": as the phase says afterwards
abbrev pub settled_reply : ℕ → Reply
settled_reply phase = cond (eqb phase finished) done running

-- The run by the table: each call gets the table and the record as the last call left it
abbrev pub table_reply : List ℕ → List ℕ → Call → Reply
table_reply t r (offer time buffer) = reply (offer_refusal t r time (length buffer)) (goals (bytes_at (goals_into t r time buffer) 0 (variables t)) (offered_name t r time))
table_reply t r (settling est) = reply (settle_refusal t r est) (settled_reply (phase_of (settled_into t r est)))

abbrev pub table_next : List ℕ → List ℕ → Call → List ℕ
table_next t r (offer time buffer) = offered_into t r time (length buffer)
table_next t r (settling est) = settled_into t r est

-- "a variable is contested where two of these give it different values": one of the leaves at work gives it a value, and one a value other than that
abbrev pub gives_other : ℕ → ℕ → Entry → Bool
gives_other v x e = gives_to v e && not (eqb x (value e.operand))

abbrev pub is_contested : List Entry → ℕ → Bool
is_contested es v = any (λ e. gives_to v e && any (gives_other v (value e.operand)) es) es

-- "The offer now names the lowest-numbered contested variable. … comparing two runs includes this name" (document 02, R-1): of the n variables
-- from v on, by the leaves at work and never by goal bytes; 255 where none is contested
unfoldable pub lowest_at_work : List Entry → ℕ → ℕ → ℕ
lowest_at_work es v zero = no_variable
lowest_at_work es v (suc n) = cond (is_contested es v) v (lowest_at_work es (suc v) n)

-- "From now on every marked START sets its clock to the cycle's time. … Table and tree are both compared under this rule" (document 02, R-2): the flags or
-- the starts of clocks after the STARTs among the leaves at work, one after the other, each of which sets its clock to x
unfoldable pub start_each : ℕ → List Entry → List ℕ → List ℕ
start_each x [] had = had
start_each x (e ∷ es) had = start_each x es (cond (is_kind START e) (set had e.operand.b1 x) had)

-- The run by unfolding. "Its state is the phase, last time, estimate and clocks, and what remains of the tree", of which nothing does once it has ended
pub record State (p : Part) : Type 0 where
  pub phase : ℕ
  pub time : ℕ
  pub estimate : List ℕ
  pub started : List ℕ
  pub starts : List ℕ
  pub rest : Option (Rest p)

-- what the unfolding is fed of a call: never a table, a record or an answer
pub data Fed : Type 0 where
  offering : ℕ → ℕ → Fed
  settled : List ℕ → Fed

abbrev pub fed : Call → Fed
fed (offer time buffer) = offering time (length buffer)
fed (settling est) = settled est

-- The table's run over a list of calls: the replies, and the record that it comes to
abbrev pub table_replies : List ℕ → List ℕ → List Call → List Reply
table_replies t r [] = []
table_replies t r (c ∷ cs) = table_reply t r c ∷ table_replies t (table_next t r c) cs

abbrev pub table_after : List ℕ → List ℕ → List Call → List ℕ
table_after t r [] = r
table_after t r (c ∷ cs) = table_after t (table_next t r c) cs

module _ (p : Part) where
  -- "a run begins with the root afresh"
  abbrev pub begin : ℕ → List ℕ → State p
  begin k est = record { phase = waiting; time = 0; estimate = est; started = replicate k 0; starts = replicate k 0; rest = some (afresh p) }

  -- "refusals 8 and 11 to 14 are as above", in the order of the operations
  abbrev pub refusal_of : ℕ → State p → Fed → ℕ
  refusal_of v st (offering time room) = first_failing ((run_finished, not (eqb st.phase finished)) ∷ (wrong_phase, not (eqb st.phase offered)) ∷ (time_before_last, leb st.time time) ∷ (buffer_too_short, leb v room) ∷ [])
  refusal_of v st (settled est) = first_failing ((run_finished, not (eqb st.phase finished)) ∷ (wrong_phase, not (eqb st.phase waiting)) ∷ (estimate_not_allowed, estimate_allowed v est) ∷ [])

  -- what conditions are judged by
  abbrev pub situation_of : State p → List ℕ → ℕ → Situation
  situation_of st est time = record { estimate = est; started = st.started; starts = st.starts; time = time }

  abbrev pub working_of : Option (Rest p) → List Entry
  working_of none = []
  working_of (some r) = working p r

  -- the state after an offer that is not refused, with what is checked, and after a settling that is not refused
  abbrev pub offered_state : State p → ℕ → State p
  offered_state st time =
      record {
        phase = offered;
        time = time;
        estimate = st.estimate;
        started = st.started;
        starts = st.starts;
        rest = map (check (situation_of st st.estimate time) p) st.rest;
      }

  abbrev pub settled_rest : Situation → Option (Rest p) → Option (Rest p)
  settled_rest sit none = none
  settled_rest sit (some r) = settle sit p r

  abbrev pub phase_for : Option (Rest p) → ℕ
  phase_for none = finished
  phase_for (some r) = waiting

  abbrev pub settled_state : State p → List ℕ → State p
  settled_state st est =
      record {
        phase = phase_for (settled_rest (situation_of st est st.time) st.rest);
        time = st.time;
        estimate = est;
        started = start_each started_flag (working_of st.rest) st.started;
        starts = start_each st.time (working_of st.rest) st.starts;
        rest = settled_rest (situation_of st est st.time) st.rest;
      }

  -- "A refused call changes nothing"
  abbrev pub accepted_next : State p → Fed → State p
  accepted_next st (offering time room) = offered_state st time
  accepted_next st (settled est) = settled_state st est

  unfoldable pub tree_next : ℕ → State p → Fed → State p
  tree_next v st c = cond (eqb (refusal_of v st c) 0) (accepted_next st c) st

  -- "Goal bytes follow the offer's rule, over the GOALs that offer in what remains"
  abbrev pub accepted_reply : ℕ → State p → Fed → Reply
  accepted_reply v st (offering time room) = goals (goal_bytes v (working_of (offered_state st time).rest)) (lowest_at_work (working_of (offered_state st time).rest) 0 v)
  accepted_reply v st (settled est) = settled_reply (settled_state st est).phase

  unfoldable pub tree_reply : ℕ → State p → Fed → Reply
  tree_reply v st c = reply (refusal_of v st c) (accepted_reply v st c)

  -- The unfolding's run over a list of calls
  abbrev pub tree_replies : ℕ → State p → List Call → List Reply
  tree_replies v st [] = []
  tree_replies v st (c ∷ cs) = tree_reply v st (fed c) ∷ tree_replies v (tree_next v st (fed c)) cs

  abbrev pub tree_after : ℕ → State p → List Call → State p
  tree_after v st [] = st
  tree_after v st (c ∷ cs) = tree_after v (tree_next v st (fed c)) cs

-- "The finishing cycle is the number of settlings not refused up to the moment at which the phase is first 2"
abbrev pub settling_count : Reply → ℕ
settling_count (refused n) = 0
settling_count (goals g n) = 0
settling_count running = 1
settling_count done = 1

unfoldable pub table_finishing : List ℕ → List ℕ → ℕ → List Call → Option ℕ
table_finishing t r n [] = cond (eqb (phase_of r) finished) (some n) none
table_finishing t r n (c ∷ cs) = cond (eqb (phase_of r) finished) (some n) (table_finishing t (table_next t r c) (n + settling_count (table_reply t r c)) cs)

unfoldable pub tree_finishing : (p : Part) → ℕ → State p → ℕ → List Call → Option ℕ
tree_finishing p v st n [] = cond (eqb st.phase finished) (some n) none
tree_finishing p v st n (c ∷ cs) = cond (eqb st.phase finished) (some n) (tree_finishing p v (tree_next p v st (fed c)) (n + settling_count (tree_reply p v st (fed c))) cs)

-- the replies of a run never refuse with 9, 10 or 15
abbrev pub possible : Reply → Bool
possible (refused n) = not (eqb n not_a_table || (eqb n record_not_allowed || eqb n nothing_at_work))
possible (goals g n) = true
possible running = true
possible done = true

-- The two runs are alike over a list of calls, from a record and a state on
pub record Alike (t r : List ℕ) (p : Part) (v : ℕ) (st : State p) (cs : List Call) : Type 0 where
  pub replies : table_replies t r cs ≡ tree_replies p v st cs
  pub never : all possible (table_replies t r cs) ≡ true
  pub phases : phase_of (table_after t r cs) ≡ (tree_after p v st cs).phase
  pub times : last_time (table_after t r cs) ≡ (tree_after p v st cs).time
  pub estimates : estimate_in t (table_after t r cs) ≡ (tree_after p v st cs).estimate
  pub flags : started_in t (table_after t r cs) ≡ (tree_after p v st cs).started
  pub clock_starts : starts_in t (table_after t r cs) ≡ (tree_after p v st cs).starts
  pub finishing : table_finishing t r 0 cs ≡ tree_finishing p v st 0 cs

-- each offer's time is one of 32 bits
abbrev pub Timed : List Call → Type 0
Timed [] = Unit {0}
Timed (offer time buffer ∷ cs) = (time < time_limit) × Timed cs
Timed (settling est ∷ cs) = Timed cs

-- Demand 3 for a program file, a first estimate, a record buffer and a list of calls, by the definitions: the file has a tree; a beginning is refused by 13 or 8
-- and then writes nothing ("a refused beginning starts neither run"); from one that is not refused on, the two runs are alike. Every estimate that is
-- allowed is covered: "The tree comparison covers runs with gaps too" (document 02, R-4)
pub record RunsAlike (f est r : List ℕ) (cs : List Call) : Type 0 where
  pub program : Part
  pub tree_is : tree_of File f ≡ some program
  pub beginning : begin_refusal (compiled File f) est (length r) ≡ first_failing ((estimate_not_allowed, estimate_allowed (variables f) est) ∷ (buffer_too_short, leb record_length (length r)) ∷ [])
  pub unbegun : (begin_refusal (compiled File f) est (length r) ≡ 0 → ⊥) → begun_into (compiled File f) est r ≡ r
  pub begun : begin_refusal (compiled File f) est (length r) ≡ 0 → Alike (compiled File f) (begun_into (compiled File f) est r) program (variables f) (begin program (clocks f) est) cs
