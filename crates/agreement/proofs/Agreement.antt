-- Demand 3: the run by the table and the run by unfolding the tree are alike.
use Prim.Native.Nat.{ℕ, ◌+◌, ◌≤◌, ◌<◌}
use native.Mathlib.Omega.{arith}
use mathlib.Core.Path.{◌≡◌, refl, sym, ap, ap₂, ◌∙◌}
use mathlib.Core.Bool.{Bool, true, false, cond, not, ◌||◌, false≢true}
use mathlib.Core.Logic.{◌⊎◌, inl, inr}
use mathlib.Core.Option.{Option, none, some}
use mathlib.Core.List.{List, [], ◌∷◌, ◌++◌, append-nil}
use lib.Dec.{eqb, leb}
use lib.ListN.{length, get_or, drop}
use lib.Seq.{sets}
use borrow.Author.Tests.{leb-true, eqb-true}
use Rattle.base.specs.Lists.{all, first_failing, bytes_at}
use Rattle.base.proofs.Lists.{and_left, and_right, cond_map, cond_same, none_fails, all_replicate}
use Rattle.base.proofs.Stores.{bytes_sets}
use Rattle.meaning.specs.declared.Form.TheVariants.{File}
use Rattle.meaning.specs.Sizes.{no_part, time_limit}
use Rattle.meaning.specs.Tree.{Part, size}
use Rattle.meaning.specs.Program.{variables, clocks, parts, entry_allowed, Within, program_refusal}
use Rattle.meaning.specs.Table.{table_of, compiled, is_table}
use Rattle.meaning.specs.Conditions.{Situation}
use Rattle.meaning.specs.Record.{waiting, offered, finished, record_bytes, record_length, started_flag, estimate_byte_allowed, root_allowed, parts_allowed, record_allowed, clock_allowed}
use Rattle.meaning.specs.Cycle.{initial_marks, begin_refusal, begun_into, leaves_from, goal_bytes, root_ended, works_from, estimate_allowed, offer_refusal, checked_marks, offered_record, offered_goals, offered_name, offered_into, goals_into, settled_marks, settle_refusal, settled_record, settled_into, clocks_after}
use Rattle.meaning.specs.Answers.{buffer_too_short, wrong_phase, time_before_last, estimate_not_allowed, run_finished}
use Rattle.meaning.proofs.Files.{accepted_file}
use Rattle.meaning.proofs.Tables.{table_holds, table_accepted, tree_table, compiled_is}
use Rattle.meaning.proofs.Entries.{length_goals}
use Rattle.meaning.proofs.Clocks.{flags_small, clocks_settled_lem}
use Rattle.meaning.proofs.Records.{Fits, judged, phase_read, time_read, estimate_read, started_read, starts_read, begin_tests_lem, begun_fits, begun_bytes, clocks_begun, estimate_fits, checked_marks_lem, settled_record_marks, offered_bytes, offered_fits, settled_bytes, settled_fits, record_allowed_lem, clock_later}
use Rattle.meaning.proofs.Refusals.{begin_refused}
use Rattle.meaning.proofs.Lies.{Lies, root_lies}
use Rattle.agreement.specs.Unfolding.{Rest, afresh, check, working, settle}
use Rattle.agreement.specs.Runs.{Call, offer, settling, Reply, refused, goals, running, done, table_reply, table_next, State, begin, Fed, fed, offering, settled, refusal_of, working_of, phase_for, tree_next, tree_reply, accepted_reply, lowest_at_work, start_each, settled_state, possible, Alike, settling_count, table_finishing, tree_finishing, Timed, RunsAlike}
use Rattle.agreement.proofs.Contested.{names_alike}
use Rattle.agreement.proofs.Starts.{each_started}
use Rattle.agreement.proofs.AtWork.{all_working, small_values}
use Rattle.agreement.proofs.Shapes.{length_marks}
use Rattle.agreement.proofs.Passes.{leaves_blank, leaves_whole, check_whole, initial_lies}
use Rattle.agreement.proofs.Settles.{marks_left, settle_root, root_ended_lem}
use Rattle.agreement.proofs.Works.{Holding, afresh_holding, never_stalls}
use Rattle.agreement.proofs.Allowed.{settle_holds, root_allowed_lem, ended_allowed, blank_flags, marks_flags}

-- a test that 0 and the number of each test pass, the number of the first that fails passes
pub failing_passes : (f : ℕ → Bool) (ts : List (ℕ × Bool)) → f 0 ≡ true → all (λ u. f u.0) ts ≡ true → f (first_failing ts) ≡ true
failing_passes f [] z h = z
failing_passes f (u ∷ ts) z h =
    cond_map f u.1 (first_failing ts) u.0
    ∙ rw (failing_passes f ts z (and_right (f u.0) (all (λ x. f x.0) ts) h), and_left (f u.0) (all (λ x. f x.0) ts) h) (cond_same u.1 true)

module _ (v k : ℕ) (p : Part) (w : Within v k p) where
  abbrev t : List ℕ
  t = table_of v k p

  lies : Lies t p 0 no_part no_part
  lies = root_lies v k p w

  table : is_table t ≡ true
  table = tree_table v k p w

  variables_are : variables t ≡ v
  variables_are = (table_accepted v k p w).2

  clocks_are : clocks t ≡ k
  clocks_are = (table_accepted v k p w).3

  -- What a phase says of what remains
  abbrev Phase : ℕ → Option (Rest p) → Type 0
  Phase n none = n ≡ finished
  Phase n (some r) = ((n ≡ waiting) × Holding p r) ⊎ (n ≡ offered)

  -- A state that a run comes to
  record Good (phase time : ℕ) (est started starts : List ℕ) (rest : Option (Rest p)) : Type 0 where
    fits : Fits t time est started starts (marks_left p rest)
    flags : all (λ b. leb b 1) started ≡ true
    estimate_allowed_lem : all estimate_byte_allowed est ≡ true
    ticking : (c : ℕ) → c < clocks t → clock_allowed time (get_or started c 0) (get_or starts c 0) ≡ true
    phased : Phase phase rest

  -- the record that holds a state, with the bytes after it
  abbrev held : ℕ → ℕ → List ℕ → List ℕ → List ℕ → Option (Rest p) → List ℕ → List ℕ
  held phase time est started starts rest more = record_bytes phase time est started starts (marks_left p rest) ++ more

  abbrev state_of : ℕ → ℕ → List ℕ → List ℕ → List ℕ → Option (Rest p) → State p
  state_of phase time est started starts rest = record { phase = phase; time = time; estimate = est; started = started; starts = starts; rest = rest }

  abbrev record_in : State p → List ℕ → List ℕ
  record_in st more = held st.phase st.time st.estimate st.started st.starts st.rest more

  abbrev GoodState : State p → Type 0
  GoodState st = Good st.phase st.time st.estimate st.started st.starts st.rest

  marks_small : (rest : Option (Rest p)) → all (λ b. leb b 1) (marks_left p rest) ≡ true
  marks_small none = blank_flags (size p)
  marks_small (some r) = marks_flags p r

  phase_small : (phase : ℕ) (rest : Option (Rest p)) → Phase phase rest → phase ≤ finished
  phase_small phase none h = omega arith
  phase_small phase (some r) (inl h) = omega (arith, h.0)
  phase_small phase (some r) (inr h) = omega arith

  module _ (phase time : ℕ) (est started starts : List ℕ) (more : List ℕ) where
    -- the marks of what remains are allowed
    marks_in_lem : (rest : Option (Rest p)) → Phase phase rest → (root_allowed phase (marks_left p rest) ≡ true) × (parts_allowed t phase 0 (marks_left p rest) ≡ true)
    marks_in_lem none h = rw h (ended_allowed v k p w)
    marks_in_lem (some r) h = root_allowed_lem v k p w phase r h

    -- and so is the record that holds them: refusal 10 never comes
    record_good : (rest : Option (Rest p)) → Good phase time est started starts rest → record_allowed t (held phase time est started starts rest more) ≡ true
    record_good rest g =
        record_allowed_lem g.fits phase more
        (record {
          phase_allowed = phase_small phase rest g.phased;
          flags_allowed = g.flags;
          marks_allowed = marks_small rest;
          estimate_allowed_lem = g.estimate_allowed_lem;
          clocks_allowed_lem = g.ticking;
          root_allowed_lem = (marks_in_lem rest g.phased).0;
          parts_allowed_lem = (marks_in_lem rest g.phased).1;
        })

    -- both refuse the same offers
    offer_refusal_lem : (rest : Option (Rest p)) → Good phase time est started starts rest → (now room : ℕ)
        → offer_refusal t (held phase time est started starts rest more) now room ≡ refusal_of p v (state_of phase time est started starts rest) (offering now room)
    unfolding offer_refusal
    offer_refusal_lem rest g now room = rw (table, record_good rest g, phase_read g.fits phase more, time_read g.fits phase more, variables_are)

    -- a settling never stalls: refusal 15 never comes
    works : (r : Rest p) → Good phase time est started starts (some r) → (new : List ℕ)
        → (root_ended (settled_marks t (held phase time est started starts (some r) more) new) || works_from t 0 (settled_marks t (held phase time est started starts (some r) more) new)) ≡ true
    works r g new = rw (settled_record_marks g.fits phase more new) (never_stalls t (judged new started starts time) p lies r)

    -- both refuse the same settlings
    settle_refusal_lem : (rest : Option (Rest p)) → Good phase time est started starts rest → (new : List ℕ)
        → settle_refusal t (held phase time est started starts rest more) new ≡ refusal_of p v (state_of phase time est started starts rest) (settled new)
    unfolding settle_refusal
    settle_refusal_lem none g new = rw (table, record_good none g, phase_read g.fits phase more, g.phased)
    settle_refusal_lem (some r) g new = rw (table, record_good (some r) g, phase_read g.fits phase more, works r g new, variables_are)

  -- the leaves at work are the marked ones
  leaves_root : (rest : Option (Rest p)) → leaves_from t 0 (marks_left p rest) ≡ working_of p rest
  unfolding leaves_from
  leaves_root none = simp append-nil at ((leaves_blank t (size p) {n = 0}).over [])
  leaves_root (some r) = leaves_whole t p lies r

  -- the phase after a settling, by the root's mark and by what remains
  phase_after : (rest : Option (Rest p)) → cond (root_ended (marks_left p rest)) finished waiting ≡ phase_for p rest
  phase_after none = rw (root_ended_lem p none)
  phase_after (some r) = rw (root_ended_lem p (some r))

  phase_next : (sit : Situation) (r : Rest p) → Phase (phase_for p (settle sit p r)) (settle sit p r)
  phase_next sit r = go (settle sit p r) (λ r' e. settle_holds sit p r r' e)
    where
      go : (o : Option (Rest p)) → ((r' : Rest p) → o ≡ some r' → Holding p r') → Phase (phase_for p o) o
      go none h = refl
      go (some r') h = inl (refl, h r' refl)

  -- what an offer that is not refused has found
  record Waiting (time now room : ℕ) (rest : Option (Rest p)) : Type 0 where
    remaining : Rest p
    is : rest ≡ some remaining
    later : time ≤ now
    room_enough : v ≤ room

  offer_waits : (phase time now room : ℕ) (est started starts : List ℕ) (rest : Option (Rest p)) → Phase phase rest
      → refusal_of p v (state_of phase time est started starts rest) (offering now room) ≡ 0 → Waiting time now room rest
  offer_waits phase time now room est started starts none h z = absurd (let bad : ◌≡◌ {A = ℕ} run_finished 0 = rw h at z in omega arith)
  offer_waits phase time now room est started starts (some r) (inr h) z = absurd (let bad : ◌≡◌ {A = ℕ} 11 0 = rw h at z in omega arith)
  offer_waits phase time now room est started starts (some r) (inl h) z =
      let tests = none_fails ((run_finished, not (eqb phase finished)) ∷ (wrong_phase, not (eqb phase offered)) ∷ (time_before_last, leb time now) ∷ (buffer_too_short, leb v room) ∷ []) refl z in
      record { remaining = r; is = refl; later = leb-true time now tests.1.1.0; room_enough = leb-true v room tests.1.1.1.0 }

  -- what a settling that is not refused has found
  record Offered (new : List ℕ) (rest : Option (Rest p)) : Type 0 where
    remaining : Rest p
    is : rest ≡ some remaining
    long : length new ≡ v
    estimate_allowed_lem : all estimate_byte_allowed new ≡ true

  settle_waits : (phase time : ℕ) (est started starts new : List ℕ) (rest : Option (Rest p)) → Phase phase rest
      → refusal_of p v (state_of phase time est started starts rest) (settled new) ≡ 0 → Offered new rest
  unfolding estimate_allowed
  settle_waits phase time est started starts new none h z = absurd (let bad : ◌≡◌ {A = ℕ} run_finished 0 = rw h at z in omega arith)
  settle_waits phase time est started starts new (some r) h z =
      let tests = none_fails ((run_finished, not (eqb phase finished)) ∷ (wrong_phase, not (eqb phase waiting)) ∷ (estimate_not_allowed, estimate_allowed v new) ∷ []) refl z in
      let allowed = tests.1.1.0 in
      record { remaining = r; is = refl; long = eqb-true (length new) v (and_left (eqb (length new) v) (all estimate_byte_allowed new) allowed); estimate_allowed_lem = and_right (eqb (length new) v) (all estimate_byte_allowed new) allowed }

  -- One call: the same reply, a record that holds the next state, and a state that a run comes to
  record Stepped (r : List ℕ) (st : State p) (more : List ℕ) (c : Call) : Type 0 where
    replied : table_reply t r c ≡ tree_reply p v st (fed c)
    holding : table_next t r c ≡ record_in (tree_next p v st (fed c)) more
    good : GoodState (tree_next p v st (fed c))

  module _ (phase time : ℕ) (est started starts : List ℕ) (r : Rest p) (g : Good phase time est started starts (some r)) (more : List ℕ) where
    abbrev now_held : List ℕ
    now_held = held phase time est started starts (some r) more

    -- after an offer
    module _ (now : ℕ) (fits-now : now < time_limit) (later : time ≤ now) where
      abbrev at_now : Situation
      at_now = judged est started starts now

      offered_held : offered_record t now_held now ≡ held offered now est started starts (some (check at_now p r)) more
      offered_held = offered_bytes g.fits phase more now ∙ ap (λ (m : List ℕ). record_bytes offered now est started starts m ++ more) (check_whole t at_now p lies r)

      offered_good : Good offered now est started starts (some (check at_now p r))
      offered_good =
          record {
            fits = rw (check_whole t at_now p lies r) at (offered_fits g.fits now fits-now);
            flags = g.flags;
            estimate_allowed_lem = g.estimate_allowed_lem;
            ticking = λ c h. clock_later time now (get_or started c 0) (get_or starts c 0) later (g.ticking c h);
            phased = inr refl;
          }

      offered_leaves : leaves_from t 0 (checked_marks t now_held now) ≡ working p (check at_now p r)
      offered_leaves = ap (leaves_from t 0) (checked_marks_lem g.fits phase more now ∙ check_whole t at_now p lies r) ∙ leaves_root (some (check at_now p r))

    -- after a settling
    module _ (new : List ℕ) (long : length new ≡ v) (new-allowed : all estimate_byte_allowed new ≡ true) where
      abbrev at_end : Situation
      at_end = judged new started starts time

      flags_each : start_each started_flag (working p r) started ≡ clocks_after (clocks t) (working p r) started_flag started
      flags_each = each_started started_flag (working p r) started (clocks t) g.fits.shape.started_is

      starts_each : start_each time (working p r) starts ≡ clocks_after (clocks t) (working p r) time starts
      starts_each = each_started time (working p r) starts (clocks t) g.fits.shape.starts_are

      settled_held : settled_record t now_held new
          ≡ held (phase_for p (settle at_end p r)) time new (start_each started_flag (working p r) started) (start_each time (working p r) starts) (settle at_end p r) more
      settled_held = settled_bytes g.fits phase more new (long ∙ sym variables_are) ∙ rw (settle_root t at_end p lies r, leaves_root (some r), phase_after (settle at_end p r), flags_each, starts_each)

      settled_good : Good (phase_for p (settle at_end p r)) time new (start_each started_flag (working p r) started) (start_each time (working p r) starts) (settle at_end p r)
      settled_good =
          record {
            fits = rw (settle_root t at_end p lies r, leaves_root (some r), ← flags_each, ← starts_each) at (settled_fits g.fits new (long ∙ sym variables_are));
            flags = rw flags_each (flags_small (clocks t) (working p r) started g.fits.shape.started_is g.flags);
            estimate_allowed_lem = new-allowed;
            ticking = rw (flags_each, starts_each) (clocks_settled_lem (clocks t) (working p r) started starts time g.ticking);
            phased = phase_next at_end r;
          }

  -- a call that both refuse changes neither
  offer_refused : (phase time : ℕ) (est started starts : List ℕ) (rest : Option (Rest p)) (g : Good phase time est started starts rest) (more : List ℕ) (now : ℕ) (buffer : List ℕ)
      → eqb (refusal_of p v (state_of phase time est started starts rest) (offering now (length buffer))) 0 ≡ false
      → Stepped (held phase time est started starts rest more) (state_of phase time est started starts rest) more (offer now buffer)
  unfolding tree_reply tree_next offered_into
  offer_refused phase time est started starts rest g more now buffer z =
      let e = offer_refusal_lem phase time est started starts more rest g now (length buffer) in
      record {
        replied = rw (e, z);
        holding = rw (e, z);
        good = rw z g;
      }

  module _ (phase time : ℕ) (est started starts : List ℕ) (r : Rest p) (g : Good phase time est started starts (some r)) (more : List ℕ) where
    abbrev here : State p
    here = state_of phase time est started starts (some r)

    -- the goal bytes that an offer leaves in the buffer
    offered_goals_lem : (now : ℕ) → now < time_limit → time ≤ now → (buffer : List ℕ) → v ≤ length buffer
        → bytes_at (sets buffer 0 (offered_goals t (record_in here more) now)) 0 (variables t) ≡ goal_bytes v (working p (check (judged est started starts now) p r))
    offered_goals_lem now f later buffer room =
        rw (offered_leaves phase time est started starts r g more now f later, variables_are)
        (bytes_sets (goal_bytes v (working p (check (judged est started starts now) p r))) buffer 0 v (length_goals v (working p (check (judged est started starts now) p r))) (omega arith))

    -- the variable that it names
    offered_name_lem : (now : ℕ) → now < time_limit → time ≤ now → offered_name t (record_in here more) now ≡ lowest_at_work (working p (check (judged est started starts now) p r)) 0 v
    offered_name_lem now f later =
        let es = working p (check (judged est started starts now) p r) in
        rw (offered_leaves phase time est started starts r g more now f later, variables_are)
        (names_alike es (small_values v k es (all_working (entry_allowed v k) p (check (judged est started starts now) p r) w.entries_allowed)) v)

    offer_accepted : (now : ℕ) → now < time_limit → (buffer : List ℕ) → refusal_of p v here (offering now (length buffer)) ≡ 0 → Stepped (record_in here more) here more (offer now buffer)
    unfolding tree_reply tree_next offered_into goals_into
    offer_accepted now f buffer z =
        let e : offer_refusal t (record_in here more) now (length buffer) ≡ 0 = offer_refusal_lem phase time est started starts more (some r) g now (length buffer) ∙ z in
        let waits = offer_waits phase time now (length buffer) est started starts (some r) g.phased z in
        let given = offered_goals_lem now f waits.later buffer waits.room_enough in
        record {
          replied = rw (e, z) (ap₂ goals given (offered_name_lem now f waits.later));
          holding = rw (e, z) (offered_held phase time est started starts r g more now f waits.later);
          good = rw z (offered_good phase time est started starts r g more now f waits.later);
        }

  settle_refused : (phase time : ℕ) (est started starts : List ℕ) (rest : Option (Rest p)) (g : Good phase time est started starts rest) (more new : List ℕ)
      → eqb (refusal_of p v (state_of phase time est started starts rest) (settled new)) 0 ≡ false
      → Stepped (held phase time est started starts rest more) (state_of phase time est started starts rest) more (settling new)
  unfolding tree_reply tree_next settled_into
  settle_refused phase time est started starts rest g more new z =
      let e = settle_refusal_lem phase time est started starts more rest g new in
      record { replied = rw (e, z); holding = rw (e, z); good = rw z g }

  module _ (phase time : ℕ) (est started starts : List ℕ) (r : Rest p) (g : Good phase time est started starts (some r)) (more : List ℕ) where
    settle_accepted : (new : List ℕ) → refusal_of p v (state_of phase time est started starts (some r)) (settled new) ≡ 0
        → Stepped (held phase time est started starts (some r) more) (state_of phase time est started starts (some r)) more (settling new)
    unfolding tree_reply tree_next settled_into
    settle_accepted new z =
        let e : settle_refusal t (held phase time est started starts (some r) more) new ≡ 0 = settle_refusal_lem phase time est started starts more (some r) g new ∙ z in
        let found = settle_waits phase time est started starts new (some r) g.phased z in
        let h = settled_held phase time est started starts r g more new found.long found.estimate_allowed_lem in
        let next = settled_good phase time est started starts r g more new found.long found.estimate_allowed_lem in
        record {
          replied = rw (e, z, h, phase_read next.fits (phase_for p (settle (judged new started starts time) p r)) more);
          holding = rw (e, z) h;
          good = rw z next;
        }

  -- One call, whatever it is
  abbrev Timely : Call → Type 0
  Timely (offer now buffer) = now < time_limit
  Timely (settling new) = Unit {0}

  -- a run that has ended refuses every call
  ended_refuses : (phase time : ℕ) (est started starts : List ℕ) → phase ≡ finished → (c : Fed) → refusal_of p v (state_of phase time est started starts none) c ≡ 14
  ended_refuses phase time est started starts e (offering now room) = rw e
  ended_refuses phase time est started starts e (settled new) = rw e

  module _ (phase time : ℕ) (est started starts more : List ℕ) where
    refused_step : (rest : Option (Rest p)) (c : Call) → Good phase time est started starts rest → eqb (refusal_of p v (state_of phase time est started starts rest) (fed c)) 0 ≡ false
        → Stepped (held phase time est started starts rest more) (state_of phase time est started starts rest) more c
    refused_step rest (offer now buffer) g z = offer_refused phase time est started starts rest g more now buffer z
    refused_step rest (settling new) g z = settle_refused phase time est started starts rest g more new z

    accepted_step : (r : Rest p) (c : Call) → Good phase time est started starts (some r) → Timely c → refusal_of p v (state_of phase time est started starts (some r)) (fed c) ≡ 0
        → Stepped (held phase time est started starts (some r) more) (state_of phase time est started starts (some r)) more c
    accepted_step r (offer now buffer) g f z = offer_accepted phase time est started starts r g more now f buffer z
    accepted_step r (settling new) g f z = settle_accepted phase time est started starts r g more new z

    step_by : (rest : Option (Rest p)) (c : Call) → Good phase time est started starts rest → Timely c → (b : Bool) → eqb (refusal_of p v (state_of phase time est started starts rest) (fed c)) 0 ≡ b
        → Stepped (held phase time est started starts rest more) (state_of phase time est started starts rest) more c
    step_by rest c g f false z = refused_step rest c g z
    step_by none c g f true z = absurd (false≢true (rw (ended_refuses phase time est started starts g.phased (fed c)) at z))
    step_by (some r) c g f true z = accepted_step r c g f (eqb-true (refusal_of p v (state_of phase time est started starts (some r)) (fed c)) 0 z)

  step : (st : State p) (more : List ℕ) (c : Call) → GoodState st → Timely c → Stepped (record_in st more) st more c
  step st more c g f = step_by st.phase st.time st.estimate st.started st.starts more st.rest c g f (eqb (refusal_of p v st (fed c)) 0) refl

  -- The whole list of calls
  first_timed : (c : Call) (cs : List Call) → Timed (c ∷ cs) → Timely c
  first_timed (offer now buffer) cs h = h.0
  first_timed (settling new) cs h = tt

  others_timed : (c : Call) (cs : List Call) → Timed (c ∷ cs) → Timed cs
  others_timed (offer now buffer) cs h = h.1
  others_timed (settling new) cs h = h

  finishing_alike : (cs : List Call) (st : State p) (more : List ℕ) (n : ℕ) → GoodState st → Timed cs → table_finishing t (record_in st more) n cs ≡ tree_finishing p v st n cs
  unfolding table_finishing tree_finishing
  finishing_alike [] st more n g h = rw (phase_read g.fits st.phase more)
  finishing_alike (c ∷ cs) st more n g h =
      let s = step st more c g (first_timed c cs h) in
      rw (phase_read g.fits st.phase more, s.replied, s.holding)
      (ap (λ (o : Option ℕ). cond (eqb st.phase finished) (some n) o)
      (finishing_alike cs (tree_next p v st (fed c)) more (n + settling_count (tree_reply p v st (fed c))) s.good (others_timed c cs h)))

  -- what a refusal's number can be
  refusal_possible : (st : State p) (c : Fed) → possible (refused (refusal_of p v st c)) ≡ true
  refusal_possible st (offering now room) =
      failing_passes (λ n. possible (refused n)) ((run_finished, not (eqb st.phase finished)) ∷ (wrong_phase, not (eqb st.phase offered)) ∷ (time_before_last, leb st.time now) ∷ (buffer_too_short, leb v room) ∷ []) refl refl
  refusal_possible st (settled new) =
      failing_passes (λ n. possible (refused n)) ((run_finished, not (eqb st.phase finished)) ∷ (wrong_phase, not (eqb st.phase waiting)) ∷ (estimate_not_allowed, estimate_allowed v new) ∷ []) refl refl

  given_possible : (st : State p) (c : Fed) → possible (accepted_reply p v st c) ≡ true
  given_possible st (offering now room) = refl
  given_possible st (settled new) = cond_map possible (eqb (settled_state p st new).phase finished) done running ∙ cond_same (eqb (settled_state p st new).phase finished) true

  reply_possible : (st : State p) (c : Fed) → possible (tree_reply p v st c) ≡ true
  unfolding tree_reply
  reply_possible st c =
      cond_map possible (eqb (refusal_of p v st c) 0) (accepted_reply p v st c) (refused (refusal_of p v st c))
      ∙ rw (given_possible st c, refusal_possible st c) (cond_same (eqb (refusal_of p v st c) 0) true)

  -- from a state that a run comes to, the two runs are alike over every list of calls
  alike : (cs : List Call) (st : State p) (more : List ℕ) → GoodState st → Timed cs → Alike t (record_in st more) p v st cs
  alike [] st more g h =
      record {
        replies = refl;
        never = refl;
        phases = phase_read g.fits st.phase more;
        times = time_read g.fits st.phase more;
        estimates = estimate_read g.fits st.phase more;
        flags = started_read g.fits st.phase more;
        clock_starts = starts_read g.fits st.phase more;
        finishing = finishing_alike [] st more 0 g h;
      }
  alike (c ∷ cs) st more g h = joined (step st more c g (first_timed c cs h)) (λ e. alike cs (tree_next p v st (fed c)) more e (others_timed c cs h))
    where
      joined : Stepped (record_in st more) st more c → (GoodState (tree_next p v st (fed c)) → Alike t (record_in (tree_next p v st (fed c)) more) p v (tree_next p v st (fed c)) cs)
          → Alike t (record_in st more) p v st (c ∷ cs)
      joined s later =
          let rest : Alike t (table_next t (record_in st more) c) p v (tree_next p v st (fed c)) cs = rw s.holding (later s.good) in
          record {
            replies = ap₂ (λ (x : Reply) (xs : List Reply). x ∷ xs) s.replied rest.replies;
            never = rw (s.replied, reply_possible st (fed c)) rest.never;
            phases = rest.phases;
            times = rest.times;
            estimates = rest.estimates;
            flags = rest.flags;
            clock_starts = rest.clock_starts;
            finishing = finishing_alike (c ∷ cs) st more 0 g h;
          }

  -- the fresh marks are as many as the parts
  length_begun : length (initial_marks t 0) ≡ parts t
  length_begun = ap length (initial_lies t p lies) ∙ length_marks p (afresh p) ∙ sym (table_holds v k p w).parts_are

  -- the state at the beginning is one that a run comes to, and the record that a beginning writes holds it
  begun_good : (est : List ℕ) (room : ℕ) → begin_refusal t est room ≡ 0 → GoodState (begin p k est)
  begun_good est room h =
      record {
        fits = rw (initial_lies t p lies, clocks_are) at (begun_fits t est room h length_begun);
        flags = all_replicate (λ b. leb b 1) k 0 refl;
        estimate_allowed_lem = (estimate_fits t est (begin_tests_lem t est room h).1.0).1;
        ticking = rw clocks_are (clocks_begun k 0);
        phased = inl (refl, afresh_holding p);
      }

  begun_held : (est r : List ℕ) → begin_refusal t est (length r) ≡ 0 → begun_into t est r ≡ record_in (begin p k est) (drop record_length r)
  begun_held est r h = begun_bytes t est r h length_begun ∙ rw (initial_lies t p lies, clocks_are)

  -- a beginning is refused by 13 or 8
  begin_refusal_lem : (est : List ℕ) (room : ℕ) → begin_refusal t est room ≡ first_failing ((estimate_not_allowed, estimate_allowed v est) ∷ (buffer_too_short, leb record_length room) ∷ [])
  unfolding begin_refusal
  begin_refusal_lem est room = rw (table, variables_are)

-- for every program file that compiling accepts, every first estimate, every record buffer and every list of calls
pub runs_alike : (f est r : List ℕ) (cs : List Call) → program_refusal File f ≡ 0 → Timed cs → RunsAlike f est r cs
runs_alike f est r cs a h =
    let x = accepted_file f a in
    let v = variables f in
    let k = clocks f in
    let e : compiled File f ≡ table_of v k x.0 = compiled_is File f x.0 x.1 in
    record {
      program = x.0;
      tree_is = x.1;
      beginning = rw e (begin_refusal_lem v k x.0 x.2 est (length r));
      unbegun = begin_refused (compiled File f) est r;
      begun =
          λ b.
          let c : begin_refusal (table_of v k x.0) est (length r) ≡ 0 = rw e at b in
          rw (e, begun_held v k x.0 x.2 est r c) (alike v k x.0 x.2 cs (begin x.0 k est) (drop record_length r) (begun_good v k x.0 x.2 est (length r) c) h);
    }
