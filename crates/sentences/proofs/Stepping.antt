-- A beginning, an offer and a settling that are not refused do what document 01 says of them.
use Prim.Native.Nat.{ℕ, ◌+◌, ◌-◌, ◌≤◌, ◌<◌}
use native.Mathlib.Nat.{sub-zero, zero-add}
use native.Mathlib.Omega.{arith}
use mathlib.Core.Path.{◌≡◌, sym, ap, ◌∙◌}
use mathlib.Core.Bool.{true, ◌&&◌, and-eq-true_iff, false≢true}
use mathlib.Core.Logic.{◌↔◌, ◌⊎◌, inl, inr}
use mathlib.Core.List.{List}
use lib.Dec.{leb}
use lib.ListN.{length, get_or, drop, get_or-replicate, get_or-eq_default}
use lib.Seq.{length-sets, get_or-drop}
use borrow.Author.Tests.{eqb-true, eq-eqb, leb-true}
use Rattle.base.specs.Lists.{all}
use Rattle.base.proofs.Facts.{at_most, all_facts}
use Rattle.base.proofs.Lists.{each_passes}
use Rattle.base.proofs.Stores.{length_bytes, get_or_bytes}
use Rattle.meaning.specs.declared.Entry.{Entry}
use Rattle.meaning.specs.declared.Form.TheVariants.{Table}
use Rattle.meaning.specs.Sizes.{time_limit}
use Rattle.meaning.specs.declared.kinds.Kind.TheVariants.{Maintain as MAINTAIN}
use Rattle.meaning.specs.Kinds.{kind_of, number_of}
use Rattle.meaning.specs.Program.{parts, variables, entry_at}
use Rattle.meaning.specs.Table.{kind_at, operand_of, end_at, Inside, is_table}
use Rattle.meaning.specs.Conditions.{Situation, violated}
use Rattle.meaning.specs.Record.{estimate_place, started_place, starts_place, marks_place, record_length, phase_of, last_time, estimate_in, started_in, starts_in, marks_in, is_mark, started_flag, rest_zero, record_allowed, waiting, finished}
use Rattle.meaning.specs.Cycle.{initial_marks, is_kind, breaks, checked_from, situation, begin_refusal, begun_into, offered_goals, offered_name, offer_refusal, offered_into, goals_into, settle_refusal, settled_into}
use Rattle.meaning.proofs.Lies.{own_row, own_kind}
use Rattle.meaning.proofs.Nesting.{lower, at, outer_part}
use Rattle.meaning.proofs.Refusals.{offer_tests_lem, goal_bytes_into, settle_tests_lem}
use Rattle.meaning.proofs.Tables.{root_there, root_end}
use Rattle.meaning.proofs.Records.{length_root, begin_tests_lem, begun_fits, begun_bytes, rest_zero_lem}
use Rattle.sentences.specs.Marks.{Marked, Flags}
use Rattle.sentences.specs.Fields.{Bytes, Spare}
use Rattle.sentences.specs.Stepping.{BegunWith, BeginningSteps, Broken, OfferSteps, SettlingSteps}
use Rattle.sentences.proofs.Initialised.{begun_within, initialised_begun, begun_record}
use Rattle.sentences.proofs.AllowedRecords.{is_mark_lem, rest_right, exactly_allowed, parts_allowed_lem}
use Rattle.sentences.proofs.Settlings.{ends_at, marked_length, root_ends}
use Rattle.sentences.proofs.ZeroOrOne.{flags_initial, flags_checked, flags_settled}
use Rattle.sentences.proofs.Checked.{offer_marks}
use Rattle.sentences.proofs.GoalBytes.{no_goal_lem, goal_agreed, goal_contested}
use Rattle.sentences.proofs.Naming.{offered_lowest}
use Rattle.sentences.proofs.RecordFields.{offered_record_lem, offered_spare, offered_length, settled_record_lem, settled_spare, settled_length}
use Rattle.sentences.proofs.ClockStarts.{named_set, unnamed_kept}
use Rattle.sentences.proofs.AfterSettling.{settled_marks_lem}
use Rattle.sentences.proofs.Endings.{settling_endings}

-- bytes that stand from a place on, one by one
further : (n : ℕ) (r s : List ℕ) → drop n s ≡ drop n r → (i : ℕ) → n ≤ i → get_or s i 0 ≡ get_or r i 0
further n r s e i l =
    let k : n + (i - n) ≡ i = omega arith in
    rw k at (sym (get_or-drop n s (i - n) 0) ∙ ap (λ (x : List ℕ). get_or x (i - n) 0) e ∙ get_or-drop n r (i - n) 0)

-- "entries beyond V, K and N are 0", place by place
spare_blank : (t r : List ℕ) → rest_zero t r ≡ true → (i : ℕ) → Spare t i → i < record_length → get_or r i 0 ≡ 0
spare_blank t r h i s l = go s
  where
    go : Spare t i → get_or r i 0 ≡ 0
    go (inl a) =
        let k : estimate_place + (i - estimate_place) ≡ i = omega arith in
        rw k at (((rest_right t r).0 h).0 (i - estimate_place) (omega arith) (omega arith))
    go (inr (inl a)) =
        let k : started_place + (i - started_place) ≡ i = omega arith in
        rw k at (((rest_right t r).0 h).1.0 (i - started_place) (omega arith) (omega arith))
    go (inr (inr (inl a))) =
        let k : starts_place + (i - starts_place) ≡ i = omega arith in
        rw k at (((rest_right t r).0 h).1.1.0 (i - starts_place) (omega arith) (omega arith))
    go (inr (inr (inr a))) =
        let k : marks_place + (i - marks_place) ≡ i = omega arith in
        rw k at (((rest_right t r).0 h).1.1.1 (i - marks_place) (omega arith) (omega arith))

-- "the root initialised"
root_begun : (t : List ℕ) → is_table t ≡ true → (p : ℕ) → Marked (initial_marks t 0) p ↔ BegunWith t 0 p
root_begun t h p = (λ m. (begun (omega (arith, marked_length (initial_marks t 0) p m, length_root t h, root_end t h))).0 m, λ b. (begun (begun_within t h 0 some b).1).1 b)
  where
    some : 0 < end_at t 0
    some = omega (arith, root_there t h, root_end t h)

    begun : p < end_at t 0 → Marked (initial_marks t 0) p ↔ BegunWith t 0 p
    begun l = rw sub-zero at (initialised_begun t h 0 some p (omega arith) l)

module _ (t est r : List ℕ) (h : begin_refusal t est (length r) ≡ 0) where
  begun_length : length (begun_into t est r) ≡ length r
  unfolding begun_into
  begun_length = rw (h, length-sets)

  -- a beginning that is not refused
  pub beginning_steps : BeginningSteps t est r (begun_into t est r)
  beginning_steps =
      let table : is_table t ≡ true = (begin_tests_lem t est (length r) h).0 in
      let whole : length (initial_marks t 0) ≡ parts t = length_root t table in
      let f = begun_record t est r h in
      record {
        begins_waiting = f.phase_is;
        begins_at = f.time_is;
        none_started = λ c l. (rw (f.started_is, get_or-replicate), rw (f.starts_are, get_or-replicate));
        first_stored = f.estimate_is;
        root_initialised = rw f.marks_are (root_begun t table);
        first_marks = rw f.marks_are (flags_initial t 0);
        spare_zero = rw (begun_bytes t est r h whole) (spare_blank t _ (rest_zero_lem (begun_fits t est (length r) h whole) waiting (drop record_length r)));
        further_kept = further record_length r (begun_into t est r) f.more_is;
        buffer_length = begun_length;
      }

-- a kind byte and the kind that it stands for
kind_byte_lem : (t : List ℕ) → is_table t ≡ true → (p : ℕ) → p < parts t → (entry_at Table t p).kind ≡ number_of (kind_at t p)
kind_byte_lem t h p l =
    let a = at t h p l in
    ap (λ (e : Entry). e.kind) (own_row a.lies).entry_is ∙ ap number_of (sym (own_kind a.lies))

module _ (t : List ℕ) (h : is_table t ≡ true) (sit : Situation) (ms : List ℕ) (p : ℕ) where
  -- "a marked MAINTAIN whose condition is violated"
  broken_breaks : p < parts t → Broken t sit ms p → breaks t sit p (get_or ms p 0) ≡ true
  broken_breaks l (m, k, v) =
      let is-maintain = eq-eqb (entry_at Table t p).kind (number_of MAINTAIN) (kind_byte_lem t h p l ∙ ap number_of k) in
      (and-eq-true_iff (is_mark (get_or ms p 0)) _).1 (m, (and-eq-true_iff (is_kind MAINTAIN (entry_at Table t p)) (violated sit (operand_of t p))).1 (is-maintain, v))

  breaks_broken : breaks t sit p (get_or ms p 0) ≡ true → Broken t sit ms p
  unfolding kind_of number_of
  breaks_broken b =
      let (m, c) = (and-eq-true_iff (is_mark (get_or ms p 0)) (is_kind MAINTAIN (entry_at Table t p) && violated sit (operand_of t p))).0 b in
      let (k, v) = (and-eq-true_iff (is_kind MAINTAIN (entry_at Table t p)) (violated sit (operand_of t p))).0 c in
      (m, ap kind_of (eqb-true (entry_at Table t p).kind (number_of MAINTAIN) k), v)

-- "loses every mark inside it and stays marked"
checked_marks_lem : (t : List ℕ) → is_table t ≡ true → (sit : Situation) (ms : List ℕ) (p : ℕ) → Marked (checked_from t sit 0 ms 0) p ↔ (Marked ms p × ((q : ℕ) → Inside t q p → Broken t sit ms q → ⊥))
checked_marks_lem t h sit ms p =
    let marks = offer_marks t h sit ms p in (
      λ m. ((marks.0 m).0, λ q i b. (marks.0 m).1 q i (broken_breaks t h sit ms q (outer_part t h q p i) b)),
      λ m. marks.1 (m.0, λ q i b. m.1 q i (breaks_broken t h sit ms q b)),
    )

-- bytes that are each 0 or 1
small_flags : (l : List ℕ) → all (λ b. leb b 1) l ≡ true → Flags l
small_flags l h p = go (lower p (length l))
  where
    go : (p < length l) ⊎ (length l ≤ p) → get_or l p 0 ≤ 1
    go (inl a) = leb-true (get_or l p 0) 1 (each_passes (λ b. leb b 1) l 0 h p a)
    go (inr a) = rw (get_or-eq_default l 0 a) (omega arith)

-- the marks of an allowed record
record_flags : (t r : List ℕ) → record_allowed t r ≡ true → Flags (marks_in t r)
record_flags t r h =
    small_flags (marks_in t r) ((all_facts (λ b. leb b 1) (λ x. x ≤ 1) (at_most 1) (marks_in t r) (parts t) (length_bytes r marks_place (parts t))).1 ((exactly_allowed t r).0 h).marks_named)

module _ (t r : List ℕ) (time : ℕ) (goals : List ℕ) (h : offer_refusal t r time (length goals) ≡ 0) where
  goals_as_long : length (goals_into t r time goals) ≡ length goals
  unfolding goals_into
  goals_as_long = rw (h, length-sets)

  goal_is : (v : ℕ) → v < variables t → get_or (goals_into t r time goals) v 0 ≡ get_or (offered_goals t r time) v 0
  goal_is v l = rw zero-add at (sym (get_or_bytes (goals_into t r time goals) 0 (variables t) v l)) ∙ ap (λ (x : List ℕ). get_or x v 0) (goal_bytes_into t r time goals h).0

  -- an offer that is not refused
  pub offer_steps : time < time_limit → OfferSteps t r time goals (offered_name t r time) (offered_into t r time (length goals)) (goals_into t r time goals)
  offer_steps fits =
      let room : ℕ = length goals in
      let table : is_table t ≡ true = (offer_tests_lem t r time room h).0 in
      let sit : Situation = situation t r (estimate_in t r) time in
      let ms : List ℕ = marks_in t r in
      let f = offered_record_lem t r time room h fits in
      record {
        phase_offered = f.phase_is;
        time_offered = f.time_is;
        marks_checked = rw f.marks_are (checked_marks_lem t table sit ms);
        checked_flags = rw f.marks_are (flags_checked t sit ms 0 0 (record_flags t r (offer_tests_lem t r time room h).1.0));
        goal_none = λ v l. rw (goal_is v l, f.marks_are) (no_goal_lem t r time table v l);
        goal_value = λ v l x. rw (goal_is v l, f.marks_are) (goal_agreed t r time table v l x);
        goal_differs = λ v l. rw (goal_is v l, f.marks_are) (goal_contested t r time table v l);
        lowest_named = rw f.marks_are (offered_lowest t r time table);
        goals_kept = further (variables t) goals (goals_into t r time goals) (goal_bytes_into t r time goals h).1;
        goals_length = goals_as_long;
        estimate_kept = f.estimate_is;
        clocks_kept = (f.started_is, f.starts_are);
        offer_spare = offered_spare t r time room h;
        offer_length = offered_length t r time room h;
      }

module _ (t r est : List ℕ) (h : settle_refusal t r est ≡ 0) where
  root_runs : Marked (marks_in t r) 0
  root_runs =
      let a = (exactly_allowed t r).0 (settle_tests_lem t r est h).1.0 in
      (is_mark_lem (get_or (marks_in t r) 0 0)).1 (a.root_marked (λ e. false≢true (rw (eq-eqb (phase_of r) finished e) at (settle_tests_lem t r est h).1.1.0)))

  -- a settling that is not refused, of a record of bytes: only from bytes is a time read back
  pub settling_steps : Bytes r → SettlingSteps t r est (settled_into t r est)
  settling_steps bytes =
      let table : is_table t ≡ true = (settle_tests_lem t r est h).0 in
      let sit : Situation = situation t r est (last_time r) in
      let ms : List ℕ = marks_in t r in
      let whole : length ms ≡ parts t = length_bytes r marks_place (parts t) in
      let allowed = parts_allowed_lem t r (settle_tests_lem t r est h).1.0 in
      let f = settled_record_lem t r est h bytes in
      record {
        ends = ends_at t sit ms;
        endings = settling_endings t table sit ms whole (phase_of r) allowed;
        marks_settled = rw f.marks_are (settled_marks_lem t table sit ms whole (phase_of r) allowed);
        settled_flags_lem = rw f.marks_are (flags_settled t sit ms 0);
        clock_set = λ c l p a. rw (f.started_is, f.starts_are) (named_set t ms (started_in t r) started_flag c l p a, named_set t ms (starts_in t r) (last_time r) c l p a);
        clock_kept = λ c l n. rw (f.started_is, f.starts_are) (unnamed_kept t ms (started_in t r) started_flag c l n, unnamed_kept t ms (starts_in t r) (last_time r) c l n);
        phase_settled = f.phase_is ∙ rw (root_ends t table sit ms root_runs);
        estimate_stored = f.estimate_is;
        time_kept = f.time_is;
        settled_spare = settled_spare t r est h;
        settled_length = settled_length t r est h;
      }
