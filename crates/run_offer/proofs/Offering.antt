-- A whole offer: why it is refused, and what stands in the record and in the goal buffer where it is not.
use Prim.Native.Nat.{ℕ, ◌+◌, ◌<◌, ◌≤◌}
use native.Mathlib.Omega.{arith}
use mathlib.Core.Path.{◌≡◌, refl, sym, ◌∙◌}
use mathlib.Core.Logic.{inr}
use mathlib.Core.Bool.{Bool, true, false, not}
use mathlib.Core.List.{List, [], ◌∷◌, ◌++◌}
use lib.Dec.{eqb, leb}
use lib.ListN.{length, get_or, set, length-set}
use lib.Seq.{sets, length-sets, get_or-set_other}
use borrow.Author.Tests.{leb-true, le-leb, lt-leb, ne_eqb}
use Rattle.std.specs.Prelude.{Ok, Err}
use Rattle.base.specs.Lists.{first_failing, bytes_at}
use Rattle.base.proofs.Lists.{Passed, none_fails}
use Rattle.base.proofs.Stores.{length_bytes, bytes_same, get_or-sets_out, bytes_sets}
use Rattle.meaning.specs.declared.Refusal.{Refusal}
use Rattle.meaning.specs.Sizes.{max_variables, time_width, little_endian}
use Rattle.meaning.specs.Program.{parts, variables}
use Rattle.meaning.specs.Table.{is_table}
use Rattle.meaning.specs.Record.{time_place, estimate_place, marks_place, record_length, phase_of, last_time, estimate_in, marks_in, offered}
use Rattle.meaning.specs.Cycle.{leaves_from, goal_bytes, lowest_contested, situation, checked_from, offer_refusal, checked_marks, offered_goals, offered_name, offered_record, offered_into, goals_into}
use Rattle.meaning.specs.Answers.{answered, refusal_number, buffer_too_short, wrong_phase, time_before_last}
use Rattle.meaning.specs.Operations.{Offered}
use Rattle.meaning.proofs.Answers.{refusal_positive, refused_before, left_open}
use Rattle.meaning.proofs.Tables.{table_held}
use Rattle.meaning.proofs.Records.{length_checked, allowed_long}
use Rattle.meaning.proofs.Entries.{length_goals}
use Rattle.run_record.proofs.Marks.{marks_inside}
use Rattle.run_allowed.specs.Running.{run_tests}
use Rattle.run_offer.specs.CheckSteps.{judging}
use Rattle.run_offer.proofs.Checking.{judging_same}

-- The refusals: those of every run that does not go on, then each by the test that fails after those that pass
module _ (t r : List ℕ) (time room : ℕ) where
  abbrev late_tests : List (ℕ × Bool)
  late_tests = (wrong_phase, not (eqb (phase_of r) offered)) ∷ (time_before_last, leb (last_time r) time) ∷ (buffer_too_short, leb (variables t) room) ∷ []

  pub refused_early : (why : Refusal) → refusal_number why ≡ first_failing (run_tests t r) → refusal_number why ≡ offer_refusal t r time room
  unfolding offer_refusal
  refused_early why why-is = refused_before (run_tests t r) late_tests refl (Err why) why-is why refl

  module _ (goes : first_failing (run_tests t r) ≡ 0) (p : ℕ) (p-is : p ≡ phase_of r) where
    then_late : offer_refusal t r time room ≡ first_failing late_tests
    unfolding offer_refusal
    then_late = left_open (run_tests t r) late_tests refl (Ok tt) (sym goes) refl

    pub offered_already : p ≡ offered → wrong_phase ≡ offer_refusal t r time room
    offered_already h = sym (then_late ∙ rw (← p-is, h))

    module _ (waits : p ≡ offered → ⊥) (l : ℕ) (l-is : l ≡ last_time r) where
      pub too_early : time < l → time_before_last ≡ offer_refusal t r time room
      too_early h = sym (then_late ∙ rw (← p-is, ne_eqb p offered waits, lt-leb (last_time r) time (rw (← l-is) h)))

      module _ (v w : ℕ) (v-is : v ≡ variables t) (w-is : w ≡ v) (in_time : l ≤ time) where
        pub no_room : room < w → buffer_too_short ≡ offer_refusal t r time room
        no_room h = sym (then_late ∙ rw (← p-is, ne_eqb p offered waits, le-leb (last_time r) time (rw (← l-is) in_time), lt-leb (variables t) room (omega arith)))

        pub none_refuses : w ≤ room → 0 ≡ offer_refusal t r time room
        none_refuses h = sym (then_late ∙ rw (← p-is, ne_eqb p offered waits, le-leb (last_time r) time (rw (← l-is) in_time), le-leb (variables t) room (omega arith)))

-- What an offer that is not refused finds
module _ (t r : List ℕ) (time room : ℕ) (free : offer_refusal t r time room ≡ 0) where
  offer_passes : Passed (run_tests t r ++ late_tests t r time room)
  unfolding offer_refusal
  offer_passes = none_fails (run_tests t r ++ late_tests t r time room) refl free

  pub offer_table : is_table t ≡ true
  offer_table = offer_passes.0

  pub offer_long : record_length ≤ length r
  offer_long = allowed_long t r offer_passes.1.0

  -- also once it is written to
  pub offer_kept : (s : List ℕ) → length s ≡ length r → record_length ≤ length s
  offer_kept s e = omega (arith, e, offer_long)

  pub offer_room : variables t ≤ room
  offer_room = leb-true (variables t) room offer_passes.1.1.1.1.1.0

  pub goals_kept : (g : List ℕ) (v : ℕ) → length g ≡ room → v ≡ variables t → v ≤ length g
  goals_kept g v e v-is = omega (arith, offer_room)

  pub names_fit : (v : ℕ) → v ≡ variables t → v ≤ max_variables
  names_fit v v-is = omega (arith, (table_held t offer_table).1.within.variables_fit)

-- The record: phase and time stand before all that the check looks at
checked_is : (t r : List ℕ) (time : ℕ) → checked_marks t r time ≡ checked_from t (judging t r time) 0 (marks_in t r) 0
unfolding judging
checked_is t r time = refl

checked_same : (t r s : List ℕ) (time : ℕ) → is_table t ≡ true → ((j : ℕ) → estimate_place ≤ j → get_or s j 0 ≡ get_or r j 0) → checked_marks t s time ≡ checked_marks t r time
checked_same t r s time table same =
    let j : judging t s time ≡ judging t r time = judging_same t r s time table (λ j a b. same j a) in
    let m : marks_in t s ≡ marks_in t r = bytes_same r s marks_place (parts t) (λ j a b. same j (omega arith)) in
    checked_is t s time ∙ (rw (j, m) (sym (checked_is t r time)))

pub record_advanced : (t r a b c : List ℕ) (time : ℕ) → is_table t ≡ true → a ≡ set r 0 offered → b ≡ sets a time_place (little_endian time_width time) → c ≡ sets b marks_place (checked_marks t b time) → c ≡ offered_record t r time
record_advanced t r a b c time table a-is b-is c-is =
    let same : (j : ℕ) → estimate_place ≤ j → get_or b j 0 ≡ get_or r j 0 = λ j l. rw (b-is, a-is) (get_or-sets_out (little_endian time_width time) (set r 0 offered) time_place j (inr (omega arith)) ∙ get_or-set_other r 0 j offered 0 (λ e. omega (arith, e))) in
    c-is ∙ rw (checked_same t r b time table same, b-is, a-is)

-- the marks of the record after an offer
marks_after : (t r : List ℕ) (time : ℕ) → is_table t ≡ true → record_length ≤ length r → marks_in t (offered_record t r time) ≡ checked_marks t r time
marks_after t r time table long =
    let n : length (checked_marks t r time) ≡ parts t = length_checked t (situation t r (estimate_in t r) time) 0 (marks_in t r) 0 ∙ length_bytes r marks_place (parts t) in
    bytes_sets (checked_marks t r time) (sets (set r 0 offered) time_place (little_endian time_width time)) marks_place (parts t) n (rw (length-sets, length-set) (marks_inside t table r (parts t) long (omega arith)))

module _ (t r s g h : List ℕ) (time : ℕ) (free : offer_refusal t r time (length g) ≡ 0) (s-is : s ≡ offered_record t r time) (h-is : h ≡ sets g 0 (goal_bytes (variables t) (leaves_from t 0 (marks_in t s)))) where
  pub goals_offered : h ≡ sets g 0 (offered_goals t r time)
  goals_offered =
      h-is ∙ rw (s-is, marks_after t r time (offer_table t r time (length g) free) (offer_long t r time (length g) free))

  pub name_offered : (n v : ℕ) → v ≡ variables t → n ≡ answered + lowest_contested 0 (bytes_at h 0 v) → n ≡ answered + offered_name t r time
  name_offered n v v-is n-is =
      let e : bytes_at h 0 v ≡ offered_goals t r time = rw (goals_offered, v-is) (bytes_sets (offered_goals t r time) g 0 (variables t) (length_goals (variables t) (leaves_from t 0 (checked_marks t r time))) (omega (arith, offer_room t r time (length g) free))) in
      n-is ∙ rw e

-- The operation
pub offer_refused : (t r g : List ℕ) (time : ℕ) (why : Refusal) → refusal_number why ≡ offer_refusal t r time (length g) → Offered t r time g (refusal_number why) r g
unfolding offered_into goals_into
offer_refused t r g time why why-is =
    let z : eqb (offer_refusal t r time (length g)) 0 ≡ false = ne_eqb (offer_refusal t r time (length g)) 0 (λ n. refusal_positive why (why-is ∙ n)) in
    record {
      answer_is = rw z why-is;
      record_is = rw z;
      goals_are = rw z;
    }

pub offer_made_lem : (t r g s h : List ℕ) (time n : ℕ) → offer_refusal t r time (length g) ≡ 0 → n ≡ answered + offered_name t r time → s ≡ offered_record t r time → h ≡ sets g 0 (offered_goals t r time) → Offered t r time g n s h
unfolding offered_into goals_into
offer_made_lem t r g s h time n z n-is s-is h-is = record { answer_is = rw z n-is; record_is = rw z s-is; goals_are = rw z h-is }
