-- A settling's answers: one law for each place where the code gives one.
use Prim.Native.Nat.{ℕ, ◌+◌, ◌≤◌}
use native.Mathlib.Omega.{arith}
use mathlib.Core.Path.{◌≡◌, refl, sym, ap, ◌∙◌}
use mathlib.Core.Bool.{Bool, true, false, cond, ◌||◌}
use mathlib.Core.List.{List, [], ◌∷◌, ◌++◌}
use lib.Dec.{eqb}
use lib.ListN.{length, get_or}
use lib.Seq.{sets}
use borrow.Author.Tests.{ne_eqb}
use Rattle.std.specs.Prelude.{Ok, Err}
use Rattle.base.specs.Lists.{first_failing, bytes_at}
use Rattle.base.proofs.Lists.{Passed, none_fails}
use Rattle.base.proofs.Stores.{bytes_sets, get_or_bytes, length_bytes}
use Rattle.meaning.specs.declared.Refusal.{Refusal}
use Rattle.meaning.specs.Sizes.{max_parts}
use Rattle.meaning.specs.Program.{parts, variables}
use Rattle.meaning.specs.Table.{is_table}
use Rattle.meaning.specs.Record.{record_length, phase_of, last_time, marks_place, marks_in, waiting}
use Rattle.meaning.specs.Cycle.{estimate_allowed, situation, settled_marks, root_ended, works_from, settle_refusal, settled_record, settled_into}
use Rattle.meaning.specs.Answers.{refusal_number, answered, nothing_at_work, wrong_phase, estimate_not_allowed}
use Rattle.meaning.specs.Operations.{Settled}
use Rattle.meaning.proofs.Answers.{refusal_positive, refused_before, left_open}
use Rattle.meaning.proofs.Records.{length_settled, allowed_long, estimate_fits}
use Rattle.meaning.proofs.Tables.{root_there}
use Rattle.program_part.proofs.Places.{parts_fit}
use Rattle.run_allowed.specs.Running.{run_tests}
use Rattle.run_settle.specs.Answering.{later_tests, early_tests, early_refusal, Judged}

module _ (t r est : List ℕ) where
  -- The early refusals: those of every run that does not go on, then 11 and 13
  pub not_running : (why : Refusal) → refusal_number why ≡ first_failing (run_tests t r) → refusal_number why ≡ early_refusal t r est
  unfolding early_refusal
  not_running why why-is = refused_before (run_tests t r) (later_tests t r est) refl (Err why) why-is why refl

  module _ (goes : first_failing (run_tests t r) ≡ 0) (k : ℕ) (k-is : k ≡ phase_of r) where
    then_later : early_refusal t r est ≡ first_failing (later_tests t r est)
    unfolding early_refusal
    then_later = left_open (run_tests t r) (later_tests t r est) refl (Ok tt) (sym goes) refl

    pub is_waiting : k ≡ waiting → wrong_phase ≡ early_refusal t r est
    is_waiting e = sym (then_later ∙ rw (← k-is, e))

    module _ (asked : k ≡ waiting → ⊥) (d : Bool) (d-is : d ≡ estimate_allowed (variables t) est) where
      pub not_estimate : d ≡ false → estimate_not_allowed ≡ early_refusal t r est
      not_estimate n = sym (then_later ∙ rw (← k-is, ne_eqb k waiting asked, ← d-is, n))

      pub none_early : d ≡ true → early_refusal t r est ≡ 0
      none_early n = then_later ∙ rw (← k-is, ne_eqb k waiting asked, ← d-is, n)

  -- 15 comes after them
  abbrev last_test : List (ℕ × Bool)
  last_test = (nothing_at_work, root_ended (settled_marks t r est) || works_from t 0 (settled_marks t r est)) ∷ []

  -- Judging: an early refusal is the settling's
  pub judged_early : (why : Refusal) (m : List ℕ) → refusal_number why ≡ early_refusal t r est → Judged t r est (refusal_number why) m
  unfolding settle_refusal early_refusal
  judged_early why m why-is =
      let e : refusal_number why ≡ settle_refusal t r est = refused_before (early_tests t r est) last_test refl (Err why) why-is why refl in
      record { answer_is = e; marks_are = λ z. absurd (refusal_positive why (e ∙ z)) }

  module _ (free : early_refusal t r est ≡ 0) where
    then_15 : settle_refusal t r est ≡ first_failing last_test
    unfolding settle_refusal early_refusal
    then_15 = left_open (early_tests t r est) last_test refl (Ok tt) (sym free) refl

    -- what they find where they refuse nothing
    passes : Passed (early_tests t r est)
    unfolding early_refusal
    passes = none_fails (early_tests t r est) refl free

    table : is_table t ≡ true
    table = passes.0

    pub is_estimate : variables t ≤ length est
    is_estimate = omega (arith, (estimate_fits t est passes.1.1.1.1.0).0)

    -- the marks of all parts have room in m
    pub is_room : (room : ℕ) → room ≡ max_parts → parts t ≤ room
    is_room room e = omega (arith, parts_fit t table)

    module _ (m new : List ℕ) (x : Bool) (long : length m ≡ max_parts) (New-is : new ≡ sets m 0 (settled_marks t r est)) (x-is : x ≡ (root_ended new || works_from t 0 (bytes_at new 0 (parts t)))) where
      marks_there : bytes_at new 0 (parts t) ≡ settled_marks t r est
      marks_there =
          let l : length (settled_marks t r est) ≡ parts t = length_settled t (situation t r est (last_time r)) 0 (marks_in t r) ∙ length_bytes r marks_place (parts t) in
          rw New-is (bytes_sets (settled_marks t r est) m 0 (parts t) l (omega (arith, parts_fit t table)))

      root_is : get_or (settled_marks t r est) 0 0 ≡ get_or new 0 0
      root_is = sym (sym (get_or_bytes new 0 (parts t) 0 (root_there t table)) ∙ ap (λ l. get_or l 0 0) marks_there)

      late : (b : Bool) → x ≡ b → settle_refusal t r est ≡ cond b 0 nothing_at_work
      late b e = then_15 ∙ rw (root_is, ← marks_there, ← x-is, e)

      pub judged_done : x ≡ true → Judged t r est 0 new
      judged_done e = record { answer_is = sym (late true e); marks_are = λ _. marks_there }

      pub judged_stuck : x ≡ false → Judged t r est nothing_at_work new
      judged_stuck e = record { answer_is = sym (late false e); marks_are = λ _. marks_there }

  -- Settling: a refused call changes nothing
  pub settled_refused : (why : Refusal) (m : List ℕ) → Judged t r est (refusal_number why) m → Settled t r est (refusal_number why) r
  unfolding settled_into
  settled_refused why m j =
      let some : eqb (settle_refusal t r est) 0 ≡ false = ne_eqb (settle_refusal t r est) 0 (λ z. refusal_positive why (j.answer_is ∙ z)) in
      record { answer_is = rw some j.answer_is; record_is = rw some }

  module _ (m : List ℕ) (j : Judged t r est 0 m) where
    none : settle_refusal t r est ≡ 0
    none = sym j.answer_is

    passed : Passed (early_tests t r est ++ last_test)
    unfolding settle_refusal
    passed = none_fails (early_tests t r est ++ last_test) refl none

    -- what writing the record asks
    pub commit_long : record_length ≤ length r
    commit_long = allowed_long t r passed.1.0

    pub commit_room : length m ≡ max_parts → parts t ≤ length m
    commit_room e = omega (arith, parts_fit t passed.0)

    pub commit_estimate : estimate_allowed (variables t) est ≡ true
    commit_estimate = passed.1.1.1.1.0

    pub commit_marks : bytes_at m 0 (parts t) ≡ settled_marks t r est
    commit_marks = j.marks_are none

    root_mark : get_or (settled_marks t r est) 0 0 ≡ get_or m 0 0
    root_mark = sym (sym (get_or_bytes m 0 (parts t) 0 (root_there t passed.0)) ∙ ap (λ l. get_or l 0 0) commit_marks)

    module _ (new : List ℕ) (x : Bool) (New-is : new ≡ settled_record t r est) (x-is : x ≡ root_ended m) where
      pub settled_finished : x ≡ true → Settled t r est (answered + 1) new
      unfolding settled_into
      settled_finished z = record { answer_is = rw (none, root_mark, ← x-is, z); record_is = rw none New-is }

      pub settled_running : x ≡ false → Settled t r est answered new
      unfolding settled_into
      settled_running z = record { answer_is = rw (none, root_mark, ← x-is, z); record_is = rw none New-is }
