-- The tests that a call has passed where it is not refused, what it then leaves at the front of its buffers, and that a refused one changes nothing.
use Prim.Native.Nat.{ℕ, ◌≤◌}
use native.Mathlib.Omega.{arith}
use mathlib.Core.Path.{◌≡◌, refl, sym, ap, ◌∙◌}
use mathlib.Core.Bool.{Bool, cond}
use mathlib.Core.Logic.{◌↔◌, inl}
use mathlib.Core.List.{List, [], ◌∷◌, ◌++◌}
use lib.Dec.{eqb}
use lib.ListN.{length, set, drop}
use lib.Seq.{sets, get_or-set_same}
use borrow.Author.Tests.{leb-true, le-leb, ne_eqb}
use Rattle.base.specs.Lists.{flat, first_failing, bytes_at}
use Rattle.base.proofs.Lists.{Passed, none_fails, passed, fails_append}
use Rattle.base.proofs.Stores.{get_or-sets_out, bytes_sets, drop-sets_out}
use Rattle.meaning.specs.Sizes.{length_of, time_width, little_endian}
use Rattle.meaning.specs.declared.Form.TheVariants.{File, Table}
use Rattle.meaning.specs.Program.{parts, variables, program_tests, program_refusal}
use Rattle.meaning.specs.Table.{room_test, compile_tests, compile_refusal}
use Rattle.meaning.specs.Record.{estimate_place, started_place, starts_place, marks_place, phase_of, waiting, finished}
use Rattle.meaning.specs.Cycle.{begin_refusal, begun_into, checked_marks, leaves_from, offer_tests, offer_refusal, offered_goals, offered_into, goals_into, settled_marks, settled_record, settle_tests, settle_refusal, settled_into, root_ended, settled_flags, settled_starts}
use Rattle.meaning.proofs.Entries.{length_goals}
use Rattle.meaning.proofs.Records.{allowed_long}

-- An answer with what stands in the buffer: it is left as it is where the call is refused, and takes what is new where it is not
pub effect : (n m : ℕ) (new out out₁ : List ℕ) → n ≡ m → out₁ ≡ cond (eqb n 0) new out → (n ≡ m) × (out₁ ≡ cond (eqb m 0) new out)
effect n m new out out₁ e h = (e, h ∙ ap (λ (k : ℕ). cond (eqb k 0) new out) e)

-- the refusal of compiling is the first of its tests that fails
pub compile_first : (f : List ℕ) (room : ℕ) → compile_refusal f room ≡ first_failing (compile_tests f room)
unfolding compile_refusal program_refusal
compile_first f room = sym (fails_append (program_tests File f) (room_test Table f room) refl)

-- tests in two lists that all pass, and so do those of each
passed_both : (xs ys : List (ℕ × Bool)) → Passed (xs ++ ys) → Passed xs × Passed ys
passed_both [] ys h = (tt, h)
passed_both (x ∷ xs) ys h =
    let r = passed_both xs ys h.1 in
    ((h.0, r.0), r.1)

-- compiling is not refused exactly where the file is accepted and there is room for the table
pub compile_accepts : (f : List ℕ) (room : ℕ) → (compile_refusal f room ≡ 0) ↔ ((program_refusal File f ≡ 0) × (length_of Table (parts f) ≤ room))
unfolding compile_refusal program_refusal
compile_accepts f room = (
  λ h.
      let tests = passed_both (program_tests File f) (room_test Table f room) (none_fails (compile_tests f room) refl (sym (compile_first f room) ∙ h)) in
      (passed (program_tests File f) tests.0, leb-true (length_of Table (parts f)) room tests.1.0),
  λ x. rw (x.0, le-leb (length_of Table (parts f)) room x.1),
)

module _ (t r : List ℕ) (time room : ℕ) (h : offer_refusal t r time room ≡ 0) where
  pub offer_tests_lem : Passed (offer_tests t r time room)
  unfolding offer_refusal
  offer_tests_lem = none_fails (offer_tests t r time room) refl h

  -- an offer that is not refused has room for the goal bytes
  offer_room : variables t ≤ room
  offer_room = leb-true (variables t) room offer_tests_lem.1.1.1.1.1.0

-- bytes written at the front of a buffer that has room for them
pub front_written : (gs buffer : List ℕ) (n : ℕ) → length gs ≡ n → n ≤ length buffer → (bytes_at (sets buffer 0 gs) 0 n ≡ gs) × (drop n (sets buffer 0 gs) ≡ drop n buffer)
front_written gs buffer n e h = (bytes_sets gs buffer 0 n e (omega arith), drop-sets_out gs buffer 0 n (omega arith))

-- the goal bytes stand at the front of the buffer, and "Further goal bytes are untouched"
pub goal_bytes_into : (t r : List ℕ) (time : ℕ) (goals : List ℕ) → offer_refusal t r time (length goals) ≡ 0
    → (bytes_at (goals_into t r time goals) 0 (variables t) ≡ offered_goals t r time) × (drop (variables t) (goals_into t r time goals) ≡ drop (variables t) goals)
unfolding goals_into
goal_bytes_into t r time goals h = rw h (front_written (offered_goals t r time) goals (variables t) (length_goals (variables t) (leaves_from t 0 (checked_marks t r time))) (offer_room t r time (length goals) h))

module _ (t r est : List ℕ) (h : settle_refusal t r est ≡ 0) where
  pub settle_tests_lem : Passed (settle_tests t r est)
  unfolding settle_refusal
  settle_tests_lem = none_fails (settle_tests t r est) refl h

  -- the phase is the first byte, and no later store reaches it
  pub settled_phase : phase_of (settled_record t r est) ≡ cond (root_ended (settled_marks t r est)) finished waiting
  settled_phase =
      let phase = cond (root_ended (settled_marks t r est)) finished waiting in
      get_or-sets_out (settled_marks t r est) _ marks_place 0 (inl (omega arith))
      ∙ get_or-sets_out (flat (little_endian time_width) (settled_starts t r)) _ starts_place 0 (inl (omega arith))
      ∙ get_or-sets_out (settled_flags t r) _ started_place 0 (inl (omega arith))
      ∙ get_or-sets_out est (set r 0 phase) estimate_place 0 (inl (omega arith))
      ∙ get_or-set_same r 0 phase 0 (omega (arith, allowed_long t r settle_tests_lem.1.0))

-- "A refused call changes nothing"
pub begin_refused : (t est r : List ℕ) → (begin_refusal t est (length r) ≡ 0 → ⊥) → begun_into t est r ≡ r
unfolding begun_into
begin_refused t est r h = rw (ne_eqb (begin_refusal t est (length r)) 0 h)

pub offer_refused : (t r : List ℕ) (time room : ℕ) → (offer_refusal t r time room ≡ 0 → ⊥) → offered_into t r time room ≡ r
unfolding offered_into
offer_refused t r time room h = rw (ne_eqb (offer_refusal t r time room) 0 h)

pub goals_refused : (t r : List ℕ) (time : ℕ) (goals : List ℕ) → (offer_refusal t r time (length goals) ≡ 0 → ⊥) → goals_into t r time goals ≡ goals
unfolding goals_into
goals_refused t r time goals h = rw (ne_eqb (offer_refusal t r time (length goals)) 0 h)

pub settle_refused : (t r est : List ℕ) → (settle_refusal t r est ≡ 0 → ⊥) → settled_into t r est ≡ r
unfolding settled_into
settle_refused t r est h = rw (ne_eqb (settle_refusal t r est) 0 h)
