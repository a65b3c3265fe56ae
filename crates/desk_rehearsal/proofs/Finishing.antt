-- The count of cycles is document 01's finishing cycle where the run is finished, and where it is not there is none.
use Prim.Native.Nat.{ℕ, ◌+◌, ◌≤◌, ◌<◌}
use native.Mathlib.Omega.{arith}
use mathlib.Core.Path.{◌≡◌, refl, sym, ap, ap₂, ◌∙◌}
use mathlib.Core.Bool.{Bool, true, false, cond, not, false≢true}
use mathlib.Core.Option.{Option, none, some}
use mathlib.Core.List.{List, [], ◌∷◌, ◌++◌}
use lib.Dec.{eqb, ltb}
use lib.ListN.{length, length-replicate}
use borrow.Author.Tests.{not-true, ne_eqb, lt-ltb}
use Rattle.base.specs.Lists.{bytes_at}
use Rattle.base.proofs.Lists.{and_left, and_right, cond_map}
use Rattle.meaning.specs.Program.{variables}
use Rattle.meaning.specs.Record.{phase_of, finished}
use Rattle.meaning.specs.Cycle.{begin_refusal, begun_into, offer_refusal, offered_name, goals_into, settle_refusal, settled_into}
use Rattle.agreement.specs.Runs.{Call, offer, settling, refused, goals, running, done, settling_count, table_reply, table_next, table_after, table_finishing}
use Rattle.meaning.proofs.Refusals.{offer_tests_lem, offer_refused, settle_tests_lem, settle_refused}
use Rattle.desk_calls.specs.declared.Line.{Line}
use Rattle.desk_calls.specs.declared.Line.TheVariants.{Passed, Begin, Offer, OfferInto, Settle, NotACall}
use Rattle.desk_calls.specs.Lines.{bytes_of}
use Rattle.desk_transcript.specs.Transcript.{finishing_text}
use Rattle.desk_dispatch.specs.Counting.{max_count, more, begun_cycles, settled_cycles}
use Rattle.desk_dispatch.specs.Making.{record_at, cycles_at}
use Rattle.desk_rehearsal.specs.Rehearsal.{parsed_line}
use Rattle.desk_rehearsal.specs.Log.{calls_in, is_begin, all_calls, record_through, cycles_through, begins_none, said}

-- the count after a call, and after a list of calls
abbrev pub cycles_after : List ℕ → List ℕ → ℕ → Call → ℕ
cycles_after t r n (offer time buffer) = n
cycles_after t r n (settling est) = settled_cycles t r est n

abbrev pub all_cycles : List ℕ → List ℕ → ℕ → List Call → ℕ
all_cycles t r n [] = n
all_cycles t r n (c ∷ cs) = all_cycles t (table_next t r c) (cycles_after t r n c) cs

-- A finished run refuses every call, so nothing changes any more
module _ (t r : List ℕ) (late : eqb (phase_of r) finished ≡ true) where
  offer_late : (time room : ℕ) → offer_refusal t r time room ≡ 0 → ⊥
  offer_late time room h = false≢true (sym (not-true (eqb (phase_of r) finished) (offer_tests_lem t r time room h).1.1.0) ∙ late)

  settle_late : (est : List ℕ) → settle_refusal t r est ≡ 0 → ⊥
  settle_late est h = false≢true (sym (not-true (eqb (phase_of r) finished) (settle_tests_lem t r est h).1.1.0) ∙ late)

  stays : (n : ℕ) (c : Call) → (table_next t r c ≡ r) × (cycles_after t r n c ≡ n)
  unfolding settled_cycles
  stays n (offer time buffer) = (offer_refused t r time (length buffer) (offer_late time (length buffer)), refl)
  stays n (settling est) = (settle_refused t r est (settle_late est), rw (ne_eqb (settle_refusal t r est) 0 (settle_late est)))

  all_stay : (n : ℕ) (cs : List Call) → (table_after t r cs ≡ r) × (all_cycles t r n cs ≡ n)
  all_stay n [] = (refl, refl)
  all_stay n (c ∷ cs) =
      let s = stays n c in
      let rest = all_stay n cs in
      (rw s.0 rest.0, rw (s.0, s.1) rest.1)

-- the count grows by what document 01 counts, as long as it fits
no_cycle : (n : ℕ) (b : Bool) (k : ℕ) (gs : List ℕ) (name : ℕ) → n + settling_count (cond b (goals gs name) (refused k)) ≡ n
no_cycle n true k gs name = omega arith
no_cycle n false k gs name = omega arith

one_cycle : (n : ℕ) (b finishes : Bool) (k : ℕ) → n + settling_count (cond b (cond finishes done running) (refused k)) ≡ cond b (n + 1) n
one_cycle n true true k = refl
one_cycle n true false k = refl
one_cycle n false finishes k = omega arith

grows : (t r : List ℕ) (n : ℕ) (c : Call) → n < max_count → cycles_after t r n c ≡ n + settling_count (table_reply t r c)
unfolding settled_cycles more
grows t r n (offer time buffer) h = sym (no_cycle n (eqb (offer_refusal t r time (length buffer)) 0) (offer_refusal t r time (length buffer)) (bytes_at (goals_into t r time buffer) 0 (variables t)) (offered_name t r time))
grows t r n (settling est) h = rw (lt-ltb n max_count h) (sym (one_cycle n (eqb (settle_refusal t r est) 0) (eqb (phase_of (settled_into t r est)) finished) (settle_refusal t r est)))

-- and no call makes it grow by more than one
grows_slowly : (t r : List ℕ) (n : ℕ) (c : Call) → cycles_after t r n c ≤ n + 1
unfolding settled_cycles more
grows_slowly t r n (offer time buffer) = omega arith
grows_slowly t r n (settling est) = go (eqb (settle_refusal t r est) 0) (ltb n max_count)
  where
    go : (a b : Bool) → cond a (cond b (n + 1) n) n ≤ n + 1
    go true true = omega arith
    go true false = omega arith
    go false b = omega arith

-- "The finishing cycle is the number of settlings not refused up to the moment at which the phase is first 2": for a table, a record, a count
-- and a list of calls that the count has room for, it is the count after the list where the phase is 2 then, and else there is none
pub finishing_counted : (t : List ℕ) (cs : List Call) (r : List ℕ) (n : ℕ) → n + length cs ≤ max_count
    → table_finishing t r n cs ≡ cond (eqb (phase_of (table_after t r cs)) finished) (some (all_cycles t r n cs)) none
unfolding table_finishing
finishing_counted t [] r n fits = refl
finishing_counted t (c ∷ cs) r n fits =
    go (eqb (phase_of r) finished) refl
    (ap (λ (m : ℕ). table_finishing t (table_next t r c) m cs) (sym (grows t r n c (omega arith)))
    ∙ finishing_counted t cs (table_next t r c) (cycles_after t r n c) (omega (arith, grows_slowly t r n c)))
  where
    Counted : Option ℕ
    Counted = cond (eqb (phase_of (table_after t r (c ∷ cs))) finished) (some (all_cycles t r n (c ∷ cs))) none

    go : (b : Bool) → eqb (phase_of r) finished ≡ b
        → table_finishing t (table_next t r c) (n + settling_count (table_reply t r c)) cs ≡ Counted
        → cond b (some n) (table_finishing t (table_next t r c) (n + settling_count (table_reply t r c)) cs) ≡ Counted
    go true late rest =
        let s = all_stay t r late n (c ∷ cs) in
        sym (ap₂ (λ (l : List ℕ) (m : ℕ). cond (eqb (phase_of l) finished) (some m) none) s.0 s.1 ∙ rw late)
    go false late rest = rest

-- a line leaves the record and the count that its calls leave
pub line_calls : (t r est : List ℕ) (n : ℕ) (x : Line) → not (is_begin x) ≡ true
    → (record_at t r x est ≡ table_after t r (calls_in t x est)) × (cycles_at t r x est n ≡ all_cycles t r n (calls_in t x est))
line_calls t r est n Passed b = (refl, refl)
line_calls t r est n (Begin k) b = absurd (false≢true b)
line_calls t r est n (Offer time) b = (rw length-replicate, refl)
line_calls t r est n (OfferInto time room) b = (rw length-replicate, refl)
line_calls t r est n (Settle k) b = (refl, refl)
line_calls t r est n NotACall b = (refl, refl)

after_append : (t : List ℕ) (cs ds : List Call) (r : List ℕ) (n : ℕ)
    → (table_after t r (cs ++ ds) ≡ table_after t (table_after t r cs) ds) × (all_cycles t r n (cs ++ ds) ≡ all_cycles t (table_after t r cs) (all_cycles t r n cs) ds)
after_append t [] ds r n = (refl, refl)
after_append t (c ∷ cs) ds r n = after_append t cs ds (table_next t r c) (cycles_after t r n c)

lines_calls : (t : List ℕ) (lines : List (List ℕ)) (r : List ℕ) (n : ℕ) → begins_none lines ≡ true
    → (record_through t r lines ≡ table_after t r (all_calls t lines)) × (cycles_through t r n lines ≡ all_cycles t r n (all_calls t lines))
lines_calls t [] r n h = (refl, refl)
lines_calls t (line ∷ lines) r n h =
    let x = parsed_line line in
    let one = line_calls t r (bytes_of line) n x (and_left (not (is_begin x)) (begins_none lines) h) in
    let rest = lines_calls t lines (record_at t r x (bytes_of line)) (cycles_at t r x (bytes_of line) n) (and_right (not (is_begin x)) (begins_none lines) h) in
    let joined = after_append t (calls_in t x (bytes_of line)) (all_calls t lines) r n in (
      rest.0 ∙ ap (λ (l : List ℕ). table_after t l (all_calls t lines)) one.0 ∙ sym joined.0,
      rest.1 ∙ ap₂ (λ (l : List ℕ) (m : ℕ). all_cycles t l m (all_calls t lines)) one.0 one.1 ∙ sym joined.1,
    )

-- After a beginning that is accepted and lines that begin nothing, the summary has document 01's finishing cycle of the calls that they say
pub finishing_printed : (t est r : List ℕ) (m : ℕ) (lines : List (List ℕ)) → begin_refusal t est (length r) ≡ 0 → begins_none lines ≡ true → length (all_calls t lines) ≤ max_count
    → finishing_text (record_through t (begun_into t est r) lines) (cycles_through t (begun_into t est r) (begun_cycles t est r m) lines) ≡ said (table_finishing t (begun_into t est r) 0 (all_calls t lines))
unfolding finishing_text begun_cycles
finishing_printed t est r m lines z h fits =
    let run = lines_calls t lines (begun_into t est r) 0 h in
    rw (z, run.0, run.1, finishing_counted t (all_calls t lines) (begun_into t est r) 0 (omega arith))
    (sym (cond_map said (eqb (phase_of (table_after t (begun_into t est r) (all_calls t lines))) finished) (some (all_cycles t (begun_into t est r) 0 (all_calls t lines))) none))
