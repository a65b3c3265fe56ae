-- Conditions: what each asks, that one is violated exactly where its opposite is satisfied, and what a started clock reads.
use Prim.Native.Nat.{ℕ, zero, suc, ◌≤◌, ◌<◌}
use native.Mathlib.Nat.{eq-zero-or-pos}
use native.Mathlib.Omega.{arith}
use mathlib.Core.Path.{◌≡◌, refl, sym, ap}
use mathlib.Core.Logic.Iff
use mathlib.Core.Logic.{◌↔◌, ◌≢◌, ◌⊎◌, inl, inr}
use mathlib.Core.Bool.{Bool, true, false, not, false≢true, not-not}
use mathlib.Core.List.{List}
use lib.Dec.{eqb, leb, ltb}
use lib.ListN.{get_or}
use borrow.Author.Tests.{eqb-false, leb-true, leb-false, lt-ltb, le-ltb, ltb-true, ne_eqb, not-true, not-false}
use Rattle.base.proofs.Facts.{at_most, equal, get_or_inside}
use Rattle.base.proofs.Stores.{length_bytes}
use Rattle.meaning.specs.declared.Operand.{Operand}
use Rattle.meaning.specs.declared.Outcome.{Outcome}
use Rattle.meaning.specs.declared.Outcome.TheVariants.{Satisfied, Violated, Open}
use Rattle.meaning.specs.Sizes.{unknown_value}
use Rattle.meaning.specs.declared.kinds.Test.{Test}
use Rattle.meaning.specs.declared.kinds.Test.TheVariants.{Untested as UNTESTED, Equals as EQUALS, Differs as DIFFERS, AtLeast as AT-LEAST, Below as BELOW}
use Rattle.meaning.specs.Kinds.{test_of, test_number, value, test_allowed, condition_allowed}
use Rattle.meaning.specs.Program.{clocks}
use Rattle.meaning.specs.Conditions.{Situation, estimate_of, is_known, is_started, reading, decided, open_unless, tested, is_satisfied, is_violated, outcome, satisfied, violated}
use Rattle.meaning.specs.Record.{last_time, estimate_in, started_in, started_place, record_allowed}
use Rattle.meaning.specs.Cycle.{situation, offer_refusal, settle_refusal}
use Rattle.meaning.proofs.Refusals.{offer_tests_lem, settle_tests_lem}
use Rattle.sentences.specs.Opposites.{opposite, opposite_of, OverVariable, OverClock, Judged, ReadsExactly}
use Rattle.sentences.proofs.AllowedRecords.{exactly_allowed}

-- the opposite of an opposite is the test itself
pub opposite_twice : (x : Test) → opposite (opposite x) ≡ x
unfolding opposite
opposite_twice UNTESTED = refl
opposite_twice EQUALS = refl
opposite_twice DIFFERS = refl
opposite_twice AT-LEAST = refl
opposite_twice BELOW = refl

-- a test is read back from its number
test_back : (x : Test) → test_of (test_number x) ≡ x
unfolding test_of test_number
test_back UNTESTED = refl
test_back EQUALS = refl
test_back DIFFERS = refl
test_back AT-LEAST = refl
test_back BELOW = refl

-- what a decision says
for_is : (b : Bool) → is_satisfied (decided b) ≡ b
for_is true = refl
for_is false = refl

against_is : (b : Bool) → is_violated (decided b) ≡ not b
against_is true = refl
against_is false = refl

-- a number is at least another, or below it
at_least_not : (n x : ℕ) → ltb x n ≡ not (leb n x)
at_least_not n x = go (leb n x) refl
  where
    go : (b : Bool) → leb n x ≡ b → ltb x n ≡ not b
    go true e = le-ltb x n (leb-true n x e)
    go false e = lt-ltb x n (leb-false n x e)

-- what a test answers: satisfied where the variable or clock can be tested and the test came out so, the opposite where it came out otherwise, and open
-- where the variable or clock cannot be tested
satisfied_where : (k b : Bool) → (is_satisfied (open_unless k b) ≡ true) ↔ ((k ≡ true) × (b ≡ true))
satisfied_where true b = rw (for_is b) (λ e. (refl, e), λ x. x.1)
satisfied_where false b = (λ e. absurd (false≢true e), λ x. absurd (false≢true x.0))

opposite_where : (k a b : Bool) → b ≡ not a → is_violated (open_unless k a) ≡ is_satisfied (open_unless k b)
opposite_where true a b e = rw (against_is a, for_is b, e)
opposite_where false a b e = refl

open_where : (k b : Bool) → (open_unless k b ≡ Open) ↔ (k ≡ false)
open_where true true = (λ e. absurd (false≢true (sym (ap is_satisfied e))), λ e. absurd (false≢true (sym e)))
open_where true false = (λ e. absurd (false≢true (sym (ap is_violated e))), λ e. absurd (false≢true (sym e)))
open_where false b = (λ e. refl, λ e. refl)

-- one of three
not_both : (x : Outcome) → is_satisfied x ≡ true → is_violated x ≡ false
not_both Satisfied e = refl
not_both Violated e = absurd (false≢true e)
not_both Open e = refl

neither_is : (x : Outcome) → (x ≡ Open) ↔ ((is_satisfied x ≡ false) × (is_violated x ≡ false))
neither_is Satisfied = (λ e. absurd (false≢true (sym (ap is_satisfied e))), λ h. absurd (false≢true (sym h.0)))
neither_is Violated = (λ e. absurd (false≢true (sym (ap is_violated e))), λ h. absurd (false≢true (sym h.1)))
neither_is Open = (λ e. (refl, refl), λ h. refl)

-- a variable cannot be tested where its byte says that it is unknown
unknown_is : (sit : Situation) (v : ℕ) → (is_known sit v ≡ false) ↔ (estimate_of sit v ≡ unknown_value)
unknown_is sit v =
    let x : ℕ = estimate_of sit v in
    (λ h. (equal unknown_value x).0 (not-false (eqb x unknown_value) h), λ e. rw ((equal unknown_value x).1 e))

-- two numbers differ
differ : (n x : ℕ) → (not (eqb x n) ≡ true) ↔ (x ≢ n)
differ n x = (λ e. eqb-false x n (not-true (eqb x n) e), λ d. rw (ne_eqb x n d))

module _ (sit : Situation) where
  -- a test is violated where the opposite test is satisfied
  tested_opposite : (x : Test) (i n : ℕ) → is_violated (tested sit x i n) ≡ is_satisfied (tested sit (opposite x) i n)
  unfolding opposite
  tested_opposite UNTESTED i n = refl
  tested_opposite EQUALS i n = opposite_where (is_known sit i) (eqb (estimate_of sit i) n) (not (eqb (estimate_of sit i) n)) refl
  tested_opposite DIFFERS i n = opposite_where (is_known sit i) (not (eqb (estimate_of sit i) n)) (eqb (estimate_of sit i) n) (rw (not-not (eqb (estimate_of sit i) n)))
  tested_opposite AT-LEAST i n = opposite_where (is_started sit i) (leb n (reading sit i)) (ltb (reading sit i) n) (at_least_not n (reading sit i))
  tested_opposite BELOW i n = opposite_where (is_started sit i) (ltb (reading sit i) n) (leb n (reading sit i)) (rw (at_least_not n (reading sit i), not-not (leb n (reading sit i))))

  module _ (o : Operand) where
    -- the test of the opposite
    test_opposite : test_of (opposite_of o).b0 ≡ opposite (test_of o.b0)
    test_opposite = test_back (opposite (test_of o.b0))

    -- "It is violated when its opposite (1 against 2, 3 against 4) is satisfied"
    against_opposite : violated sit o ≡ satisfied sit (opposite_of o)
    unfolding violated satisfied outcome
    against_opposite = rw test_opposite (tested_opposite (test_of o.b0) o.b1 (value o))

    -- and satisfied when its opposite is violated
    for_opposite : satisfied sit o ≡ violated sit (opposite_of o)
    unfolding violated satisfied outcome
    for_opposite = rw (test_opposite, tested_opposite (opposite (test_of o.b0)) o.b1 (value o), opposite_twice (test_of o.b0))

    -- "Over an unknown variable it is open, as it already is over an unstarted clock"
    over_variable : OverVariable o → (outcome sit o ≡ Open) ↔ (estimate_of sit o.b1 ≡ unknown_value)
    unfolding outcome test_of
    over_variable (inl h) = rw h (Iff.trans (open_where (is_known sit o.b1) (eqb (estimate_of sit o.b1) (value o))) (unknown_is sit o.b1))
    over_variable (inr h) = rw h (Iff.trans (open_where (is_known sit o.b1) (not (eqb (estimate_of sit o.b1) (value o)))) (unknown_is sit o.b1))

    over_clock : OverClock o → (outcome sit o ≡ Open) ↔ (is_started sit o.b1 ≡ false)
    unfolding outcome test_of
    over_clock (inl h) = rw h (open_where (is_started sit o.b1) (leb (value o) (reading sit o.b1)))
    over_clock (inr h) = rw h (open_where (is_started sit o.b1) (ltb (reading sit o.b1) (value o)))

    -- every condition is judged so in every situation
    pub conditions_judged : Judged sit o
    unfolding violated satisfied outcome test_of
    conditions_judged =
        let x : ℕ = estimate_of sit o.b1 in
        let k : Bool = is_known sit o.b1 in
        let s : Bool = is_started sit o.b1 in
        let n : ℕ = value o in
        let r : ℕ = reading sit o.b1 in
        record {
          equals = λ h. rw h (Iff.trans (satisfied_where k (eqb x n)) (Iff.and Iff.rfl (equal n x)));
          differs = λ h. rw h (Iff.trans (satisfied_where k (not (eqb x n))) (Iff.and Iff.rfl (differ n x)));
          at_least = λ h. rw h (Iff.trans (satisfied_where s (leb n r)) (Iff.and Iff.rfl (at_most r n)));
          below = λ h. rw h (Iff.trans (satisfied_where s (ltb r n)) (Iff.and Iff.rfl (ltb-true r n, lt-ltb r n)));
          violated_is = against_opposite;
          satisfied_is = for_opposite;
          never_both = not_both (outcome sit o);
          open_is = neither_is (outcome sit o);
          open_variable = over_variable;
          open_clock = over_clock;
        }

-- an allowed condition is over a variable or over a clock, and its opposite is allowed too
module _ (v k : ℕ) (o : Operand) where
  pub condition_over : condition_allowed v k o ≡ true → OverVariable o ⊎ OverClock o
  unfolding condition_allowed test_allowed test_of
  condition_over h = go o.b0 h
    where
      go : (b : ℕ) → test_allowed v k (test_of b) o ≡ true → ((b ≡ 1) ⊎ (b ≡ 2)) ⊎ ((b ≡ 3) ⊎ (b ≡ 4))
      go zero e = absurd (false≢true e)
      go (suc zero) e = inl (inl refl)
      go (suc (suc zero)) e = inl (inr refl)
      go (suc (suc (suc zero))) e = inr (inl refl)
      go (suc (suc (suc (suc zero)))) e = inr (inr refl)
      go (suc (suc (suc (suc (suc b))))) e = absurd (false≢true e)

  pub opposite_allowed : condition_allowed v k (opposite_of o) ≡ condition_allowed v k o
  unfolding condition_allowed test_allowed opposite
  opposite_allowed = rw (test_back (opposite (test_of o.b0))) (go (test_of o.b0))
    where
      go : (x : Test) → test_allowed v k (opposite x) (opposite_of o) ≡ test_allowed v k x o
      go UNTESTED = refl
      go EQUALS = refl
      go DIFFERS = refl
      go AT-LEAST = refl
      go BELOW = refl

-- where a record is allowed and the time not before the last one, no start is after the time
module _ (t r : List ℕ) (allowed : record_allowed t r ≡ true) (est : List ℕ) (time : ℕ) (later : last_time r ≤ time) where
  reads : ReadsExactly (situation t r est time)
  reads c s =
      let m : 0 < get_or (started_in t r) c 0 = started (eq-zero-or-pos (get_or (started_in t r) c 0)) in
      let k : c < clocks t = omega (arith, get_or_inside (started_in t r) c m, length_bytes r started_place (clocks t)) in
      omega (arith, ((exactly_allowed t r).0 allowed).started_before c k m, later)
    where
      started : (get_or (started_in t r) c 0 ≡ 0) ⊎ (0 < get_or (started_in t r) c 0) → 0 < get_or (started_in t r) c 0
      started (inl e) = absurd (eqb-false (get_or (started_in t r) c 0) 0 (not-true (eqb (get_or (started_in t r) c 0) 0) s) e)
      started (inr l) = l

-- so clocks are read by an offer that is not refused, with its time
pub offer_reads : (t r : List ℕ) (time room : ℕ) → offer_refusal t r time room ≡ 0 → ReadsExactly (situation t r (estimate_in t r) time)
offer_reads t r time room h =
    let passed = offer_tests_lem t r time room h in
    reads t r passed.1.0 (estimate_in t r) time (leb-true (last_time r) time passed.1.1.1.1.0)

-- and by a settling that is not refused, with the last time
pub settling_reads : (t r est : List ℕ) → settle_refusal t r est ≡ 0 → ReadsExactly (situation t r est (last_time r))
settling_reads t r est h = reads t r (settle_tests_lem t r est h).1.0 est (last_time r) (omega arith)
