-- The three demands.
use Prim.Native.Nat.{ℕ, ◌+◌, ◌-◌}
use native.Mathlib.Nat.{add-sub_cancel_left}
use native.Mathlib.Omega.{arith}
use mathlib.Core.Path.{◌≡◌, refl, sym, ap, ◌∙◌}
use mathlib.Core.Logic.Iff
use mathlib.Core.Logic.{◌⊎◌, inl, inr, ◌↔◌}
use mathlib.Core.Bool.{Bool, true, false, cond, not, ◌&&◌, false≢true}
use mathlib.Core.List.{List, [], ◌∷◌}
use lib.Dec.{eqb, ltb, leb}
use lib.ListN.{length, drop}
use lib.Seq.{sets}
use borrow.Author.Tests.{ltb-true, leb-true, eqb-true, eqb-false, ne_eqb, not-true}
use Rattle.base.specs.Lists.{all, flag, first_failing}
use Rattle.base.proofs.Facts.{both, equal, all_facts}
use Rattle.base.proofs.Lists.{and_left, and_right}
use Rattle.meaning.specs.declared.Form.TheVariants.{File}
use Rattle.meaning.specs.Tree.{Part}
use Rattle.meaning.specs.Program.{variables, clocks, program_tests, program_refusal, Within, file_of}
use Rattle.meaning.specs.Table.{compiled, compile_tests, compile_refusal, compiled_into, file_in, is_table, decompile_tests, decompile_refusal, decompiled_into}
use Rattle.meaning.specs.Record.{estimate_byte_allowed, waiting, finished}
use Rattle.meaning.specs.Cycle.{estimate_allowed, begin_tests, begin_refusal, fresh_record, begun_into, offer_tests, offer_refusal, offered_name, offered_into, goals_into, settle_tests, settle_refusal, settled_marks, settled_into, root_ended}
use Rattle.meaning.specs.Answers.{answered, answering, not_a_table}
use Rattle.meaning.proofs.Answers.{told_refusal, told_given, told_accepted}
use Rattle.meaning.proofs.Files.{accepted_file, file_accepted}
use Rattle.meaning.proofs.Refusals.{compile_first, compile_accepts, offer_refused, goals_refused, settle_refused}
use Rattle.agreement.specs.Calls.{table_in}
use Rattle.agreement.proofs.Agreement.{failing_passes, runs_alike}
use Rattle.agreement.proofs.Operations.{offer_below, settle_below, phase_settled, read_table, operations_agree}
use Rattle.sentences.specs.Fields.{Bytes}
use Rattle.sentences.specs.Allowed.{EstimateByte}
use Rattle.sentences.proofs.AllowedRecords.{estimate_byte, exactly_allowed}
use Rattle.sentences.proofs.OneTable.{compiling_lays_down}
use Rattle.sentences.proofs.RoundTrip.{inverses}
use Rattle.sentences.proofs.Stepping.{beginning_steps, offer_steps, settling_steps}
use Rattle.sentences.proofs.Only.{beginning_only, offer_only, settling_only}
use Rattle.demands.specs.Demands.{passes, RefusedBy, Answers, NoFile, SettlingStepped, Demand1, Demand2, Demand3}

-- Demand 1. Each number of a list is a refusal's: not 0, and below those of the other answers
abbrev is_refusal : ℕ × Bool → Bool
is_refusal test = leb 1 test.0 && ltb test.0 answered

-- Of tests one fails first, or none does
abbrev Decided : List (ℕ × Bool) → Type 0
Decided tests = RefusedBy tests (first_failing tests) ⊎ ((all passes tests ≡ true) × (first_failing tests ≡ 0))

decided : (tests : List (ℕ × Bool)) → all is_refusal tests ≡ true → Decided tests
decided [] h = inr (refl, refl)
decided ((n, true) ∷ us) h = after (decided us (and_right (is_refusal (n, true)) (all is_refusal us) h))
  where
    after : Decided us → Decided ((n, true) ∷ us)
    after (inl x) =
        inl (record {
          first =
              record {
                earlier = (n, true) ∷ x.first.earlier;
                later = x.first.later;
                tests_are = ap (λ (l : List (ℕ × Bool)). (n, true) ∷ l) x.first.tests_are;
                earlier_pass = x.first.earlier_pass;
              };
          not_done = x.not_done;
          not_answered = x.not_answered;
        })
    after (inr x) = inr x
decided ((n, false) ∷ us) h =
    let own = and_left (is_refusal (n, false)) (all is_refusal us) h in
    inl (record {
      first = record { earlier = []; later = us; tests_are = refl; earlier_pass = refl };
      not_done = leb-true 1 n (and_left (leb 1 n) (ltb n answered) own);
      not_answered = ltb-true n answered (and_right (leb 1 n) (ltb n answered) own);
    })

-- none fails exactly where the first that fails has number 0
none_failing : (tests : List (ℕ × Bool)) → all is_refusal tests ≡ true → (all passes tests ≡ true) ↔ (first_failing tests ≡ 0)
none_failing tests h = (to tests, from (decided tests h))
  where
    to : (ts : List (ℕ × Bool)) → all passes ts ≡ true → first_failing ts ≡ 0
    to [] a = refl
    to ((n, true) ∷ ts) a = to ts a
    to ((n, false) ∷ ts) a = absurd (false≢true a)

    from : Decided tests → first_failing tests ≡ 0 → all passes tests ≡ true
    from (inl x) z = absurd (omega (arith, x.not_done, z))
    from (inr x) z = x.0

-- a file is accepted exactly where it is that of a tree within the limits
files_allowed : (f : List ℕ) → (program_refusal File f ≡ 0) ↔ ((p : Part) × Within (variables f) (clocks f) p × (f ≡ file_of (variables f) (clocks f) p))
files_allowed f = (
  λ h.
      let a = accepted_file f h in
      (a.0, a.2, a.3),
  λ x. ap (program_refusal File) x.2 ∙ (file_accepted (variables f) (clocks f) x.0 x.1).0,
)

-- A call whose refusal by the definitions is n, the first of its tests that fails
module _ (tests : List (ℕ × Bool)) (numbered : all is_refusal tests ≡ true) (n : ℕ) (n-is : n ≡ first_failing tests) (answer : ℕ) where
  answers : {Unchanged Result : Type 0} → ((n ≡ 0 → ⊥) → (answer ≡ n) × Unchanged) → (n ≡ 0 → Result) → Answers tests answer Unchanged Result
  answers {Unchanged} {Result} refused done = go (decided tests numbered)
    where
      go : Decided tests → Answers tests answer Unchanged Result
      go (inl x) =
          let told = refused (λ z. omega (arith, x.not_done, n-is, z)) in
          inl (rw (told.0, n-is) x, told.1)
      go (inr x) = inr (x.0, done (n-is ∙ x.1))

  -- that answers this number, and writes one buffer where it is 0
  answers_into : (new old written : List ℕ) → answer ≡ n → written ≡ cond (eqb n 0) new old → Answers tests answer (written ≡ old) ((answer ≡ 0) × (written ≡ new))
  answers_into new old written a w = answers (λ h. (a, w ∙ rw (ne_eqb n 0 h))) (λ z. (a ∙ z, w ∙ rw z))

-- the answer of a settling that is not refused
settling_told : (b : Bool) → answered + flag b ≡ cond b (answered + 1) answered
settling_told true = refl
settling_told false = refl

pub demand_1 : Demand1
unfolding program_refusal estimate_allowed compiled_into decompile_refusal decompiled_into begin_refusal begun_into offer_refusal offered_into goals_into settle_refusal settled_into
demand_1 =
    record {
      orders =
          record {
            compiling = λ f room. refl;
            decompiling = λ t room. refl;
            beginning = λ t est room. refl;
            offer = λ t r time room. refl;
            settling = λ t r est. refl;
          };
      allowed =
          record {
            files = λ f. Iff.trans (none_failing (program_tests File f) refl) (files_allowed f);
            records = exactly_allowed;
            estimates = λ v est. both (eqb (length est) v) _ (equal v (length est)) (all_facts estimate_byte_allowed EstimateByte estimate_byte est (length est) refl);
          };
      compiles =
          λ f out answer out' c.
          answers_into (compile_tests f (length out)) refl (compile_refusal f (length out)) (compile_first f (length out)) answer
          (sets out 0 (compiled File f)) out out' c.answer_is c.buffer_is;
      decompiles =
          λ t out answer out' d.
          answers_into (decompile_tests t (length out)) refl (decompile_refusal t (length out)) refl answer
          (sets out 0 (file_in t)) out out' d.answer_is d.buffer_is;
      begins =
          λ t est r answer r' b.
          answers_into (begin_tests t est (length r)) refl (begin_refusal t est (length r)) refl answer
          (sets r 0 (fresh_record t est)) r r' b.answer_is b.record_is;
      offers =
          λ t r time goals answer r' goals' o.
          answers (offer_tests t r time (length goals)) refl (offer_refusal t r time (length goals)) refl answer
          (λ h. (told_refusal _ _ answer o.answer_is h, (o.record_is ∙ offer_refused t r time (length goals) h, o.goals_are ∙ goals_refused t r time goals h)))
          (λ z. (told_given _ _ answer o.answer_is z, o.record_is ∙ rw z, o.goals_are ∙ rw z));
      settles =
          λ t r est answer r' s.
          answers (settle_tests t r est) refl (settle_refusal t r est) refl answer
          (λ h. (told_refusal _ _ answer s.answer_is h, s.record_is ∙ settle_refused t r est h))
          (λ z. (told_given _ _ answer s.answer_is z ∙ settling_told (root_ended (settled_marks t r est)), s.record_is ∙ rw z));
    }

-- Demand 2. The first of the tests is that of a table, and no other has its number
nine_first : (b : Bool) (rest : List (ℕ × Bool)) → all (λ u. not (eqb u.0 not_a_table)) rest ≡ true → (first_failing ((not_a_table, b) ∷ rest) ≡ not_a_table) ↔ (b ≡ false)
nine_first true rest h = (
  λ e. absurd (eqb-false (first_failing rest) not_a_table (not-true (eqb (first_failing rest) not_a_table) (failing_passes (λ n. not (eqb n not_a_table)) rest refl h)) e),
  λ e. absurd (false≢true (sym e)),
)
nine_first false rest h = (λ e. refl, λ e. refl)

-- An answer that tells refusal n, where there is one, is 9 exactly where n is
told_nine : (n answer : ℕ) → ((n ≡ 0 → ⊥) → answer ≡ n) → (n ≡ 0 → answer ≡ not_a_table → ⊥) → (answer ≡ not_a_table) ↔ (n ≡ not_a_table)
told_nine n answer refused done = (go (eqb n 0) refl, λ e. refused (λ z. omega (arith, e, z)) ∙ e)
  where
    go : (b : Bool) → eqb n 0 ≡ b → answer ≡ not_a_table → n ≡ not_a_table
    go true z e = absurd (done (eqb-true n 0 z) e)
    go false z e = sym (refused (eqb-false n 0 z)) ∙ e

-- a call whose first test is that of a table: 9 is its refusal exactly where no file gives the table
module _ (t : List ℕ) (tests : List (ℕ × Bool)) (first : tests ≡ (not_a_table, is_table t) ∷ drop 1 tests) (others : all (λ u. not (eqb u.0 not_a_table)) (drop 1 tests) ≡ true) where
  refuses : (n answer : ℕ) → n ≡ first_failing tests → ((n ≡ 0 → ⊥) → answer ≡ n) → (n ≡ 0 → answer ≡ not_a_table → ⊥) → (answer ≡ not_a_table) ↔ NoFile t
  refuses n answer n-is refused done =
      Iff.trans (told_nine n answer refused done) (Iff.trans (rw (n-is ∙ ap first_failing first) (nine_first (is_table t) (drop 1 tests) others)) (inverses.none_gives t))

  -- where the answer is the refusal's number or 0, and where it is that number or one from 256 on
  refuses_or_0 : (answer : ℕ) → answer ≡ first_failing tests → (answer ≡ not_a_table) ↔ NoFile t
  refuses_or_0 answer a = refuses answer answer a (λ h. refl) (λ z e. omega (arith, z, e))

  refuses_or_more : (given answer : ℕ) → answer ≡ answering (first_failing tests) given → (answer ≡ not_a_table) ↔ NoFile t
  refuses_or_more given answer a = refuses (first_failing tests) answer refl (told_refusal _ given answer a) (λ z e. omega (arith, told_given _ given answer a z, e))

-- A settling that is not refused: what its answer tells is what the stepping says of the root
same_phase : (a b : Bool) → cond a finished waiting ≡ cond b finished waiting → a ≡ b
same_phase true true e = refl
same_phase true false e = absurd (omega arith)
same_phase false true e = absurd (omega arith)
same_phase false false e = refl

settling_stepped : (t r est : List ℕ) (answer : ℕ) → settle_refusal t r est ≡ 0 → Bytes r → answer ≡ answered + flag (root_ended (settled_marks t r est))
    → SettlingStepped t r est answer (settled_into t r est)
settling_stepped t r est answer z bytes a =
    let s = settling_steps t r est z bytes in
    let root : root_ended (settled_marks t r est) ≡ s.ends 0 = same_phase (root_ended (settled_marks t r est)) (s.ends 0) (sym (phase_settled t r est z) ∙ s.phase_settled) in
    record { steps = s; tells = a ∙ (settling_told (root_ended (settled_marks t r est)) ∙ rw root) }

pub demand_2 : Demand2
unfolding decompile_refusal begin_refusal offer_refusal settle_refusal
demand_2 =
    record {
      reads =
          λ f out answer out' c z t.
          let h : compile_refusal f (length out) ≡ 0 = sym c.answer_is ∙ z in
          let e : table_in f out' ≡ compiled File f = ap (table_in f) c.buffer_is ∙ read_table f out h in
          rw e (compiling_lays_down f t ((compile_accepts f (length out)).0 h).0);
      inverses = inverses;
      decompile_refuses = λ t out answer out' d. refuses_or_0 t (decompile_tests t (length out)) refl refl answer d.answer_is;
      begin_refuses = λ t est r answer r' b. refuses_or_0 t (begin_tests t est (length r)) refl refl answer b.answer_is;
      offer_refuses =
          λ t r time goals answer r' goals' o.
          refuses_or_more t (offer_tests t r time (length goals)) refl refl (offered_name t r time) answer o.answer_is;
      settle_refuses =
          λ t r est answer r' s.
          refuses_or_more t (settle_tests t r est) refl refl (flag (root_ended (settled_marks t r est))) answer s.answer_is;
      begin_steps = λ t est r answer r' b z. rw b.record_is (beginning_steps t est r (sym b.answer_is ∙ z));
      offer_steps =
          λ t r time goals answer r' goals' o a fits.
          let z = told_accepted _ _ answer o.answer_is (offer_below t r time (length goals)) a in
          let name : answer - answered ≡ offered_name t r time = ap (λ (n : ℕ). n - answered) (told_given _ _ answer o.answer_is z) ∙ add-sub_cancel_left answered (offered_name t r time) in
          rw (o.record_is, o.goals_are, name) (offer_steps t r time goals z fits);
      settle_steps =
          λ t r est answer r' s a bytes.
          let z = told_accepted _ _ answer s.answer_is (settle_below t r est) a in
          rw s.record_is (settling_stepped t r est answer z bytes (told_given _ _ answer s.answer_is z));
      begin_only = beginning_only;
      offer_only = offer_only;
      settle_only = λ t r est a b x y h. settling_only t r est a b h x y;
    }

-- Demand 3
pub demand_3 : Demand3
demand_3 = record { runs = runs_alike; operations = operations_agree }
