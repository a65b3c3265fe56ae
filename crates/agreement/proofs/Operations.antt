-- Demand 3 for the operations: what their contracts promise, call after call, is what the definitions say, and so what `runs_alike` speaks of.
use Prim.Native.Nat.{ℕ, ◌+◌, ◌-◌}
use native.Mathlib.Nat.{add-sub_cancel_left}
use native.Mathlib.Omega.{arith}
use mathlib.Core.Path.{◌≡◌, refl, sym, ap, ap₂, subst, ◌∙◌}
use mathlib.Core.Bool.{Bool, true, false, cond, not}
use mathlib.Core.Option.{Option, some, some-injective}
use mathlib.Core.List.{List, [], ◌∷◌, map}
use lib.Dec.{eqb, leb}
use lib.ListN.{length}
use borrow.Author.Tests.{le-leb, eqb-true, not-true}
use Rattle.base.specs.Lists.{all, flag, bytes_at}
use Rattle.base.proofs.Stores.{bytes_sets}
use Rattle.meaning.specs.declared.Form.TheVariants.{File, Table}
use Rattle.meaning.specs.Sizes.{length_of}
use Rattle.meaning.specs.Tree.{Part}
use Rattle.meaning.specs.Program.{parts, variables, clocks, program_refusal}
use Rattle.meaning.specs.Table.{table_of, compiled, compile_refusal, compiled_into}
use Rattle.meaning.specs.Record.{phase_of, last_time, estimate_in, started_in, starts_in, waiting, finished}
use Rattle.meaning.specs.Cycle.{root_ended, settled_marks, begin_refusal, begun_into, offer_tests, offer_refusal, offered_name, goals_into, settle_tests, settle_refusal, settled_into}
use Rattle.meaning.specs.Answers.{answered, answering}
use Rattle.meaning.specs.Operations.{Compiled, Begun}
use Rattle.meaning.proofs.Files.{accepted}
use Rattle.meaning.proofs.Tables.{table_holds, table_accepted, compiled_is}
use Rattle.meaning.proofs.Refusals.{compile_accepts, settled_phase}
use Rattle.agreement.specs.Runs.{Call, Reply, refused, goals, running, done, reply, settled_reply, table_reply, table_next, table_replies, table_after, table_finishing, State, begin, settling_count, possible, Alike, Timed}
use Rattle.agreement.specs.Calls.{table_in, Made, offer_made, settling_made, call_of, record_from, Promised, AllPromised, reply_of, record_after, finishing_cycle, CallsAlike, OperationsAlike}
use Rattle.agreement.proofs.Agreement.{failing_passes, runs_alike}

-- the numbers of refusals are below those of the other answers
pub offer_below : (t r : List ℕ) (time room : ℕ) → leb answered (offer_refusal t r time room) ≡ false
unfolding offer_refusal
offer_below t r time room = not-true (leb answered (offer_refusal t r time room)) (failing_passes (λ n. not (leb answered n)) (offer_tests t r time room) refl refl)

pub settle_below : (t r est : List ℕ) → leb answered (settle_refusal t r est) ≡ false
unfolding settle_refusal
settle_below t r est = not-true (leb answered (settle_refusal t r est)) (failing_passes (λ n. not (leb answered n)) (settle_tests t r est) refl refl)

-- What an answer tells, where n is the refusal by the definitions, and what is given otherwise: of an offer a name, of a settling whether the
-- root has ended
offer_reply : (n name answer : ℕ) (gs : List ℕ) → answer ≡ answering n name → leb answered n ≡ false
    → cond (leb answered answer) (goals gs (answer - answered)) (refused answer) ≡ reply n (goals gs name)
offer_reply n name answer gs a l = rw a (go (eqb n 0) refl)
  where
    go : (b : Bool) → eqb n 0 ≡ b
        → cond (leb answered (cond b (answered + name) n)) (goals gs (cond b (answered + name) n - answered)) (refused (cond b (answered + name) n)) ≡ cond b (goals gs name) (refused n)
    go true e = rw (le-leb answered (answered + name) (omega arith), add-sub_cancel_left)
    go false e = rw l

settle_reply : (n phase : ℕ) (b : Bool) → (n ≡ 0 → phase ≡ cond b finished waiting) → leb answered n ≡ false → (answer : ℕ) → answer ≡ answering n (flag b)
    → cond (leb answered answer) (cond (eqb answer (answered + 1)) done running) (refused answer) ≡ reply n (settled_reply phase)
settle_reply n phase b ends l answer a = rw a (go (eqb n 0) refl)
  where
    on : (c : Bool) → cond (leb answered (answered + flag c)) (cond (eqb (answered + flag c) (answered + 1)) done running) (refused (answered + flag c)) ≡ settled_reply (cond c finished waiting)
    on true = refl
    on false = refl

    go : (c : Bool) → eqb n 0 ≡ c
        → cond (leb answered (cond c (answered + flag b) n)) (cond (eqb (cond c (answered + flag b) n) (answered + 1)) done running) (refused (cond c (answered + flag b) n)) ≡ cond c (settled_reply phase) (refused n)
    go true e = rw (ends (eqb-true n 0 e)) (on b)
    go false e = rw l

-- One call: what it tells is the table's reply, and the record that it leaves the table's next
pub phase_settled : (t r est : List ℕ) → settle_refusal t r est ≡ 0 → phase_of (settled_into t r est) ≡ cond (root_ended (settled_marks t r est)) finished waiting
unfolding settled_into
phase_settled t r est h = rw h (settled_phase t r est h)

made_reply : (t r : List ℕ) (m : Made) → Promised t r m → reply_of (variables t) m ≡ table_reply t r (call_of m)
made_reply t r (offer_made time buffer answer r' buffer') h =
    rw h.goals_are
    (offer_reply (offer_refusal t r time (length buffer)) (offered_name t r time) answer (bytes_at (goals_into t r time buffer) 0 (variables t)) h.answer_is (offer_below t r time (length buffer)))
made_reply t r (settling_made est answer r') h =
    settle_reply (settle_refusal t r est) (phase_of (settled_into t r est)) (root_ended (settled_marks t r est)) (phase_settled t r est) (settle_below t r est) answer h.answer_is

leaves : (t r : List ℕ) (m : Made) → Promised t r m → record_from m ≡ table_next t r (call_of m)
leaves t r (offer_made time buffer answer r' buffer') h = h.record_is
leaves t r (settling_made est answer r') h = h.record_is

-- A list of calls on one table, which has v variables
module _ (t : List ℕ) (v : ℕ) (same : variables t ≡ v) where
  made_reply_same : (r : List ℕ) (m : Made) → Promised t r m → reply_of v m ≡ table_reply t r (call_of m)
  made_reply_same r m h = ap (λ (n : ℕ). reply_of n m) (sym same) ∙ made_reply t r m h

  replies_are : (ms : List Made) (r : List ℕ) → AllPromised t r ms → map (reply_of v) ms ≡ table_replies t r (map call_of ms)
  replies_are [] r h = refl
  replies_are (m ∷ ms) r h =
      ap₂ (λ (x : Reply) (xs : List Reply). x ∷ xs) (made_reply_same r m h.0) (replies_are ms (record_from m) h.1 ∙ ap (λ (q : List ℕ). table_replies t q (map call_of ms)) (leaves t r m h.0))

  record_is : (ms : List Made) (r : List ℕ) → AllPromised t r ms → record_after r ms ≡ table_after t r (map call_of ms)
  record_is [] r h = refl
  record_is (m ∷ ms) r h = record_is ms (record_from m) h.1 ∙ ap (λ (q : List ℕ). table_after t q (map call_of ms)) (leaves t r m h.0)

  finishing_is : (ms : List Made) (r : List ℕ) (n : ℕ) → AllPromised t r ms → finishing_cycle v r n ms ≡ table_finishing t r n (map call_of ms)
  unfolding finishing_cycle table_finishing
  finishing_is [] r n h = refl
  finishing_is (m ∷ ms) r n h =
      ap (λ (o : Option ℕ). cond (eqb (phase_of r) finished) (some n) o)
      (finishing_is ms (record_from m) (n + settling_count (reply_of v m)) h.1
      ∙ ap₂ (λ (q : List ℕ) (x : Reply). table_finishing t q (n + settling_count x) (map call_of ms)) (leaves t r m h.0) (made_reply_same r m h.0))

  -- what is so for the table's run is so for the calls that came back as promised
  calls_alike : (r : List ℕ) (p : Part) (st : State p) (ms : List Made) → AllPromised t r ms → Alike t r p v st (map call_of ms) → CallsAlike t r p v st ms
  calls_alike r p st ms h alike =
      let after = record_is ms r h in
      record {
        replies = replies_are ms r h ∙ alike.replies;
        never = ap (all possible) (replies_are ms r h) ∙ alike.never;
        phases = ap phase_of after ∙ alike.phases;
        times = ap last_time after ∙ alike.times;
        estimates = ap (estimate_in t) after ∙ alike.estimates;
        flags = ap (started_in t) after ∙ alike.flags;
        clock_starts = ap (starts_in t) after ∙ alike.clock_starts;
        finishing = finishing_is ms r 0 h ∙ alike.finishing;
      }

module _ (f : List ℕ) where
  module _ (a : program_refusal File f ≡ 0) where
    abbrev tree : Part
    tree = (accepted File f a).0

    compiled_tree : compiled File f ≡ table_of (variables f) (clocks f) tree
    compiled_tree = compiled_is File f tree (accepted File f a).1

    compiled_variables : variables (compiled File f) ≡ variables f
    compiled_variables = rw compiled_tree (table_accepted (variables f) (clocks f) tree (accepted File f a).2.within).2

    pub compiled_length : length (compiled File f) ≡ length_of Table (parts f)
    compiled_length =
        let held = table_holds (variables f) (clocks f) tree (accepted File f a).2.within in
        rw compiled_tree (held.length_is ∙ ap (length_of Table) (held.parts_are ∙ sym (accepted File f a).2.parts_are))

  -- the buffer that compiling leaves begins with the file's table
  pub read_table : (out : List ℕ) → compile_refusal f (length out) ≡ 0 → table_in f (compiled_into f out) ≡ compiled File f
  unfolding compiled_into
  read_table out h =
      let x = (compile_accepts f (length out)).0 h in
      rw h (bytes_sets (compiled File f) out 0 (length_of Table (parts f)) (compiled_length x.0) (omega (arith, x.1)))

  -- A beginning on the file's table, and the calls after it
  module _ (a : program_refusal File f ≡ 0) (est r : List ℕ) where
    -- `runs_alike` speaks of this one tree for each list of calls
    program_alike : (cs : List Call) → Timed cs → begin_refusal (compiled File f) est (length r) ≡ 0
        → Alike (compiled File f) (begun_into (compiled File f) est r) (tree a) (variables f) (begin (tree a) (clocks f) est) cs
    program_alike cs h z =
        let d = runs_alike f est r cs a h in
        subst (λ (p : Part). Alike (compiled File f) (begun_into (compiled File f) est r) p (variables f) (begin p (clocks f) est) cs)
        (some-injective d.program (tree a) (sym d.tree_is ∙ (accepted File f a).1))
        (d.begun z)

    begun_alike : (answer : ℕ) (r' : List ℕ) → Begun (compiled File f) est r answer r' → OperationsAlike f (compiled File f) est r answer r'
    begun_alike answer r' b =
        let d = runs_alike f est r [] a tt in
        record {
          program = tree a;
          tree_is = (accepted File f a).1;
          beginning = b.answer_is ∙ d.beginning;
          unbegun = λ n. b.record_is ∙ d.unbegun (λ z. n (b.answer_is ∙ z));
          begun =
              λ z ms h timed.
              calls_alike (compiled File f) (variables f) (compiled_variables a) r' (tree a) (begin (tree a) (clocks f) est) ms h
              (subst (λ (q : List ℕ). Alike (compiled File f) q (tree a) (variables f) (begin (tree a) (clocks f) est) (map call_of ms)) (sym b.record_is) (program_alike (map call_of ms) timed (sym b.answer_is ∙ z)));
        }

-- whatever compiling, a beginning on the table that it wrote, and calls after that answer and leave within their contracts
pub operations_agree : (f out : List ℕ) (answer : ℕ) (out' : List ℕ) → Compiled f out answer out' → answer ≡ 0
    → (est r : List ℕ) (answer' : ℕ) (r' : List ℕ) → Begun (table_in f out') est r answer' r'
    → OperationsAlike f (table_in f out') est r answer' r'
operations_agree f out answer out' tree_is z est r answer' r' b =
    let h : compile_refusal f (length out) ≡ 0 = sym tree_is.answer_is ∙ z in
    let e : table_in f out' ≡ compiled File f = ap (table_in f) tree_is.buffer_is ∙ read_table f out h in
    subst (λ (t : List ℕ). Begun t est r answer' r' → OperationsAlike f t est r answer' r') (sym e) (begun_alike f ((compile_accepts f (length out)).0 h).0 est r answer' r') b
