-- The answers that a rehearsal writes are those that the unfolding gives.
use Prim.Native.Nat.{ℕ, ◌+◌, ◌-◌, min}
use native.Mathlib.Nat.{add-sub_cancel_left}
use native.Mathlib.Omega.{arith}
use mathlib.Core.Path.{◌≡◌, refl, sym, ap, ap₂, ◌∙◌}
use mathlib.Core.Bool.{Bool, true, false, cond, not, ◌||◌, false≢true}
use mathlib.Core.Option.{some}
use mathlib.Core.List.{List, [], ◌∷◌, ◌++◌, append_assoc, append-nil}
use lib.Dec.{eqb, leb, ltb}
use lib.ListN.{length, replicate}
use borrow.Author.Tests.{leb-false, lt-ltb, le-ltb, eqb-true}
use Rattle.base.specs.Lists.{flag, flat, bytes_at}
use Rattle.base.proofs.Lists.{and_left, and_right}
use Rattle.meaning.specs.declared.Form.TheVariants.{File}
use Rattle.meaning.specs.Tree.{Part}
use Rattle.meaning.specs.Program.{variables, clocks, tree_of, program_refusal}
use Rattle.meaning.specs.Table.{compiled}
use Rattle.meaning.specs.Record.{phase_of, waiting, finished}
use Rattle.meaning.specs.Cycle.{begin_refusal, begun_into, offer_refusal, offered_name, goals_into, settle_refusal, settled_marks, settled_into, root_ended}
use Rattle.meaning.specs.Answers.{answered, answering}
use Rattle.agreement.specs.Runs.{Call, offer, settling, refused, goals, reply, settled_reply, table_reply, table_next, table_replies, table_after, begin, tree_replies, Timed}
use Rattle.agreement.proofs.Agreement.{runs_alike}
use Rattle.agreement.proofs.Operations.{offer_below, settle_below, phase_settled}
use Rattle.desk_calls.specs.declared.Line.{Line}
use Rattle.desk_calls.specs.declared.Line.TheVariants.{Passed, Begin, Offer, OfferInto, Settle, NotACall}
use Rattle.desk_calls.specs.Lines.{line_of, bytes_of}
use Rattle.desk_calls.proofs.Times.{TimeShort, line_short}
use Rattle.desk_answers.specs.Answers.{refused_text, settled_text, goals_text, offered_text}
use Rattle.desk_dispatch.specs.Counting.{more}
use Rattle.desk_dispatch.specs.Making.{max_goals, offer_report, settle_report, line_report, record_at, cycles_at, ends_run}
use Rattle.desk_rehearsal.specs.Rehearsal.{max_line, parsed_line, answer_text}
use Rattle.desk_rehearsal.specs.Log.{calls_in, is_begin, all_calls, record_through, cycles_through, answers_through, number_through, within_run, reply_text}
use Rattle.desk_rehearsal.proofs.Finishing.{line_calls}

-- The text of an answer is that of the table's reply
offer_text : (n name : ℕ) (gs : List ℕ) → leb answered n ≡ false → offered_text (answering n name) gs ≡ reply_text (reply n (goals gs name))
unfolding offered_text
offer_text n name gs l = go (eqb n 0)
  where
    go : (b : Bool) → cond (ltb (cond b (answered + name) n) answered) (refused_text (cond b (answered + name) n)) (goals_text gs (cond b (answered + name) n - answered)) ≡ reply_text (cond b (goals gs name) (refused n))
    go true = rw (le-ltb (answered + name) answered (omega arith), add-sub_cancel_left)
    go false = rw (lt-ltb n answered (leb-false answered n l))

settle_text : (n phase : ℕ) (ends : Bool) → (n ≡ 0 → phase ≡ cond ends finished waiting) → leb answered n ≡ false → settled_text (answering n (flag ends)) ≡ reply_text (reply n (settled_reply phase))
unfolding settled_text
settle_text n phase ends after l = go (eqb n 0) refl
  where
    on : (b : Bool) → settled_text (answered + flag b) ≡ reply_text (settled_reply (cond b finished waiting))
    on true = refl
    on false = refl

    go : (b : Bool) → eqb n 0 ≡ b → settled_text (cond b (answered + flag ends) n) ≡ reply_text (cond b (settled_reply phase) (refused n))
    go true e = rw (after (eqb-true n 0 e)) (on ends)
    go false e = rw (lt-ltb n answered (leb-false answered n l))

-- So is the text of a line that goes on, where the line is a call
offer_replied : (t r : List ℕ) (time : ℕ) (buffer : List ℕ) → offer_report t r time buffer ≡ reply_text (table_reply t r (offer time buffer)) ++ []
offer_replied t r time buffer =
    offer_text (offer_refusal t r time (length buffer)) (offered_name t r time) (bytes_at (goals_into t r time buffer) 0 (variables t)) (offer_below t r time (length buffer))
    ∙ sym (append-nil (reply_text (table_reply t r (offer time buffer))))

settling_replied : (t r est : List ℕ) → settle_report t r est ≡ reply_text (table_reply t r (settling est)) ++ []
settling_replied t r est =
    settle_text (settle_refusal t r est) (phase_of (settled_into t r est)) (root_ended (settled_marks t r est)) (phase_settled t r est) (settle_below t r est)
    ∙ sym (append-nil (reply_text (table_reply t r (settling est))))

line_replied : (t r est : List ℕ) (n : ℕ) (x : Line) → not (is_begin x || ends_run x) ≡ true → line_report t r n x est ≡ flat reply_text (table_replies t r (calls_in t x est))
line_replied t r est n Passed h = refl
line_replied t r est n (Begin k) h = absurd (false≢true h)
line_replied t r est n (Offer time) h = offer_replied t r time (replicate (variables t) 0)
line_replied t r est n (OfferInto time room) h = offer_replied t r time (replicate (min room max_goals) 0)
line_replied t r est n (Settle k) h = settling_replied t r est
line_replied t r est n NotACall h = absurd (false≢true h)

-- the replies of calls one after the other
replies_append : (t : List ℕ) (cs ds : List Call) (r : List ℕ) → flat reply_text (table_replies t r (cs ++ ds)) ≡ flat reply_text (table_replies t r cs) ++ flat reply_text (table_replies t (table_after t r cs) ds)
replies_append t [] ds r = refl
replies_append t (c ∷ cs) ds r = rw (replies_append t cs ds (table_next t r c)) (sym (append_assoc (reply_text (table_reply t r c)) _ _))

begins_not : (x : Line) → not (is_begin x || ends_run x) ≡ true → not (is_begin x) ≡ true
begins_not Passed h = refl
begins_not (Begin k) h = h
begins_not (Offer time) h = refl
begins_not (OfferInto time room) h = refl
begins_not (Settle k) h = refl
begins_not NotACall h = refl

-- where no parts are asked for, the text of a line is that of its answer
answer_alone : (t r : List ℕ) (n : ℕ) (x : Line) (est : List ℕ) → answer_text t r n false x est ≡ line_report t r n x est
answer_alone t r n x est = append-nil (line_report t r n x est)

table_log : (t : List ℕ) (lines : List (List ℕ)) (n : ℕ) (r : List ℕ) → within_run lines ≡ true → answers_through t n r false lines ≡ flat reply_text (table_replies t r (all_calls t lines))
table_log t [] n r h = refl
table_log t (line ∷ lines) n r h =
    let x = parsed_line line in
    let goes = and_left (not (is_begin x || ends_run x)) (within_run lines) h in
    let left = (line_calls t r (bytes_of line) n x (begins_not x goes)).0 in
    ap₂ (λ (a b : List ℕ). a ++ b) (answer_alone t r n x (bytes_of line) ∙ line_replied t r (bytes_of line) n x goes)
    (table_log t lines (more n) (record_at t r x (bytes_of line)) (and_right (not (is_begin x || ends_run x)) (within_run lines) h))
    ∙ rw left (sym (replies_append t (calls_in t x (bytes_of line)) (all_calls t lines) r))

-- the times of lines have 32 bits
first_timed : (t est : List ℕ) (x : Line) (cs : List Call) → TimeShort x → Timed cs → Timed (calls_in t x est ++ cs)
first_timed t est Passed cs h rest = rest
first_timed t est (Begin k) cs h rest = rest
first_timed t est (Offer time) cs h rest = (h, rest)
first_timed t est (OfferInto time room) cs h rest = (h, rest)
first_timed t est (Settle k) cs h rest = rest
first_timed t est NotACall cs h rest = rest

line_timed : (line : List ℕ) → TimeShort (parsed_line line)
unfolding parsed_line
line_timed line = go (leb (length line) max_line)
  where
    go : (b : Bool) → TimeShort (cond b (line_of line) NotACall)
    go true = line_short line
    go false = tt

lines_timed : (t : List ℕ) (lines : List (List ℕ)) → Timed (all_calls t lines)
lines_timed t [] = tt
lines_timed t (line ∷ lines) = first_timed t (bytes_of line) (parsed_line line) (all_calls t lines) (line_timed line) (lines_timed t lines)

-- The answers to lines after a beginning that is accepted, as long as the run is not begun anew, are those of the run by unfolding: refusals, goal
-- bytes and names, "running" and "finished"
pub log_unfolded : (f est r : List ℕ) (n : ℕ) (lines : List (List ℕ)) → program_refusal File f ≡ 0 → begin_refusal (compiled File f) est (length r) ≡ 0 → within_run lines ≡ true
    → (p : Part) × (tree_of File f ≡ some p)
    × (answers_through (compiled File f) n (begun_into (compiled File f) est r) false lines ≡ flat reply_text (tree_replies p (variables f) (begin p (clocks f) est) (all_calls (compiled File f) lines)))
log_unfolded f est r n lines a z h =
    let t : List ℕ = compiled File f in
    let alike = runs_alike f est r (all_calls t lines) a (lines_timed t lines) in (
      alike.program,
      alike.tree_is,
      table_log t lines n (begun_into t est r) h ∙ ap (flat reply_text) (alike.begun z).replies,
    )

-- A line more, after others
module _ (t line : List ℕ) where
  pub record_more : (lines : List (List ℕ)) (r : List ℕ) → record_through t r (lines ++ (line ∷ [])) ≡ record_at t (record_through t r lines) (parsed_line line) (bytes_of line)
  record_more [] r = refl
  record_more (l ∷ ls) r = record_more ls (record_at t r (parsed_line l) (bytes_of l))

  pub cycles_more : (lines : List (List ℕ)) (r : List ℕ) (n : ℕ) → cycles_through t r n (lines ++ (line ∷ [])) ≡ cycles_at t (record_through t r lines) (parsed_line line) (bytes_of line) (cycles_through t r n lines)
  cycles_more [] r n = refl
  cycles_more (l ∷ ls) r n = cycles_more ls (record_at t r (parsed_line l) (bytes_of l)) (cycles_at t r (parsed_line l) (bytes_of l) n)

  pub answers_more : (asked : Bool) (lines : List (List ℕ)) (n : ℕ) (r : List ℕ)
      → answers_through t n r asked (lines ++ (line ∷ [])) ≡ answers_through t n r asked lines ++ answer_text t (record_through t r lines) (number_through n lines) asked (parsed_line line) (bytes_of line)
  answers_more asked [] n r = append-nil (answer_text t r n asked (parsed_line line) (bytes_of line))
  answers_more asked (l ∷ ls) n r =
      rw (answers_more asked ls (more n) (record_at t r (parsed_line l) (bytes_of l))) (sym (append_assoc (answer_text t r n asked (parsed_line l) (bytes_of l)) _ _))

pub number_more : (line : List ℕ) (lines : List (List ℕ)) (n : ℕ) → number_through n (lines ++ (line ∷ [])) ≡ more (number_through n lines)
number_more line [] n = refl
number_more line (l ∷ ls) n = number_more line ls (more n)

pub number_next : (lines : List (List ℕ)) (n : ℕ) → number_through (more n) lines ≡ more (number_through n lines)
number_next [] n = refl
number_next (l ∷ ls) n = number_next ls (more n)
