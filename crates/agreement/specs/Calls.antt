-- The run by the operations themselves: calls that were made one after the other, with the answers and the bytes that came back, beside the
-- unfolding. Of the operations nothing is known here but what their contracts promise.
use Rattle.std.specs.Prelude.{ℕ, ◌+◌, ◌-◌, ◌≡◌, true, cond, List, [], ◌∷◌, map, eqb, leb, length}
use Rattle.std.proofs.Math.Option.{Option, none, some}
use Rattle.base.specs.Lists.{all, first_failing, bytes_at}
use Rattle.meaning.specs.declared.Form.TheVariants.{File, Table}
use Rattle.meaning.specs.Sizes.{length_of}
use Rattle.meaning.specs.Tree.{Part}
use Rattle.meaning.specs.Program.{parts, variables, clocks, tree_of}
use Rattle.meaning.specs.Record.{phase_of, last_time, estimate_in, started_in, starts_in, record_length, finished}
use Rattle.meaning.specs.Answers.{answered, buffer_too_short, estimate_not_allowed}
use Rattle.meaning.specs.Operations.{Offered, Settled}
use Rattle.meaning.specs.Cycle.{estimate_allowed}
use Rattle.agreement.specs.Runs.{Call, offer, settling, Reply, refused, goals, running, done, State, begin, tree_replies, tree_after, tree_finishing, settling_count, possible, Timed}

-- The table in the buffer that compiling leaves: as many bytes as the table of the file's parts has
abbrev pub table_in : List ℕ → List ℕ → List ℕ
table_in f out = bytes_at out 0 (length_of Table (parts f))

-- A call that was made, with what came back: the answer's number, the record afterwards and, of an offer, the goal buffer afterwards
pub data Made : Type 0 where
  offer_made : (time : ℕ) (buffer : List ℕ) (answer : ℕ) (r' buffer' : List ℕ) → Made
  settling_made : (est : List ℕ) (answer : ℕ) (r' : List ℕ) → Made

abbrev pub call_of : Made → Call
call_of (offer_made time buffer answer r' buffer') = offer time buffer
call_of (settling_made est answer r') = settling est

abbrev pub record_from : Made → List ℕ
record_from (offer_made time buffer answer r' buffer') = r'
record_from (settling_made est answer r') = r'

-- It came back as the operation's contract promises, for the table and the record that it was given
abbrev pub Promised : List ℕ → List ℕ → Made → Type 0
Promised t r (offer_made time buffer answer r' buffer') = Offered t r time buffer answer r' buffer'
Promised t r (settling_made est answer r') = Settled t r est answer r'

-- so did every call of a list, each given the table and the record as the last call left it
abbrev pub AllPromised : List ℕ → List ℕ → List Made → Type 0
AllPromised t r [] = Unit {0}
AllPromised t r (m ∷ ms) = Promised t r m × AllPromised t (record_from m) ms

-- The reply of a call that was made, by the answer's number and the goal buffer alone: numbers below 256 refuse, else an offer has left its
-- V goal bytes in the buffer and names a variable by 256 and its number, and a settling's 257 is "finished" and 256 "running"
abbrev pub reply_of : ℕ → Made → Reply
reply_of v (offer_made time buffer answer r' buffer') = cond (leb answered answer) (goals (bytes_at buffer' 0 v) (answer - answered)) (refused answer)
reply_of v (settling_made est answer r') = cond (leb answered answer) (cond (eqb answer (answered + 1)) done running) (refused answer)

-- The record that a list of calls comes to
abbrev pub record_after : List ℕ → List Made → List ℕ
record_after r [] = r
record_after r (m ∷ ms) = record_after (record_from m) ms

-- "The finishing cycle is the number of settlings not refused up to the moment at which the phase is first 2": by the records that came back
unfoldable pub finishing_cycle : ℕ → List ℕ → ℕ → List Made → Option ℕ
finishing_cycle v r n [] = cond (eqb (phase_of r) finished) (some n) none
finishing_cycle v r n (m ∷ ms) = cond (eqb (phase_of r) finished) (some n) (finishing_cycle v (record_from m) (n + settling_count (reply_of v m)) ms)

-- The calls made and the unfolding are alike, from a record and a state on: all that `Alike` says, about what came back
pub record CallsAlike (t r : List ℕ) (p : Part) (v : ℕ) (st : State p) (ms : List Made) : Type 0 where
  pub replies : map (reply_of v) ms ≡ tree_replies p v st (map call_of ms)
  pub never : all possible (map (reply_of v) ms) ≡ true
  pub phases : phase_of (record_after r ms) ≡ (tree_after p v st (map call_of ms)).phase
  pub times : last_time (record_after r ms) ≡ (tree_after p v st (map call_of ms)).time
  pub estimates : estimate_in t (record_after r ms) ≡ (tree_after p v st (map call_of ms)).estimate
  pub flags : started_in t (record_after r ms) ≡ (tree_after p v st (map call_of ms)).started
  pub clock_starts : starts_in t (record_after r ms) ≡ (tree_after p v st (map call_of ms)).starts
  pub finishing : finishing_cycle v r 0 ms ≡ tree_finishing p v st 0 (map call_of ms)

-- A beginning on a file's table that answered a number and left a record: it answers 13, 8 or 0; refused, it has left the record as it was;
-- not refused, every list of calls that came back as promised is alike with the unfolding
pub record OperationsAlike (f t est r : List ℕ) (answer : ℕ) (r' : List ℕ) : Type 0 where
  pub program : Part
  pub tree_is : tree_of File f ≡ some program
  pub beginning : answer ≡ first_failing ((estimate_not_allowed, estimate_allowed (variables f) est) ∷ (buffer_too_short, leb record_length (length r)) ∷ [])
  pub unbegun : (answer ≡ 0 → ⊥) → r' ≡ r
  pub begun : answer ≡ 0 → (ms : List Made) → AllPromised t r' ms → Timed (map call_of ms) → CallsAlike t r' program (variables f) (begin program (clocks f) est) ms
