-- What follows from a line that was read: its text, the record, the count of cycles, and whether the run ends.
use Rattle.std.specs.Prelude.{ℕ, min, Bool, true, false, List, [], length, replicate}
use Rattle.base.specs.Lists.{bytes_at}
use Rattle.meaning.specs.Program.{variables}
use Rattle.meaning.specs.Cycle.{begin_refusal, begun_into, offer_answer, offered_into, goals_into, settle_answer, settled_into}
use Rattle.desk_calls.specs.declared.Line.{Line}
use Rattle.desk_calls.specs.declared.Line.TheVariants.{Passed, Begin, Offer, OfferInto, Settle, NotACall}
use Rattle.desk_answers.specs.Answers.{begun_text, offered_text, settled_text, line_text}
use Rattle.desk_dispatch.specs.Counting.{begun_cycles, settled_cycles}

-- A goal buffer is at most so long: more than an offer ever writes
abbrev pub max_goals : ℕ
max_goals = 256

-- What is written for a call: the text of its answer
abbrev pub begin_report : List ℕ → List ℕ → List ℕ → List ℕ
begin_report t est r = begun_text (begin_refusal t est (length r))

abbrev pub offer_report : List ℕ → List ℕ → ℕ → List ℕ → List ℕ
offer_report t r time goals = offered_text (offer_answer t r time (length goals)) (bytes_at (goals_into t r time goals) 0 (variables t))

abbrev pub settle_report : List ℕ → List ℕ → List ℕ → List ℕ
settle_report t r est = settled_text (settle_answer t r est)

-- the text of line number n. A line that is passed over has none, and one that is no call has the words that say so
abbrev pub line_report : List ℕ → List ℕ → ℕ → Line → List ℕ → List ℕ
line_report t r n Passed est = []
line_report t r n (Begin k) est = begin_report t est r
line_report t r n (Offer time) est = offer_report t r time (replicate (variables t) 0)
line_report t r n (OfferInto time room) est = offer_report t r time (replicate (min room max_goals) 0)
line_report t r n (Settle k) est = settle_report t r est
line_report t r n NotACall est = line_text n

-- the record after it
abbrev pub record_at : List ℕ → List ℕ → Line → List ℕ → List ℕ
record_at t r Passed est = r
record_at t r (Begin k) est = begun_into t est r
record_at t r (Offer time) est = offered_into t r time (variables t)
record_at t r (OfferInto time room) est = offered_into t r time (min room max_goals)
record_at t r (Settle k) est = settled_into t r est
record_at t r NotACall est = r

-- the count of cycles after it
abbrev pub cycles_at : List ℕ → List ℕ → Line → List ℕ → ℕ → ℕ
cycles_at t r Passed est n = n
cycles_at t r (Begin k) est n = begun_cycles t est r n
cycles_at t r (Offer time) est n = n
cycles_at t r (OfferInto time room) est n = n
cycles_at t r (Settle k) est n = settled_cycles t r est n
cycles_at t r NotACall est n = n

-- and whether it ends the run
abbrev pub ends_run : Line → Bool
ends_run Passed = false
ends_run (Begin k) = false
ends_run (Offer time) = false
ends_run (OfferInto time room) = false
ends_run (Settle k) = false
ends_run NotACall = true
