-- What a list of lines comes to: its calls, the text of their answers, and the record and the count of cycles after them.
use Rattle.std.specs.Prelude.{ℕ, min, Bool, true, false, not, ◌||◌, List, [], ◌∷◌, ◌++◌, replicate}
use Rattle.std.proofs.Math.Option.{Option, none, some}
use Rattle.base.specs.Lists.{all}
use Rattle.meaning.specs.Program.{variables}
use Rattle.agreement.specs.Runs.{Call, offer, settling, Reply, refused, goals, running, done}
use Rattle.desk_format.specs.Words.{word, numbered}
use Rattle.desk_calls.specs.declared.Line.{Line}
use Rattle.desk_calls.specs.declared.Line.TheVariants.{Passed, Begin, Offer, OfferInto, Settle, NotACall}
use Rattle.desk_calls.specs.Lines.{bytes_of}
use Rattle.desk_answers.specs.Answers.{refused_text, goals_text}
use Rattle.desk_dispatch.specs.Counting.{more}
use Rattle.desk_dispatch.specs.Making.{max_goals, record_at, cycles_at, ends_run}
use Rattle.desk_rehearsal.specs.Rehearsal.{parsed_line, answer_text}

-- The calls that a line says, where it does not begin a run, and those of lines one after the other
abbrev pub calls_in : List ℕ → Line → List ℕ → List Call
calls_in t Passed est = []
calls_in t (Begin k) est = []
calls_in t (Offer time) est = offer time (replicate (variables t) 0) ∷ []
calls_in t (OfferInto time room) est = offer time (replicate (min room max_goals) 0) ∷ []
calls_in t (Settle k) est = settling est ∷ []
calls_in t NotACall est = []

abbrev pub is_begin : Line → Bool
is_begin Passed = false
is_begin (Begin k) = true
is_begin (Offer time) = false
is_begin (OfferInto time room) = false
is_begin (Settle k) = false
is_begin NotACall = false

abbrev pub all_calls : List ℕ → List (List ℕ) → List Call
all_calls t [] = []
all_calls t (line ∷ lines) = calls_in t (parsed_line line) (bytes_of line) ++ all_calls t lines

-- The record and the count after lines that are answered one after the other: each is given those that the one before it left
abbrev pub record_through : List ℕ → List ℕ → List (List ℕ) → List ℕ
record_through t r [] = r
record_through t r (line ∷ lines) = record_through t (record_at t r (parsed_line line) (bytes_of line)) lines

abbrev pub cycles_through : List ℕ → List ℕ → ℕ → List (List ℕ) → ℕ
cycles_through t r n [] = n
cycles_through t r n (line ∷ lines) = cycles_through t (record_at t r (parsed_line line) (bytes_of line)) (cycles_at t r (parsed_line line) (bytes_of line) n) lines

-- no line begins a run
abbrev pub begins_none : List (List ℕ) → Bool
begins_none lines = all (λ line. not (is_begin (parsed_line line))) lines

-- The text of the lines' answers, the first on line n, with the marked parts under them where these are asked for; and the number after the last line
abbrev pub answers_through : List ℕ → ℕ → List ℕ → Bool → List (List ℕ) → List ℕ
answers_through t n r asked [] = []
answers_through t n r asked (line ∷ lines) =
    answer_text t r n asked (parsed_line line) (bytes_of line) ++ answers_through t (more n) (record_at t r (parsed_line line) (bytes_of line)) asked lines

abbrev pub number_through : ℕ → List (List ℕ) → ℕ
number_through n [] = n
number_through n (line ∷ lines) = number_through (more n) lines

-- each line is a call of the run that goes on, or is passed over
abbrev pub within_run : List (List ℕ) → Bool
within_run lines = all (λ line. not (is_begin (parsed_line line) || ends_run (parsed_line line))) lines

-- the text of a reply of either run of demand 3
abbrev pub reply_text : Reply → List ℕ
reply_text (refused n) = refused_text n
reply_text (goals bytes name) = goals_text bytes name
reply_text running = word "running\n"
reply_text done = word "finished\n"

-- what the summary says of a finishing cycle
abbrev pub said : Option ℕ → List ℕ
said none = word "finishing cycle -\n"
said (some n) = numbered (word "finishing cycle ") n
