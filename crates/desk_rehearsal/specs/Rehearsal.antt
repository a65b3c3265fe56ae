-- One line of a rehearsal: what text, record, count of cycles and end follow from a line, a record and a count.
use Rattle.std.specs.Prelude.{ℕ, ◌≤◌, ◌≡◌, Bool, true, false, cond, ◌&&◌, List, [], ◌++◌, leb, length, take}
use Rattle.desk_format.specs.Writing.{Written}
use Rattle.desk_calls.specs.declared.Line.{Line}
use Rattle.desk_calls.specs.declared.Line.TheVariants.{Passed, Begin, Offer, OfferInto, Settle, NotACall}
use Rattle.desk_calls.specs.Lines.{line_of, bytes_of}
use Rattle.desk_transcript.specs.Transcript.{parts_text}
use Rattle.desk_rehearsal.specs.declared.Turn.{Turn}
use Rattle.desk_dispatch.specs.Making.{line_report, record_at, cycles_at, ends_run}

-- A longer line is no call
abbrev pub max_line : ℕ
max_line = 4095

unfoldable pub parsed_line : List ℕ → Line
parsed_line line = cond (leb (length line) max_line) (line_of line) NotACall

-- Whether a line asks for a call, under whose answer the marked parts may stand
abbrev pub is_call : Line → Bool
is_call Passed = false
is_call (Begin k) = true
is_call (Offer time) = true
is_call (OfferInto time room) = true
is_call (Settle k) = true
is_call NotACall = false

abbrev pub parts_under : Bool → List ℕ → List ℕ → List ℕ
parts_under asked t r = cond asked (parts_text t r) []

-- the text of a line and, where parts are asked for, the line of the marked parts under it
abbrev pub answer_text : List ℕ → List ℕ → ℕ → Bool → Line → List ℕ → List ℕ
answer_text t r number asked line est = line_report t r number line est ++ parts_under (asked && is_call line) t (record_at t r line est)

-- A turn: the text that it writes into a buffer, from its beginning on, the count of cycles after it, and whether it ends the run
pub record Turned (text : List ℕ) (cycles : ℕ) (ends : Bool) (out out' : List ℕ) (turn : Turn) : Type 0 where
  pub written : Written text out 0 out' turn.length
  pub cycles_are : turn.cycles ≡ cycles
  pub ends_is : turn.ends ≡ ends

-- A line that is answered: the record after it, and what is written
pub record Answered (t r : List ℕ) (cycles number : ℕ) (asked : Bool) (line r' out out' : List ℕ) (turn : Turn) : Type 0 where
  pub record_is : r' ≡ record_at t r (parsed_line line) (bytes_of line)
  pub turned : Turned (answer_text t r number asked (parsed_line line) (bytes_of line)) (cycles_at t r (parsed_line line) (bytes_of line) cycles) (ends_run (parsed_line line)) out out' turn

-- The number of bytes of a line's estimate, and that they stand at the beginning of a buffer
abbrev pub estimate_length : Line → ℕ
estimate_length Passed = 0
estimate_length (Begin n) = n
estimate_length (Offer time) = 0
estimate_length (OfferInto time room) = 0
estimate_length (Settle n) = n
estimate_length NotACall = 0

abbrev pub Carried : Line → List ℕ → List ℕ → Type 0
Carried Passed bytes est = Unit {0}
Carried (Begin n) bytes est = (n ≤ length bytes) × (take n bytes ≡ est)
Carried (Offer time) bytes est = Unit {0}
Carried (OfferInto time room) bytes est = Unit {0}
Carried (Settle n) bytes est = (n ≤ length bytes) × (take n bytes ≡ est)
Carried NotACall bytes est = Unit {0}

-- A line that was read: what it says, with its estimate at the beginning of a buffer
pub record LineParsed (line bytes : List ℕ) (x : Line) : Type 0 where
  pub line_is : x ≡ parsed_line line
  pub carried : Carried x bytes (bytes_of line)
