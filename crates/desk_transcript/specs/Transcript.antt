-- The lines that a rehearsal prints beside the answers: the marked parts under them, and the summary after the last call.
use Rattle.std.specs.Prelude.{ℕ, cond, List, [], ◌++◌, eqb, get_or}
use Rattle.meaning.specs.Program.{parts, clocks}
use Rattle.meaning.specs.Record.{phase_of, last_time, estimate_in, started_in, starts_in, marks_in, finished, is_mark}
use Rattle.desk_format.specs.Decimal.{decimal}
use Rattle.desk_format.specs.Hexadecimal.{pairs}
use Rattle.desk_format.specs.Words.{word, numbered}
use Rattle.desk_format.specs.Writing.{texts_from}

-- "the numbers of the marked parts": "parts 0 1 4"
unfoldable pub part_text : List ℕ → List ℕ → ℕ → List ℕ
part_text t r p = cond (is_mark (get_or (marks_in t r) p 0)) (word " " ++ decimal p) []

unfoldable pub marks_text : List ℕ → List ℕ → List ℕ
marks_text t r = texts_from (part_text t r) 0 (parts t)

unfoldable pub parts_text : List ℕ → List ℕ → List ℕ
parts_text t r = word "parts" ++ (marks_text t r ++ word "\n")

-- "estimate HEX", its V bytes
unfoldable pub estimate_text : List ℕ → List ℕ → List ℕ
estimate_text t r = word "estimate" ++ (pairs (estimate_in t r) ++ word "\n")

-- "every clock (start or `-`)": "clock 0 100", "clock 1 -"
unfoldable pub start_text : List ℕ → List ℕ → ℕ → List ℕ
start_text t r c = cond (is_mark (get_or (started_in t r) c 0)) (numbered (word " ") (get_or (starts_in t r) c 0)) (word " -\n")

unfoldable pub clock_text : List ℕ → List ℕ → ℕ → List ℕ
clock_text t r c = word "clock " ++ (decimal c ++ start_text t r c)

unfoldable pub clocks_text : List ℕ → List ℕ → List ℕ
clocks_text t r = texts_from (clock_text t r) 0 (clocks t)

-- "finishing cycle (or `-`)": how many cycles a finished run took
unfoldable pub finishing_text : List ℕ → ℕ → List ℕ
finishing_text r cycles = cond (eqb (phase_of r) finished) (numbered (word "finishing cycle ") cycles) (word "finishing cycle -\n")

-- "after the last call one summary line each for phase, last time, estimate, every clock and finishing cycle"
unfoldable pub state_text : List ℕ → List ℕ → ℕ → List ℕ
state_text t r cycles = estimate_text t r ++ (clocks_text t r ++ finishing_text r cycles)

unfoldable pub summary_text : List ℕ → List ℕ → ℕ → List ℕ
summary_text t r cycles = numbered (word "phase ") (phase_of r) ++ (numbered (word "last time ") (last_time r) ++ state_text t r cycles)

-- no answer with the parts under it is longer, and no summary
abbrev pub max_answer : ℕ
max_answer = 8192

abbrev pub max_summary : ℕ
max_summary = 16384
