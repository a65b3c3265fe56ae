-- The state of a rehearsal: before the first line, after each turn, and at the end.
use Rattle.std.specs.Prelude.{ℕ, suc, ◌+◌, ◌-◌, ◌<◌, ◌≤◌, ◌^◌, ◌≡◌, Bool, true, false, not, ◌&&◌, List, ◌⊎◌, length, take, drop}
use Rattle.std.proofs.lemmas.List.Edits.{sets}
use Rattle.base.specs.Lists.{bytes_at}
use Rattle.desk_calls.specs.Places.{line_end}
use Rattle.desk_rehearsal.specs.declared.Turn.{Turn}
use Rattle.desk_dispatch.specs.Counting.{more}
use Rattle.desk_rehearsal.specs.Rehearsal.{Answered}
use Rattle.std.specs.Prelude.{Option, None, Some}
use Rattle.rehearse.specs.declared.lines.Stand.{Stand}
use Rattle.desk_input.specs.Reading.{Reads}

-- before anything is read
abbrev pub starting : Stand
starting = record { from = 0; held = 0; number = 0; cycles = 0; going = true; complete = false }

-- after a read: the buffer holds k bytes
abbrev pub read_to : Stand → ℕ → Bool → Stand
read_to s k going = record { from = 0; held = k; number = s.number; cycles = s.cycles; going = going; complete = false }

-- after the last line: complete, unless that line ended the run
abbrev pub after_last : Stand → Stand
after_last s = record { from = 0; held = 0; number = s.number; cycles = s.cycles; going = false; complete = s.going }

-- after a line: the input goes on at place `from`, unless the line ends the run or its text could not be printed
abbrev pub after_line : Stand → ℕ → Turn → Bool → Stand
after_line s from turn printed =
    record { from = from; held = s.held; number = more s.number; cycles = turn.cycles; going = printed && not turn.ends; complete = false }

-- a line was answered in state s, with the next number
pub record Goes (t r : List ℕ) (asked : Bool) (line : List ℕ) (s : Stand) (from : ℕ) (r' : List ℕ) (e : Stand) : Type 0 where
  pub out : List ℕ
  pub out' : List ℕ
  pub turn : Turn
  pub printed : Bool
  pub answered : Answered t r s.cycles (more s.number) asked line r' out out' turn
  pub stand_is : e ≡ after_line s from turn printed

-- a read after the first n bytes: where it brings nothing, the input has ended and they are its last line
pub data ReadsOn (t r : List ℕ) (asked : Bool) (input : List ℕ) (s : Stand) (n : ℕ) (r' input' : List ℕ) (e : Stand) : Type 0 where
  failed : Reads input n None input' → r' ≡ r → e ≡ read_to s n false → ReadsOn t r asked input s n r' input' e
  brought : (k : ℕ) → Reads input n (Some k) input' → n < k → r' ≡ r → e ≡ read_to s k true → ReadsOn t r asked input s n r' input' e
  ended : (last : Stand) → Reads input n (Some n) input' → Goes t r asked (take n input') s 0 r' last → e ≡ after_last last → ReadsOn t r asked input s n r' input' e

-- where the next line ends in the buffer, and the bytes up to a place that are still to be answered
abbrev pub next_end : List ℕ → Stand → ℕ
next_end input s = line_end input s.from s.held

abbrev pub up_to : List ℕ → Stand → ℕ → List ℕ
up_to input s end = take (end - s.from) (drop s.from input)

-- the buffer with these bytes moved to its beginning
abbrev pub moved : List ℕ → Stand → List ℕ
moved input s = sets input 0 (bytes_at input s.from (s.held - s.from))

-- One turn. A line that ends in the buffer is answered, and the input goes on after its line feed. Where no line ends
-- there and the buffer is full, the line is too long; else what is still to be answered moves to the buffer's
-- beginning, and more is read
pub data Takes (t r : List ℕ) (asked : Bool) (input : List ℕ) (s : Stand) (r' input' : List ℕ) (e : Stand) : Type 0 where
  line : next_end input s < s.held → Goes t r asked (up_to input s (next_end input s)) s (next_end input s + 1) r' e → input' ≡ input → Takes t r asked input s r' input' e
  full : s.held ≤ next_end input s → s.held - s.from ≡ length input → Goes t r asked (up_to input s s.held) s s.held r' e → input' ≡ input
      → Takes t r asked input s r' input' e
  on : s.held ≤ next_end input s → s.held - s.from < length input
      → ReadsOn t r asked (moved input s) s (s.held - s.from) r' input' e
      → Takes t r asked input s r' input' e

-- So many turns from the start, each while the run goes on
pub data Ran (t r : List ℕ) (asked : Bool) (input : List ℕ) : ℕ → List ℕ → List ℕ → Stand → Type 0 where
  begun : Ran t r asked input 0 r input starting
  further : (turns : ℕ) (r' input' r'' input'' : List ℕ) (s e : Stand) → Ran t r asked input turns r' input' s → s.going ≡ true
      → Takes t r' asked input' s r'' input'' e → Ran t r asked input (suc turns) r'' input'' e

-- a proved loop has to end, but the input need not: the turns are counted, up to a number that is too large to be reached
abbrev pub max_turns : ℕ
max_turns = 2 ^ 64 - 1

pub record Runs (t r : List ℕ) (asked : Bool) (input r' input' : List ℕ) (s : Stand) : Type 0 where
  pub turns : ℕ
  pub ran : Ran t r asked input turns r' input' s
  pub stops : (s.going ≡ false) ⊎ (turns ≡ max_turns)
