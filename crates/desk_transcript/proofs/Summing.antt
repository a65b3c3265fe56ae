-- Laws of the lines of the summary.
use Prim.Native.Nat.{ℕ, ◌+◌, ◌-◌, ◌*◌, ◌^◌, ◌<◌}
use native.Mathlib.Nat.{zero-add}
use mathlib.Core.Path.{◌≡◌, refl, sym}
use mathlib.Core.Bool.{Bool, true, false, not}
use mathlib.Core.List.{List}
use lib.Dec.{eqb}
use lib.ListN.{length, get_or}
use borrow.Author.Tests.{ne_eqb}
use Rattle.base.specs.Lists.{bytes_at}
use Rattle.base.proofs.Lists.{get_or-tabulate}
use Rattle.base.proofs.Stores.{get_or_bytes}
use Rattle.meaning.specs.Sizes.{time_width}
use Rattle.meaning.specs.Program.{variables, clocks}
use Rattle.meaning.specs.Record.{estimate_place, started_place, starts_place, time_at, phase_of, last_time, finished}
use Rattle.desk_format.specs.Decimal.{decimal}
use Rattle.desk_format.specs.Hexadecimal.{pairs}
use Rattle.desk_format.specs.Words.{word, numbered}
use Rattle.desk_format.specs.Writing.{texts_from}
use Rattle.desk_format.proofs.Texts.{Three, Writing, texts_first, texts_room}
use Rattle.desk_transcript.specs.Transcript.{estimate_text, start_text, clock_text, clocks_text, finishing_text, state_text, summary_text}

-- The pieces of the lines, and of the summary, at the numbers that were read
pub estimate_pieces : (t r : List ℕ) {v : ℕ} → v ≡ variables t → Three (estimate_text t r) (word "estimate") (pairs (bytes_at r estimate_place v)) (word "\n")
unfolding estimate_text
estimate_pieces t r e = record { made = rw e }

pub clock_pieces : (t r : List ℕ) (c : ℕ) → Three (clock_text t r c) (word "clock ") (decimal c) (start_text t r c)
unfolding clock_text
clock_pieces t r c = record { made = refl }

pub state_pieces : (t r : List ℕ) (cycles : ℕ) → Three (state_text t r cycles) (estimate_text t r) (clocks_text t r) (finishing_text r cycles)
unfolding state_text
state_pieces t r cycles = record { made = refl }

pub summary_pieces : (t r : List ℕ) (cycles : ℕ) {phase time : ℕ} → phase ≡ phase_of r → time ≡ last_time r → Three (summary_text t r cycles) (numbered (word "phase ") phase) (numbered (word "last time ") time) (state_text t r cycles)
unfolding summary_text
summary_pieces t r cycles e d = record { made = rw (e, d) }

-- A clock's start, by what its flag says
module _ (t r : List ℕ) (c : ℕ) (here : c < clocks t) {b : Bool} (b-is : b ≡ not (eqb (get_or r (started_place + c) 0) 0)) where
  flag_is : not (eqb (get_or (bytes_at r started_place (clocks t)) c 0) 0) ≡ b
  flag_is = rw (get_or_bytes r started_place (clocks t) c here) (sym b-is)

  pub start_none : b ≡ false → start_text t r c ≡ word " -\n"
  unfolding start_text
  start_none h = rw (flag_is, h)

  pub start_one : {start : ℕ} → start ≡ time_at r (starts_place + time_width * c) → b ≡ true → start_text t r c ≡ numbered (word " ") start
  unfolding start_text
  start_one s h = rw (flag_is, h, get_or-tabulate (λ c. time_at r (starts_place + time_width * c)) 0 (clocks t) c 0 here, zero-add, s)

-- The finishing cycle, by the phase
pub finishing_one : (r : List ℕ) (cycles : ℕ) {phase : ℕ} → phase ≡ phase_of r → phase ≡ finished → finishing_text r cycles ≡ numbered (word "finishing cycle ") cycles
unfolding finishing_text
finishing_one r cycles e h = rw (← e, h)

pub finishing_none : (r : List ℕ) (cycles : ℕ) {phase : ℕ} → phase ≡ phase_of r → (phase ≡ finished → ⊥) → finishing_text r cycles ≡ word "finishing cycle -\n"
unfolding finishing_text
finishing_none r cycles {phase} e h = rw (← e, ne_eqb phase finished h)
