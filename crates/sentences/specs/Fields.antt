-- What a record holds.
use Rattle.std.specs.Prelude.{ℕ, ◌+◌, ◌*◌, ◌≤◌, ◌<◌, ◌≡◌, ◌⊎◌, List, get_or, drop}
use Rattle.meaning.specs.Sizes.{time_width, byte_values}
use Rattle.meaning.specs.Program.{parts, variables, clocks}
use Rattle.meaning.specs.Record.{estimate_place, started_place, starts_place, marks_place, record_length, phase_of, last_time, estimate_in, started_in, starts_in, marks_in}

-- the fields of a record, and the bytes after it
pub record Fields (t r : List ℕ) (phase time : ℕ) (est started starts marks more : List ℕ) : Type 0 where
  pub phase_is : phase_of r ≡ phase
  pub time_is : last_time r ≡ time
  pub estimate_is : estimate_in t r ≡ est
  pub started_is : started_in t r ≡ started
  pub starts_are : starts_in t r ≡ starts
  pub marks_are : marks_in t r ≡ marks
  pub more_is : drop record_length r ≡ more

-- a list of bytes
abbrev pub Bytes : List ℕ → Type 0
Bytes r = (i : ℕ) → get_or r i 0 < byte_values

-- the place of a byte of "entries beyond V, K and N", or of one after the record
abbrev pub Spare : List ℕ → ℕ → Type 0
Spare t i =
    ((estimate_place + variables t ≤ i) × (i < started_place))
    ⊎ (((started_place + clocks t ≤ i) × (i < starts_place)) ⊎ (((starts_place + time_width * clocks t ≤ i) × (i < marks_place)) ⊎ (marks_place + parts t ≤ i)))
