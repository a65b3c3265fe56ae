-- Which records are allowed, sentence by sentence, by index and by part number.
use Rattle.std.specs.Prelude.{ℕ, ◌+◌, ◌*◌, ◌≤◌, ◌<◌, ◌≡◌, ◌≢◌, ◌⊎◌, List, length, get_or}
use Rattle.meaning.specs.Sizes.{max_parts, max_variables, max_clocks, max_value, unknown_value, time_width}
use Rattle.meaning.specs.declared.kinds.Kind.TheVariants.{Seq as SEQ, Par as PAR, Maintain as MAINTAIN, Choice as CHOICE, Repeat as REPEAT}
use Rattle.meaning.specs.Program.{parts, variables, clocks}
use Rattle.meaning.specs.Table.{end_at, parent_at, kind_at}
use Rattle.meaning.specs.Record.{estimate_place, started_place, starts_place, marks_place, record_length, phase_of, last_time, estimate_in, started_in, starts_in, marks_in, offered, finished}

-- What the sentences speak of
abbrev pub PartMarked : List ℕ → List ℕ → ℕ → Type 0
PartMarked t r p = 0 < get_or (marks_in t r) p 0

abbrev pub PartUnmarked : List ℕ → List ℕ → ℕ → Type 0
PartUnmarked t r p = get_or (marks_in t r) p 0 ≡ 0

-- part q is a child of part p: it stands inside p, and p is its parent
pub record Child (t : List ℕ) (p q : ℕ) : Type 0 where
  pub after : p < q
  pub before_end : q < end_at t p
  pub parent_is : parent_at t q ≡ p

pub record MarkedChild (t r : List ℕ) (p q : ℕ) : Type 0 where
  pub child : Child t p q
  pub marked : PartMarked t r q

-- "at least one", "at most one", "exactly one marked child"
abbrev pub SomeChild : List ℕ → List ℕ → ℕ → Type 0
SomeChild t r p = (q : ℕ) × MarkedChild t r p q

abbrev pub NoTwoChildren : List ℕ → List ℕ → ℕ → Type 0
NoTwoChildren t r p = (q u : ℕ) → MarkedChild t r p q → MarkedChild t r p u → q ≡ u

abbrev pub OneChild : List ℕ → List ℕ → ℕ → Type 0
OneChild t r p = SomeChild t r p × NoTwoChildren t r p

-- a byte of an estimate: a value, or unknown
abbrev pub EstimateByte : ℕ → Type 0
EstimateByte x = (x ≤ max_value) ⊎ (x ≡ unknown_value)

-- "A record is allowed when: .."
pub record AllowedRecord (t r : List ℕ) : Type 0 where
  -- "Run record, 317 bytes"
  pub long_enough : record_length ≤ length r
  -- "phase, started flags and marks hold only the values just named"
  pub phase_named : phase_of r ≤ finished
  pub flags_named : (c : ℕ) → c < clocks t → get_or (started_in t r) c 0 ≤ 1
  pub marks_named : (p : ℕ) → p < parts t → get_or (marks_in t r) p 0 ≤ 1
  -- "entries beyond V, K and N are 0"
  pub beyond_variables : (i : ℕ) → variables t ≤ i → i < max_variables → get_or r (estimate_place + i) 0 ≡ 0
  pub beyond_clock_flags : (i : ℕ) → clocks t ≤ i → i < max_clocks → get_or r (started_place + i) 0 ≡ 0
  pub beyond_clock_starts : (i : ℕ) → time_width * clocks t ≤ i → i < time_width * max_clocks → get_or r (starts_place + i) 0 ≡ 0
  pub beyond_parts : (i : ℕ) → parts t ≤ i → i < max_parts → get_or r (marks_place + i) 0 ≡ 0
  -- "estimate values are at most 250", and "Records may hold 255 in the estimate" (document 02, R-4)
  pub estimate_bytes : (v : ℕ) → v < variables t → EstimateByte (get_or (estimate_in t r) v 0)
  -- "an unstarted clock's time is 0 and a started one's not after the last time"
  pub unstarted_zero : (c : ℕ) → c < clocks t → get_or (started_in t r) c 0 ≡ 0 → get_or (starts_in t r) c 0 ≡ 0
  pub started_before : (c : ℕ) → c < clocks t → 0 < get_or (started_in t r) c 0 → get_or (starts_in t r) c 0 ≤ last_time r
  -- "in phase 2 no mark is set, otherwise the root is marked"
  pub finished_blank : phase_of r ≡ finished → (p : ℕ) → p < parts t → PartUnmarked t r p
  pub root_marked : phase_of r ≢ finished → PartMarked t r 0
  -- "nothing is marked inside an unmarked part"
  pub nothing_inside : (p q : ℕ) → p < parts t → PartUnmarked t r p → p < q → q < end_at t p → PartUnmarked t r q
  -- "a marked SEQ or REPEAT has exactly one marked child, PAR at least one, CHOICE at most one"
  pub seq_one : (p : ℕ) → p < parts t → PartMarked t r p → kind_at t p ≡ SEQ → OneChild t r p
  pub repeat_one : (p : ℕ) → p < parts t → PartMarked t r p → kind_at t p ≡ REPEAT → OneChild t r p
  pub par_some : (p : ℕ) → p < parts t → PartMarked t r p → kind_at t p ≡ PAR → SomeChild t r p
  pub choice_at_most_one : (p : ℕ) → p < parts t → PartMarked t r p → kind_at t p ≡ CHOICE → NoTwoChildren t r p
  -- "MAINTAIN's child is marked, or in phase 1 may be unmarked"
  pub maintain_marked : (p : ℕ) → p < parts t → PartMarked t r p → kind_at t p ≡ MAINTAIN → phase_of r ≢ offered → OneChild t r p
