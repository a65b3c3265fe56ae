-- Run record: where each byte stands, and which records are allowed.
use Rattle.std.specs.Prelude.{ℕ, suc, ◌+◌, ◌-◌, ◌*◌, Bool, true, cond, not, ◌&&◌, ◌||◌, List, [], ◌∷◌, ◌++◌, eqb, leb, length, get_or, take, replicate}
use Rattle.base.specs.Lists.{all, any, flat, tabulate, flag, bytes_at}
use Rattle.meaning.specs.Sizes.{max_parts, max_variables, max_clocks, max_value, unknown_value, time_width, little_endian, little_endian_value}
use Rattle.meaning.specs.declared.kinds.Kind.{Kind}
use Rattle.meaning.specs.declared.kinds.Kind.TheVariants.{Unknown as UNKNOWN, Goal as GOAL, Start as START, Wait as WAIT, Seq as SEQ, Par as PAR, Maintain as MAINTAIN, Choice as CHOICE, Repeat as REPEAT}
use Rattle.meaning.specs.Program.{parts, variables, clocks}
use Rattle.meaning.specs.Table.{kind_at, parent_at, inside_of}

-- "Phase; last time, 4; estimate, 32; clock started, 16; clock start times, 16 times 4; marks, 200"
abbrev pub time_place : ℕ
time_place = 1

abbrev pub estimate_place : ℕ
estimate_place = time_place + time_width

abbrev pub started_place : ℕ
started_place = estimate_place + max_variables

abbrev pub starts_place : ℕ
starts_place = started_place + max_clocks

abbrev pub marks_place : ℕ
marks_place = starts_place + time_width * max_clocks

abbrev pub record_length : ℕ
record_length = marks_place + max_parts

abbrev pub time_at : List ℕ → ℕ → ℕ
time_at r i = little_endian_value (get_or r i 0) (bytes_at r (suc i) (time_width - 1))

abbrev pub phase_of : List ℕ → ℕ
phase_of r = get_or r 0 0

abbrev pub last_time : List ℕ → ℕ
last_time r = time_at r time_place

-- what a record holds for the V variables, the K clocks and the N parts of a table's program
abbrev pub estimate_in : List ℕ → List ℕ → List ℕ
estimate_in t r = bytes_at r estimate_place (variables t)

abbrev pub started_in : List ℕ → List ℕ → List ℕ
started_in t r = bytes_at r started_place (clocks t)

abbrev pub starts_in : List ℕ → List ℕ → List ℕ
starts_in t r = tabulate (λ c. time_at r (starts_place + time_width * c)) 0 (clocks t)

abbrev pub marks_in : List ℕ → List ℕ → List ℕ
marks_in t r = bytes_at r marks_place (parts t)

-- the bytes of a record, "entries beyond V, K and N" 0
abbrev pub padded : ℕ → List ℕ → List ℕ
padded n xs = xs ++ replicate (n - length xs) 0

unfoldable pub record_bytes : ℕ → ℕ → List ℕ → List ℕ → List ℕ → List ℕ → List ℕ
record_bytes phase time estimate started starts marks =
    phase ∷ (little_endian time_width time
    ++ (padded max_variables estimate
    ++ (padded max_clocks started
    ++ (padded (time_width * max_clocks) (flat (little_endian time_width) starts) ++ padded max_parts marks))))

-- Phases
abbrev pub waiting : ℕ
waiting = 0

abbrev pub offered : ℕ
offered = 1

abbrev pub finished : ℕ
finished = 2

-- "clock started, 16 bytes of 0 or 1": what stands for one that is started
abbrev pub started_flag : ℕ
started_flag = 1

-- Marks: a list with 0 or 1 for each part
abbrev pub is_mark : ℕ → Bool
is_mark m = not (eqb m 0)

abbrev pub is_zero : ℕ → Bool
is_zero b = eqb b 0

-- "entries beyond V, K and N are 0"
unfoldable pub rest_zero : List ℕ → List ℕ → Bool
rest_zero t r =
    all is_zero (bytes_at r (estimate_place + variables t) (max_variables - variables t))
    && (all is_zero (bytes_at r (started_place + clocks t) (max_clocks - clocks t))
    && (all is_zero (bytes_at r (starts_place + time_width * clocks t) (time_width * (max_clocks - clocks t)))
    && all is_zero (bytes_at r (marks_place + parts t) (max_parts - parts t))))

-- "estimate values are at most 250", and "Records may hold 255 in the estimate" (document 02, R-4): a byte that an estimate may have
unfoldable pub estimate_byte_allowed : ℕ → Bool
estimate_byte_allowed b = leb b max_value || eqb b unknown_value

-- "phase, started flags and marks hold only the values just named"
unfoldable pub values_allowed : List ℕ → List ℕ → Bool
values_allowed t r =
    leb (phase_of r) finished
    && (all (λ b. leb b 1) (started_in t r)
    && (all (λ b. leb b 1) (marks_in t r)
    && all estimate_byte_allowed (estimate_in t r)))

-- "an unstarted clock's time is 0 and a started one's not after the last time"
unfoldable pub clock_allowed : ℕ → ℕ → ℕ → Bool
clock_allowed last started start = cond (is_zero started) (is_zero start) (leb start last)

unfoldable pub clocks_allowed : List ℕ → List ℕ → Bool
clocks_allowed t r = all (λ c. clock_allowed (last_time r) (get_or (started_in t r) c 0) (get_or (starts_in t r) c 0)) (tabulate (λ c. c) 0 (clocks t))

-- how many of part p's children are marked, among the marks of the parts from q on
unfoldable pub marked_children : List ℕ → ℕ → ℕ → List ℕ → ℕ
marked_children t p q [] = 0
marked_children t p q (m ∷ ms) = flag (is_mark m && eqb (parent_at t q) p) + marked_children t p (suc q) ms

-- "a marked SEQ or REPEAT has exactly one marked child, PAR at least one, CHOICE at most one; MAINTAIN's child is marked, or in phase 1 may be unmarked"
unfoldable pub children_allowed : ℕ → Kind → ℕ → Bool
children_allowed phase UNKNOWN n = true
children_allowed phase GOAL n = true
children_allowed phase START n = true
children_allowed phase WAIT n = true
children_allowed phase SEQ n = eqb n 1
children_allowed phase PAR n = leb 1 n
children_allowed phase MAINTAIN n = eqb n 1 || eqb phase offered
children_allowed phase CHOICE n = leb n 1
children_allowed phase REPEAT n = eqb n 1

-- part p, marked m, with the marks after it: "nothing is marked inside an unmarked part"
abbrev pub part_allowed : List ℕ → ℕ → ℕ → ℕ → List ℕ → Bool
part_allowed t phase p m ms =
    cond (is_mark m) (children_allowed phase (kind_at t p) (marked_children t p (suc p) (take (inside_of t p) ms))) (not (any is_mark (take (inside_of t p) ms)))

unfoldable pub parts_allowed : List ℕ → ℕ → ℕ → List ℕ → Bool
parts_allowed t phase p [] = true
parts_allowed t phase p (m ∷ ms) = part_allowed t phase p m ms && parts_allowed t phase (suc p) ms

-- "in phase 2 no mark is set, otherwise the root is marked"
unfoldable pub root_allowed : ℕ → List ℕ → Bool
root_allowed phase m = cond (eqb phase finished) (not (any is_mark m)) (is_mark (get_or m 0 0))

unfoldable pub record_allowed : List ℕ → List ℕ → Bool
record_allowed t r =
    leb record_length (length r)
    && (rest_zero t r && (values_allowed t r && (clocks_allowed t r && (root_allowed (phase_of r) (marks_in t r) && parts_allowed t (phase_of r) 0 (marks_in t r)))))
