-- How long the lines are at most: a buffer of `max_answer` bytes has room for every answer with the parts under it, one of `max_summary`
-- for every summary. The sizes of a table are bytes, which is all that is asked of them.
use Prim.Native.Nat.{ℕ, ◌+◌, ◌*◌, ◌≤◌, ◌<◌}
use native.Mathlib.Omega.{arith}
use mathlib.Core.Path.{refl}
use mathlib.Core.List.{List, [], ◌++◌}
use lib.Dec.{eqb}
use lib.ListN.{length, get_or}
use Rattle.base.proofs.Stores.{length_bytes}
use Rattle.meaning.specs.Sizes.{byte_values, number_limit}
use Rattle.meaning.specs.Program.{parts, variables, clocks}
use Rattle.meaning.specs.Record.{estimate_place, phase_of, last_time, estimate_in, started_in, starts_in, marks_in, finished, is_mark}
use Rattle.desk_format.specs.Decimal.{max_digits, decimal}
use Rattle.desk_format.specs.Words.{word, numbered}
use Rattle.desk_format.proofs.Digits.{decimal_few}
use Rattle.desk_format.proofs.Texts.{three_length, texts_fit}
use Rattle.desk_format.proofs.Pairs.{length_pairs}
use Rattle.desk_format.proofs.Labels.{numbered_fits}
use Rattle.desk_answers.specs.Answers.{refused_text, begun_text, settled_text, offered_text, line_text}
use Rattle.desk_answers.proofs.Answering.{line_pieces}
use Rattle.desk_answers.proofs.Lengths.{either_fits, refused_short, begun_short, settled_short, offered_long}
use Rattle.desk_transcript.specs.Transcript.{part_text, marks_text, parts_text, estimate_text, start_text, clock_text, clocks_text, finishing_text, summary_text, max_answer, max_summary}
use Rattle.desk_transcript.proofs.Marked.{parts_pieces}
use Rattle.desk_transcript.proofs.Summing.{estimate_pieces, clock_pieces, state_pieces, summary_pieces}

-- The line of a fault
pub line_text_fits : (n : ℕ) → length (line_text n) ≤ max_answer
line_text_fits n = omega (arith, three_length (line_pieces n), decimal_few n)

-- The marked parts
part_fits : (t r : List ℕ) (p : ℕ) → length (part_text t r p) ≤ 1 + max_digits
unfolding part_text
part_fits t r p = either_fits (is_mark (get_or (marks_in t r) p 0)) (word " " ++ decimal p) [] (1 + max_digits) (omega (arith, decimal_few p)) (omega arith)

parts_fit : (t r : List ℕ) → length (parts_text t r) ≤ 6 + (1 + max_digits) * parts t
unfolding marks_text
parts_fit t r = omega (arith, three_length (parts_pieces t r), texts_fit (part_text t r) (1 + max_digits) 0 (parts t) (part_fits t r))

-- An answer with the parts under it
module _ (t r : List ℕ) (n : ℕ) (few : parts t < number_limit) where
  pub refused_fits : length (refused_text n) + length (parts_text t r) ≤ max_answer
  refused_fits = omega (arith, refused_short n, parts_fit t r)

  pub begun_text_fits : length (begun_text n) + length (parts_text t r) ≤ max_answer
  begun_text_fits = omega (arith, begun_short n, parts_fit t r)

  pub settled_text_fits : length (settled_text n) + length (parts_text t r) ≤ max_answer
  settled_text_fits = omega (arith, settled_short n, parts_fit t r)

  pub offered_text_fits : (goals : List ℕ) → length goals < byte_values → length (offered_text n goals) + length (parts_text t r) ≤ max_answer
  offered_text_fits goals l = omega (arith, offered_long n goals, parts_fit t r)

-- The summary
start_fits : (t r : List ℕ) (c : ℕ) → length (start_text t r c) ≤ 1 + max_digits + 1
unfolding start_text
start_fits t r c = either_fits (is_mark (get_or (started_in t r) c 0)) (numbered (word " ") (get_or (starts_in t r) c 0)) (word " -\n") (1 + max_digits + 1) (numbered_fits (word " ") (get_or (starts_in t r) c 0)) (omega arith)

clock_fits : (t r : List ℕ) (c : ℕ) → length (clock_text t r c) ≤ 6 + max_digits + (1 + max_digits + 1)
clock_fits t r c = omega (arith, three_length (clock_pieces t r c), decimal_few c, start_fits t r c)

clocks_fit : (t r : List ℕ) → length (clocks_text t r) ≤ (6 + max_digits + (1 + max_digits + 1)) * clocks t
unfolding clocks_text
clocks_fit t r = texts_fit (clock_text t r) (6 + max_digits + (1 + max_digits + 1)) 0 (clocks t) (clock_fits t r)

estimate_fits : (t r : List ℕ) → length (estimate_text t r) ≤ 9 + 3 * variables t
estimate_fits t r = omega (arith, three_length (estimate_pieces t r refl), length_pairs (estimate_in t r), length_bytes r estimate_place (variables t))

finishing_fits : (r : List ℕ) (cycles : ℕ) → length (finishing_text r cycles) ≤ 16 + max_digits + 1
unfolding finishing_text
finishing_fits r cycles = either_fits (eqb (phase_of r) finished) (numbered (word "finishing cycle ") cycles) (word "finishing cycle -\n") (16 + max_digits + 1) (numbered_fits (word "finishing cycle ") cycles) (omega arith)

pub summary_fits : (t r : List ℕ) (cycles : ℕ) → variables t < byte_values → clocks t < byte_values → length (summary_text t r cycles) ≤ max_summary
summary_fits t r cycles v k =
    omega (
      arith,
      three_length (summary_pieces t r cycles refl refl),
      numbered_fits (word "phase ") (phase_of r),
      numbered_fits (word "last time ") (last_time r),
      three_length (state_pieces t r cycles),
      estimate_fits t r,
      clocks_fit t r,
      finishing_fits r cycles,
    )
