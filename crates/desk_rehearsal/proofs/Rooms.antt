-- A refusal fits its buffer.
use Prim.Native.Nat.{ℕ, ◌+◌, ◌^◌, ◌≤◌, ◌<◌}
use native.Mathlib.Omega.{arith}
use mathlib.Core.List.{List, []}
use lib.ListN.{length}
use Rattle.meaning.specs.Sizes.{byte_values}
use Rattle.meaning.specs.Program.{variables, clocks}
use Rattle.desk_format.specs.Writing.{Written}
use Rattle.desk_answers.specs.Answers.{refused_text}
use Rattle.desk_transcript.specs.Transcript.{max_answer}
use Rattle.desk_transcript.proofs.Lengths.{refused_fits}

pub refused_fits_page : (n : ℕ) → length (refused_text n) ≤ max_answer
refused_fits_page n = omega (arith, refused_fits [] [] n (omega arith))
