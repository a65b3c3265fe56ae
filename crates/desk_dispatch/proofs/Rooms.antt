-- The text of every answer fits a buffer from its beginning on.
use Prim.Native.Nat.{ℕ, ◌+◌, ◌^◌, ◌<◌}
use native.Mathlib.Omega.{arith}
use mathlib.Core.List.{List, []}
use lib.ListN.{length}
use Rattle.meaning.specs.Sizes.{byte_values}
use Rattle.base.specs.Lists.{bytes_at}
use Rattle.base.proofs.Stores.{length_bytes}
use Rattle.desk_answers.specs.Answers.{begun_text, offered_text, settled_text, line_text}
use Rattle.desk_transcript.proofs.Lengths.{line_text_fits, begun_text_fits, settled_text_fits, offered_text_fits}

pub begun_room : (n : ℕ) → 0 + length (begun_text n) < 2 ^ 64
begun_room n = omega (arith, begun_text_fits [] [] n (omega arith))

pub settled_room : (n : ℕ) → 0 + length (settled_text n) < 2 ^ 64
settled_room n = omega (arith, settled_text_fits [] [] n (omega arith))

pub offered_room : (n v : ℕ) (gs : List ℕ) → v < byte_values → 0 + length (offered_text n (bytes_at gs 0 v)) < 2 ^ 64
offered_room n v gs h = omega (arith, offered_text_fits [] [] n (omega arith) (bytes_at gs 0 v) (rw length_bytes h))

pub line_text_room : (n : ℕ) → 0 + length (line_text n) < 2 ^ 64
line_text_room n = omega (arith, line_text_fits n)
