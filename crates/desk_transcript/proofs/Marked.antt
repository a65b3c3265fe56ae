-- Laws of the line of the marked parts.
use Prim.Native.Nat.{ℕ, ◌+◌, ◌-◌, ◌^◌, ◌<◌}
use native.Mathlib.Nat.{add-zero}
use native.Mathlib.Omega.{arith}
use mathlib.Core.Path.{◌≡◌, refl, sym, ap}
use mathlib.Core.Bool.{Bool, true, false}
use mathlib.Core.List.{List, [], ◌++◌}
use lib.ListN.{length, get_or}
use Rattle.base.specs.Lists.{bytes_at}
use Rattle.base.proofs.Stores.{get_or_bytes}
use Rattle.meaning.specs.Program.{parts}
use Rattle.meaning.specs.Record.{marks_place, is_mark}
use Rattle.desk_format.specs.Decimal.{decimal}
use Rattle.desk_format.specs.Words.{word}
use Rattle.desk_format.specs.Writing.{Written, texts_from}
use Rattle.desk_format.proofs.Texts.{Three, Writing, written_append, texts_first, texts_room}
use Rattle.desk_transcript.specs.Transcript.{part_text, marks_text, parts_text}

-- A part, by what its mark says
module _ (t r : List ℕ) (p : ℕ) (b : Bool) (here : p < parts t) (b-is : b ≡ is_mark (get_or r (marks_place + p) 0)) where
  mark_is : is_mark (get_or (bytes_at r marks_place (parts t)) p 0) ≡ b
  mark_is = rw (get_or_bytes r marks_place (parts t) p here) (sym b-is)

  pub part_unmarked : b ≡ false → part_text t r p ≡ []
  unfolding part_text
  part_unmarked h = rw (mark_is, h)

  pub part_marked : b ≡ true → part_text t r p ≡ word " " ++ decimal p
  unfolding part_text
  part_marked h = rw (mark_is, h)

pub parts_pieces : (t r : List ℕ) → Three (parts_text t r) (word "parts") (marks_text t r) (word "\n")
unfolding parts_text
parts_pieces t r = record { made = refl }
