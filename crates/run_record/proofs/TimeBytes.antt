-- A time is stored as the four bytes that it is made of.
use Prim.Native.Nat.{ℕ, ◌+◌, ◌-◌, ◌≤◌}
use native.Mathlib.Omega.{arith}
use mathlib.Core.Path.{◌≡◌, sym}
use Rattle.std.proofs.Math.Nat.{div-div-eq-div-mul}
use mathlib.Core.List.{List, append_assoc}
use lib.ListN.{length, take, drop}
use lib.Seq.{sets, sets-eq, drop-drop}
use borrow.Rule.Slice.PartMut.{put_mid}
use Rattle.std.specs.Int.{to_le_bytes, w32}
use Rattle.meaning.specs.Sizes.{time_width, little_endian}

-- the four bytes that std gives are those of the definition
pub time_bytes : (x : ℕ) → to_le_bytes w32 x ≡ little_endian time_width x
time_bytes x = rw (div-div-eq-div-mul x 256 256, div-div-eq-div-mul x 65536 256)

pub time_stored : (r bytes : List ℕ) (i x : ℕ) → i + time_width ≤ length r → bytes ≡ little_endian time_width x → put_mid i (i + time_width - i) r bytes ≡ sets r i (little_endian time_width x)
time_stored r bytes i x inside bytes-is =
    let w : i + time_width - i ≡ time_width = omega arith in
    rw (w, bytes-is, drop-drop time_width i r, ← (append_assoc (take i r) (little_endian time_width x) (drop (i + time_width) r))) (sym (sets-eq (little_endian time_width x) r i inside))
