-- The law behind the operands that the code stores.
use Prim.Native.Nat.{ℕ, ◌+◌, ◌-◌, ◌≤◌}
use mathlib.Core.Path.{◌≡◌, sym}
use mathlib.Core.List.{List, append_assoc}
use native.Mathlib.Omega.{arith}
use borrow.Rule.Slice.PartMut.{put_mid}
use lib.ListN.{length, take, drop}
use lib.Seq.{sets, sets-eq, drop-drop}
use Rattle.meaning.specs.declared.Operand.{Operand}
use Rattle.meaning.specs.Sizes.{operand_length}
use Rattle.meaning.specs.Program.{operand_bytes}

-- an operand copied into its place
pub operand_stored : (l m : List ℕ) (i : ℕ) (o : Operand) → i + operand_length ≤ length l → m ≡ operand_bytes o → put_mid i (i + operand_length - i) l m ≡ sets l i (operand_bytes o)
operand_stored l m i o inside m-is =
    let wide : i + operand_length - i ≡ operand_length = omega arith in
    rw (wide, m-is, drop-drop operand_length i l, ← (append_assoc (take i l) (operand_bytes o) (drop (i + operand_length) l))) (sym (sets-eq (operand_bytes o) l i inside))
