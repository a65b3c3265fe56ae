-- Where the entry of a part stands.
use Prim.Native.Nat.{ℕ, ◌+◌, ◌<◌, ◌≤◌}
use native.Mathlib.Omega.{arith}
use mathlib.Core.Path.{◌≡◌, sym, ◌∙◌}
use mathlib.Core.Bool.{true}
use mathlib.Core.List.{List, ◌++◌}
use lib.ListN.{get_or, length, take, drop}
use lib.Seq.{sets}
use Rattle.base.proofs.Stores.{take_bytes, sets_start}
use Rattle.program_part.specs.Readable.{Readable}
use Rattle.meaning.specs.declared.Operand.{Operand}
use Rattle.meaning.specs.declared.Form.{Form}
use Rattle.meaning.specs.declared.Form.TheVariants.{File, Table}
use Rattle.meaning.specs.Sizes.{max_parts, header_length, operand_length, bytes_at, kind_place, operand_place}
use Rattle.meaning.specs.Program.{parts, operand_at, entry_at}
use Rattle.meaning.specs.Table.{is_table}
use Rattle.meaning.proofs.Tables.{table_held}

-- what is read at those places is the entry
pub entry_held : (form : Form) (s : List ℕ) (n p i j k : ℕ) (o : Operand) → n ≡ parts s → i ≡ kind_place form n p → k ≡ get_or s i 0 → j ≡ operand_place form n p → o ≡ operand_at s j → record { kind = k; operand = o } ≡ entry_at form s p
entry_held form s n p i j k o n-is i-is k-is j-is o_is = rw (o_is, j-is, k-is, i-is, n-is)

-- the places of an entry that is held
pub first_inside : (form : Form) (s : List ℕ) (p : ℕ) → Readable form s p → 0 < length s
first_inside File s p h = omega (arith, h.long)
first_inside Table s p h = omega (arith, h.long)

pub kind_inside : (form : Form) (s : List ℕ) (n p k : ℕ) → Readable form s p → n ≡ parts s → k ≡ kind_place form n p → k < length s
kind_inside File s n p k h n-is k-is = omega (arith, h.long, h.there)
kind_inside Table s n p k h n-is k-is = omega (arith, h.long, h.there)

pub operand_inside : (form : Form) (s : List ℕ) (n p j : ℕ) → Readable form s p → n ≡ parts s → j ≡ operand_place form n p → j + operand_length ≤ length s
operand_inside File s n p j h n-is j-is = omega (arith, h.long, h.there)
operand_inside Table s n p j h n-is j-is = omega (arith, h.long, h.there)

-- a table has not too many parts, and holds each of them
pub parts_fit : (t : List ℕ) → is_table t ≡ true → parts t ≤ max_parts
parts_fit t table =
    let x = table_held t table in
    omega (arith, x.1.parts_are, x.1.within.size_fits)

pub row_readable : (t : List ℕ) (p : ℕ) → is_table t ≡ true → p < parts t → Readable Table t p
row_readable t p table there = record { long = omega (arith, (table_held t table).1.length_is); there = there }

-- the three sizes, copied to the head of other bytes
pub sizes_copied : (out m s : List ℕ) → header_length ≤ length out → header_length ≤ length s → m ≡ take header_length s → m ++ drop header_length out ≡ sets out 0 (bytes_at s 0 header_length)
sizes_copied out m s o h m-is =
    let sizes : m ≡ bytes_at s 0 header_length = m-is ∙ take_bytes s 0 header_length h in
    rw sizes (sym (sets_start out (bytes_at s 0 header_length) o))
