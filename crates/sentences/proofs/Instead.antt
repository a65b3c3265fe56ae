-- Once the lengths are tested, every read stands inside, so that "0 beyond the end" never matters.
use Prim.Native.Nat.{ℕ, ◌≤◌}
use native.Mathlib.Omega.{arith}
use mathlib.Core.Path.{◌≡◌}
use mathlib.Core.List.{List}
use lib.ListN.{length}
use Rattle.meaning.specs.declared.Form.{Form}
use Rattle.meaning.specs.declared.Form.TheVariants.{File, Table}
use Rattle.meaning.specs.Sizes.{length_of}
use Rattle.meaning.specs.Program.{parts}
use Rattle.meaning.specs.Record.{record_length}
use Rattle.sentences.specs.Instead.{PartsInside, RowsInside, FieldsInside}

-- "length not 3 + 5 × N" (3), and for a table 3 + 8 × N: bytes of that length have every part inside
pub parts_inside : (form : Form) (s : List ℕ) → length s ≡ length_of form (parts s) → PartsInside form s
parts_inside File s h = record { sizes = omega arith; kind = λ p l. omega arith; operand = λ p j l m. omega arith }
parts_inside Table s h = record { sizes = omega arith; kind = λ p l. omega arith; operand = λ p j l m. omega arith }

-- and every row
pub rows_inside : (t : List ℕ) → length t ≡ length_of Table (parts t) → RowsInside t
rows_inside t h p j l m = omega arith

-- "under 317 bytes" (10): a record that is not has every field inside
pub fields_inside : (r : List ℕ) → record_length ≤ length r → FieldsInside r
fields_inside r h =
    record {
      phase = omega arith;
      time = λ j l. omega arith;
      estimate = λ v l. omega arith;
      started = λ c l. omega arith;
      starts = λ c j l m. omega arith;
      marks = λ p l. omega arith;
    }
