-- Reading a program and giving it back, one after the other.
use Rattle.std.specs.Prelude.{ℕ, ◌≤◌, ◌≡◌, ◌↔◌, true, false, List, ◌++◌, length, drop}
use Rattle.base.specs.Lists.{bytes_at}
use Rattle.meaning.specs.declared.Form.{Form}
use Rattle.meaning.specs.declared.Form.TheVariants.{File, Table}
use Rattle.meaning.specs.Sizes.{length_of}
use Rattle.meaning.specs.Program.{parts, program_refusal}
use Rattle.meaning.specs.Table.{compiled, file_in, is_table, decompile_refusal}
use Rattle.meaning.specs.Answers.{not_a_table}
use Rattle.meaning.specs.Operations.{Compiled, Decompiled}

-- What stands at the front of a buffer into which a file or a table of n parts is written, and its further bytes
abbrev pub front_of : Form → ℕ → List ℕ → List ℕ
front_of form n buffer = bytes_at buffer 0 (length_of form n)

abbrev pub rest_of : Form → ℕ → List ℕ → List ℕ
rest_of form n buffer = drop (length_of form n) buffer

-- a program file gives a table
pub record Gives (f t : List ℕ) : Type 0 where
  pub accepted : program_refusal File f ≡ 0
  pub table_is : compiled File f ≡ t

-- A file was compiled into `out`, which left `out'`, and the table in that was decompiled into `back`, which answered a number and left `back'`:
-- "an output buffer's further bytes are untouched"
pub record FileBack (f out out' back : List ℕ) (answer : ℕ) (back' : List ℕ) : Type 0 where
  pub table_given : Gives f (front_of Table (parts f) out')
  pub further_out : out' ≡ front_of Table (parts f) out' ++ rest_of Table (parts f) out
  pub done : answer ≡ 0
  pub file_is : back' ≡ f ++ rest_of File (parts f) back

-- A table was decompiled into `back`, which left `back'`, and the file in that was compiled into `out`, which answered a number and left `out'`
pub record TableBack (t back back' out : List ℕ) (answer : ℕ) (out' : List ℕ) : Type 0 where
  pub file_gives : Gives (front_of File (parts t) back') t
  pub further_back : back' ≡ front_of File (parts t) back' ++ rest_of File (parts t) back
  pub done : answer ≡ 0
  pub table_is : out' ≡ t ++ rest_of Table (parts t) out

-- A file that was read is given back, where there is room for it
abbrev pub FilesComeBack : Type 0
FilesComeBack =
    (f out : List ℕ) (answer : ℕ) (out' : List ℕ) → Compiled f out answer out' → answer ≡ 0
    → (back : List ℕ) (answer' : ℕ) (back' : List ℕ) → Decompiled (front_of Table (parts f) out') back answer' back'
    → length_of File (parts f) ≤ length back → FileBack f out out' back answer' back'

-- and the file that a table was given back as gives that table, where there is room for it
abbrev pub TablesComeBack : Type 0
TablesComeBack =
    (t back : List ℕ) (answer : ℕ) (back' : List ℕ) → Decompiled t back answer back' → answer ≡ 0
    → (out : List ℕ) (answer' : ℕ) (out' : List ℕ) → Compiled (front_of File (parts t) back') out answer' out'
    → length_of Table (parts t) ≤ length out → TableBack t back back' out answer' out'

-- Reading, giving back and the table check are one another's inverses
pub record Inverses : Type 0 where
  -- a table is what the file in it gives, and no other file gives it
  pub table_is_given : (t : List ℕ) → (is_table t ≡ true) ↔ Gives (file_in t) t
  pub one_file : (f t : List ℕ) → Gives f t → f ≡ file_in t
  -- "bytes not the table of any file": exactly these are refused by 9
  pub none_gives : (t : List ℕ) → (is_table t ≡ false) ↔ ((f : List ℕ) → Gives f t → ⊥)
  pub refused : (t : List ℕ) (room : ℕ) → (decompile_refusal t room ≡ not_a_table) ↔ ((f : List ℕ) → Gives f t → ⊥)
  -- the two operations, one after the other
  pub files_back : FilesComeBack
  pub tables_back : TablesComeBack
