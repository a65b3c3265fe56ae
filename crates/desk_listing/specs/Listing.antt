-- The listing of a program file.
use Rattle.std.specs.Prelude.{ℕ, ◌+◌, ◌*◌, Bool, cond, List, [], ◌∷◌, ◌++◌, eqb}
use Rattle.base.specs.Lists.{nonempty}
use Rattle.meaning.specs.declared.Form.TheVariants.{File, Table}
use Rattle.meaning.specs.Sizes.{max_parts}
use Rattle.meaning.specs.Program.{parts, variables, clocks, entry_at, operand_bytes, program_refusal}
use Rattle.meaning.specs.Table.{end_at, parent_at, next_at, compiled}
use Rattle.desk_format.specs.Decimal.{max_digits, decimal}
use Rattle.desk_format.specs.Writing.{texts_from}

-- A line: numbers in decimal, after each a space where another follows, and a line feed where none does
abbrev pub separator : Bool → ℕ
separator follows = cond follows 32 10

unfoldable pub line : List ℕ → List ℕ
line [] = []
line (n ∷ ns) = decimal n ++ (separator (nonempty ns) ∷ line ns)

-- "N V K"
abbrev pub size_numbers : List ℕ → List ℕ
size_numbers t = parts t ∷ variables t ∷ clocks t ∷ []

-- "then per part: number, kind, end, parent, next, four operand bytes"
abbrev pub row_numbers : List ℕ → ℕ → List ℕ
row_numbers t p = p ∷ (entry_at Table t p).kind ∷ end_at t p ∷ parent_at t p ∷ next_at t p ∷ operand_bytes (entry_at Table t p).operand

abbrev pub row_line : List ℕ → ℕ → List ℕ
row_line t p = line (row_numbers t p)

-- the lines of n parts, from part p on
unfoldable pub row_lines : List ℕ → ℕ → ℕ → List ℕ
row_lines t p n = texts_from (row_line t) p n

unfoldable pub table_text : List ℕ → List ℕ
table_text t = line (size_numbers t) ++ row_lines t 0 (parts t)

-- "for a refusal, its number alone"
unfoldable pub listing : List ℕ → List ℕ
listing f = cond (eqb (program_refusal File f) 0) (table_text (compiled File f)) (line (program_refusal File f ∷ []))

-- no listing is longer: a separator after each number, three numbers in the first line and nine in each other
abbrev pub max_listing : ℕ
max_listing = (max_digits + 1) * (3 + 9 * max_parts)
