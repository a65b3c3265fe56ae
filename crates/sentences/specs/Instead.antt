-- What a board may compute instead.
use Rattle.std.specs.Prelude.{ℕ, zero, suc, ◌+◌, ◌*◌, ◌≤◌, ◌<◌, ◌≡◌, Bool, ◌&&◌, List, eqb, leb, ltb, length}
use Rattle.base.specs.Lists.{all, tabulate}
use Rattle.meaning.specs.declared.Form.{Form}
use Rattle.meaning.specs.declared.Form.TheVariants.{Table}
use Rattle.meaning.specs.Sizes.{max_parts, max_variables, max_clocks, no_part, time_width, header_length, operand_length, row_length, kind_place, operand_place}
use Rattle.meaning.specs.Program.{parts, entry_at, arity_of, program_refusal}
use Rattle.meaning.specs.Table.{next_of, end_at, parent_at, next_at, kind_at, is_table}
use Rattle.meaning.specs.Record.{time_place, estimate_place, started_place, starts_place, marks_place}

-- A test of lengths before any read. Every byte that is read of a program stands inside it, in a file or in a table: its sizes, and each part's
-- kind and operand
pub record PartsInside (form : Form) (s : List ℕ) : Type 0 where
  pub sizes : header_length ≤ length s
  pub kind : (p : ℕ) → p < parts s → kind_place form (parts s) p < length s
  pub operand : (p j : ℕ) → p < parts s → j < operand_length → operand_place form (parts s) p + j < length s

-- and every byte of a table's rows, the links among them
abbrev pub RowsInside : List ℕ → Type 0
RowsInside t = (p j : ℕ) → p < parts t → j < row_length → header_length + row_length * p + j < length t

-- Every byte that is read of a record: its phase, its last time, and the entries for each variable, clock and part
pub record FieldsInside (r : List ℕ) : Type 0 where
  pub phase : 0 < length r
  pub time : (j : ℕ) → j < time_width → time_place + j < length r
  pub estimate : (v : ℕ) → v < max_variables → estimate_place + v < length r
  pub started : (c : ℕ) → c < max_clocks → started_place + c < length r
  pub starts : (c j : ℕ) → c < max_clocks → j < time_width → starts_place + time_width * c + j < length r
  pub marks : (p : ℕ) → p < max_parts → marks_place + p < length r

-- The table check by the three links of a row, in one pass that stores nothing. The children of part p stand one after the other from the part
-- after it on, each where the one before it ends, and p ends where the last of them does: n of them are left, the first at q
unfoldable pub children_linked : List ℕ → ℕ → ℕ → ℕ → Bool
children_linked t p q zero = eqb (end_at t p) q
children_linked t p q (suc n) =
    ltb q (parts t)
    && (eqb (parent_at t q) p && (eqb (next_at t q) (next_of (kind_at t p) q (end_at t q) (leb 1 n)) && children_linked t p (end_at t q) n))

unfoldable pub part_linked : List ℕ → ℕ → Bool
part_linked t p = children_linked t p (suc p) (arity_of (entry_at Table t p))

-- the root has no parent and no next
unfoldable pub all_linked : List ℕ → Bool
all_linked t = eqb (parent_at t 0) no_part && (eqb (next_at t 0) no_part && all (part_linked t) (tabulate (λ p. p) 0 (parts t)))

-- Bytes are a table exactly where they pass the tests of a program, read as a table, and are linked so
abbrev pub LinksDecide : Type 0
LinksDecide = (t : List ℕ) → is_table t ≡ (eqb (program_refusal Table t) 0 && all_linked t)
