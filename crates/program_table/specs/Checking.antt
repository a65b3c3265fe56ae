-- What the check of a table finds. The table that the kinds and operands in t imply is `compiled Table t`.
use Rattle.std.specs.Prelude.{ℕ, ◌+◌, ◌*◌, ◌<◌, ◌≡◌, Bool, List, eqb, get_or}
use Rattle.base.specs.Lists.{all_from}
use Rattle.meaning.specs.Sizes.{header_length, row_length}
use Rattle.meaning.specs.Program.{parts, program_refusal}
use Rattle.meaning.specs.Table.{compiled, end_at, parent_at, next_at}
use Rattle.meaning.specs.declared.Form.TheVariants.{Table}
use Rattle.program_table.specs.declared.checking.Links.{Links}

-- a row says where its part ends
unfoldable pub end_stored : List ℕ → ℕ → ℕ → Bool
end_stored t p e = eqb e (end_at t p)

-- the bytes hold a program, and each part ends where its row says
pub record Ending (t : List ℕ) : Type 0 where
  pub accepted : program_refusal Table t ≡ 0
  pub ends : (p : ℕ) → p < parts t → end_at t p ≡ end_at (compiled Table t) p

-- and the parents in the rows before p are those implied
pub record ParentsAgree (t : List ℕ) (p : ℕ) : Type 0 where
  pub ending : Ending t
  pub parents : (q : ℕ) → q < p → parent_at t q ≡ parent_at (compiled Table t) q

-- what a table's row of part p says of its place in the tree
abbrev pub links_in : List ℕ → ℕ → Links
links_in t p = record { end = end_at t p; parent = parent_at t p; next = next_at t p }

-- byte j of row p of a table; whether t has the one implied
abbrev pub row_byte : List ℕ → ℕ → ℕ → ℕ
row_byte t p j = get_or t (header_length + row_length * p + j) 0

unfoldable pub byte_is : List ℕ → ℕ → ℕ → Bool
byte_is t p j = eqb (row_byte (compiled Table t) p j) (row_byte t p j)

unfoldable pub row_is : List ℕ → ℕ → Bool
row_is t p = all_from (byte_is t p) 0 row_length

-- every row is the one implied
unfoldable pub rows_are : List ℕ → Bool
rows_are t = all_from (row_is t) 0 (parts t)
