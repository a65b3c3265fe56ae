-- Laws behind the lines that the code writes, number by number and row by row.
use Prim.Native.Nat.{ℕ, zero, suc, ◌+◌, ◌-◌, ◌*◌, ◌≤◌}
use native.Mathlib.Numerals.{add-one}
use native.Mathlib.Omega.{arith}
use mathlib.Core.Path.{◌≡◌, sym}
use mathlib.Core.List.{List, [], ◌∷◌, ◌++◌, append_assoc}
use lib.Dec.{ltb}
use lib.ListN.{length, get_or, drop, length-append, length-drop, drop_of_length-le}
use lib.Seq.{drop-cons}
use borrow.Author.Tests.{lt-ltb, le-ltb}
use Rattle.base.specs.Lists.{nonempty}
use Rattle.meaning.specs.declared.Entry.{Entry}
use Rattle.meaning.specs.declared.Form.TheVariants.{Table}
use Rattle.meaning.specs.Program.{entry_at, operand_bytes}
use Rattle.meaning.specs.Table.{end_at, parent_at, next_at}
use Rattle.desk_format.specs.Decimal.{max_digits, decimal}
use Rattle.desk_format.specs.Writing.{texts_from}
use Rattle.desk_listing.specs.Listing.{separator, line, row_numbers, row_line, row_lines}
use Rattle.desk_format.proofs.Digits.{decimal_few}
use Rattle.desk_format.proofs.Texts.{texts_fit}

-- A line, number by number: each with the separator after it
abbrev pub item : List ℕ → ℕ → List ℕ
item ns k = decimal (get_or ns k 0) ++ (separator (ltb (k + 1) (length ns)) ∷ [])

-- whether numbers are left from k on
follows_is : (ns : List ℕ) (k : ℕ) → nonempty (drop k ns) ≡ ltb k (length ns)
follows_is ns k = go (drop k ns) (length-drop k ns)
  where
    go : (xs : List ℕ) → length xs ≡ length ns - k → nonempty xs ≡ ltb k (length ns)
    go [] e = sym (le-ltb k (length ns) (omega arith))
    go (x ∷ xs) e = sym (lt-ltb k (length ns) (omega arith))

line_left : (ns : List ℕ) (k n : ℕ) → k + n ≡ length ns → texts_from (item ns) k n ≡ line (drop k ns)
unfolding line texts_from
line_left ns k zero e = rw (drop_of_length-le ns {i = k} (omega arith))
line_left ns k (suc n) e = rw (line_left ns (suc k) n (omega arith), drop-cons ns k 0 (omega arith), add-one k, follows_is ns (suc k), append_assoc)

pub line_is : (ns : List ℕ) → texts_from (item ns) 0 (length ns) ≡ line ns
line_is ns = line_left ns 0 (length ns) (omega arith)

-- a line takes at most the digits and the separator of each number
pub line_fits : (ns : List ℕ) → length (line ns) ≤ (max_digits + 1) * length ns
unfolding line
line_fits [] = omega arith
line_fits (n ∷ ns) = omega (arith, length-append (decimal n) (separator (nonempty ns) ∷ line ns), decimal_few n, line_fits ns)

-- The numbers of a row
pub row_read : (t : List ℕ) (p e q n : ℕ) (a : Entry) → a ≡ entry_at Table t p → e ≡ end_at t p → q ≡ parent_at t p → n ≡ next_at t p → p ∷ a.kind ∷ e ∷ q ∷ n ∷ operand_bytes a.operand ≡ row_numbers t p
row_read t p e q n a a-is e-is q-is n-is = rw (a-is, e-is, q-is, n-is)

-- rows take at most nine numbers each
pub rows_fit : (t : List ℕ) (p n : ℕ) → length (row_lines t p n) ≤ 9 * (max_digits + 1) * n
unfolding row_lines
rows_fit t p n = texts_fit (row_line t) (9 * (max_digits + 1)) p n (λ q. omega (arith, line_fits (row_numbers t q)))
