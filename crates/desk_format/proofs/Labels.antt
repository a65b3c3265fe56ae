-- Laws of fixed words, and of a word with a number after it.
use Prim.Native.Nat.{ℕ, ◌+◌, ◌≤◌}
use native.Mathlib.Omega.{arith}
use mathlib.Core.Path.{◌≡◌, refl}
use mathlib.Core.List.{List}
use lib.ListN.{length}
use lib.Seq.{sets}
use Rattle.base.specs.Lists.{bytes_at}
use Rattle.base.proofs.Stores.{bytes_all}
use Rattle.desk_format.specs.Decimal.{max_digits, decimal}
use Rattle.desk_format.specs.Words.{word, numbered}
use Rattle.desk_format.specs.Writing.{Written}
use Rattle.desk_format.proofs.Digits.{decimal_few}
use Rattle.desk_format.proofs.Texts.{Three, three_length}

-- a word is all of its bytes
pub word_written : (w l m : List ℕ) (i : ℕ) → m ≡ sets l i (bytes_at w 0 (length w)) → Written w l i m (i + length w)
word_written w l m i e = record { bytes = rw bytes_all at e; after = refl }

-- a line with a number: its pieces
pub numbered_pieces : (label : List ℕ) (n : ℕ) → Three (numbered label n) label (decimal n) (word "\n")
unfolding numbered
numbered_pieces label n = record { made = refl }

-- the line of a number is that of the same number
pub same_number_lem : (label : List ℕ) {n k : ℕ} → n ≡ k → numbered label k ≡ numbered label n
same_number_lem label e = rw e

-- no line with a number is longer than its label, the most digits and the line feed
pub numbered_fits : (label : List ℕ) (n : ℕ) → length (numbered label n) ≤ length label + max_digits + 1
numbered_fits label n = omega (arith, three_length (numbered_pieces label n), decimal_few n)
