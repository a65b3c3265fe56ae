-- The listing of document 01's station 10, and of a refused file, computed by the definitions.
use Prim.Native.Nat.{ℕ}
use mathlib.Core.Path.{◌≡◌, refl}
use mathlib.Core.List.{List, [], ◌∷◌}
use Rattle.meaning.proofs.Computed.{compile}
use Rattle.desk_format.specs.Decimal.{digits, decimal}
use Rattle.desk_format.specs.Writing.{texts_from}
use Rattle.desk_listing.specs.Listing.{line, row_lines, table_text, listing}

file10 : List ℕ
file10 = 0x03 ∷ 0x01 ∷ 0x01 ∷ 0x04 ∷ 0x02 ∷ 0x03 ∷ 0x02 ∷ 0x00 ∷ 0x00 ∷ 0x00 ∷ 0x00 ∷ 0x00 ∷ 0x00 ∷ 0x00 ∷ 0x03 ∷ 0x00 ∷ 0x0A ∷ 0x00 ∷ []

-- "3 1 1" and the lines of the three parts
text10 : List ℕ
text10 =
    51 ∷ 32 ∷ 49 ∷ 32 ∷ 49 ∷ 10
    ∷ 48 ∷ 32 ∷ 52 ∷ 32 ∷ 51 ∷ 32 ∷ 50 ∷ 53 ∷ 53 ∷ 32 ∷ 50 ∷ 53 ∷ 53 ∷ 32 ∷ 50 ∷ 32 ∷ 48 ∷ 32 ∷ 48 ∷ 32 ∷ 48 ∷ 10
    ∷ 49 ∷ 32 ∷ 50 ∷ 32 ∷ 50 ∷ 32 ∷ 48 ∷ 32 ∷ 50 ∷ 32 ∷ 48 ∷ 32 ∷ 48 ∷ 32 ∷ 48 ∷ 32 ∷ 48 ∷ 10
    ∷ 50 ∷ 32 ∷ 51 ∷ 32 ∷ 51 ∷ 32 ∷ 48 ∷ 32 ∷ 50 ∷ 53 ∷ 53 ∷ 32 ∷ 51 ∷ 32 ∷ 48 ∷ 32 ∷ 49 ∷ 48 ∷ 32 ∷ 48 ∷ 10
    ∷ []

station10 : listing file10 ≡ text10
unfolding file10 text10 compile digits decimal line texts_from row_lines table_text listing
station10 = refl

-- an empty file gets "1"
refused : listing [] ≡ 49 ∷ 10 ∷ []
unfolding compile digits decimal line texts_from row_lines table_text listing
refused = refl
