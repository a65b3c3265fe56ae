-- Where a place of a text stands: its line and its column, both counted from 1. A column is a byte.
use Rattle.std.specs.Prelude.{ℕ, ◌+◌, List, [], ◌∷◌, reverse, eqb, take}
use Rattle.base.specs.Lists.{flag}
use Rattle.desk_parse.specs.Words.{is_other, leading}

-- the byte that ends a line
abbrev pub line_end : ℕ
line_end = 10

unfoldable pub line_ends : List ℕ → ℕ
line_ends [] = 0
line_ends (b ∷ bs) = flag (eqb b line_end) + line_ends bs

-- how many lines end before the place
unfoldable pub line_of : List ℕ → ℕ → ℕ
line_of t place = 1 + line_ends (take place t)

-- how many bytes stand before the place in its line: those that are no line end, back from the place
unfoldable pub column_of : List ℕ → ℕ → ℕ
column_of t place = 1 + leading (is_other line_end) (reverse (take place t))
