-- Where a line ends in a buffer.
use Rattle.std.specs.Prelude.{ℕ, List}
use Rattle.desk_parse.specs.Places.{place_of}

-- a line ends at the first line feed
abbrev pub line_end : List ℕ → ℕ → ℕ → ℕ
line_end l from to = place_of 10 l from to
