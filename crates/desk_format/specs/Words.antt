-- Fixed words, and a word with a number after it.
use Rattle.std.specs.Prelude.{ℕ, List, [], ◌∷◌, ◌++◌}
use Prim.Native.Char.{code}
use Prim.Native.String.{String, [] as empty, ◌∷◌ as ◌then◌}
use Rattle.desk_format.specs.Decimal.{decimal}

-- a word as bytes: the codes of its characters
abbrev pub word : String → List ℕ
word empty = []
word (c then s) = code c ∷ word s

-- the end of a line: a label, a number in decimal, and the line feed
unfoldable pub numbered : List ℕ → ℕ → List ℕ
numbered label n = label ++ (decimal n ++ word "\n")
