-- Which input is a program typed as text, and which a program file.
use Rattle.std.specs.Prelude.{ℕ, Bool, ◌&&◌, List, leb, take}
use Rattle.base.specs.Lists.{all, nonempty}

-- The bytes of a text are line ends, spaces and signs that can be printed: none is below this
abbrev pub least_byte : ℕ
least_byte = 10

-- One of so many bytes tells a program file: the fourth is the kind of a part
abbrev pub telling : ℕ
telling = 4

-- no byte below it among the first, and at least one byte
unfoldable pub is_text : List ℕ → Bool
is_text input = nonempty input && all (leb least_byte) (take telling input)
