-- Bytes in hexadecimal: two digits each, in capitals.
use Rattle.std.specs.Prelude.{ℕ, ◌+◌, ◌-◌, ◌/◌, ◌%◌, cond, List, [], ◌∷◌, ltb}
use Rattle.base.specs.Lists.{flat}

-- `0` to `9` are the bytes 48 to 57, `A` to `F` the bytes 65 to 70
abbrev pub hex_glyph : ℕ → ℕ
hex_glyph d = cond (ltb d 10) (48 + d) (65 + d - 10)

abbrev pub hex_pair : ℕ → List ℕ
hex_pair b = hex_glyph (b / 16) ∷ hex_glyph (b % 16) ∷ []

-- a byte after a space
abbrev pub spaced : ℕ → List ℕ
spaced b = 32 ∷ hex_pair b

-- each byte after a space
unfoldable pub pairs : List ℕ → List ℕ
pairs bytes = flat spaced bytes
