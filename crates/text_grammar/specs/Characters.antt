-- The bytes of a text.
use Rattle.std.specs.Prelude.{ℕ, Bool, ◌&&◌, ◌||◌, List, [], ◌∷◌, eqb, leb}
use Prim.Native.Char.{code}
use Prim.Native.String.{String, [] as empty, ◌∷◌ as ◌followed-by◌}

-- the bytes of a text that is written here in quotes: its characters are ASCII
abbrev pub bytes : String → List ℕ
bytes empty = []
bytes (c followed-by s) = code c ∷ bytes s

-- "spaces or line ends may stand between signs"; "a line end is byte `0A`"
unfoldable pub is_blank : ℕ → Bool
is_blank b = eqb b (code " ") || eqb b (code "\n")

unfoldable pub is_digit : ℕ → Bool
is_digit b = leb (code "0") b && leb b (code "9")

-- "a letter or digit", where "Words are small letters"
unfoldable pub is_word_byte : ℕ → Bool
is_word_byte b = (leb (code "a") b && leb b (code "z")) || is_digit b
