-- A number in decimal: the bytes of its digits, the fewest that it takes, so that no number but 0 begins with `0`.
use Rattle.std.specs.Prelude.{ℕ, zero, suc, ◌+◌, ◌/◌, ◌%◌, cond, List, [], ◌∷◌, ◌++◌, ltb}

-- `0` to `9` are the bytes 48 to 57
abbrev pub glyph : ℕ → ℕ
glyph d = 48 + d

-- the digits of n, where n takes at most k
unfoldable pub digits : ℕ → ℕ → List ℕ
digits zero n = []
digits (suc k) n = cond (ltb n 10) (glyph n ∷ []) (digits k (n / 10) ++ (glyph (n % 10) ∷ []))

-- how many digits a number of eight bytes takes at most
abbrev pub max_digits : ℕ
max_digits = 20

unfoldable pub decimal : ℕ → List ℕ
decimal n = digits max_digits n
