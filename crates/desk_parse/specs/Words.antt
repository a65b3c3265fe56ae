-- Words, pairs of hexadecimal digits and decimal numbers in a line.
use Rattle.std.specs.Prelude.{ℕ, suc, ◌+◌, ◌-◌, ◌*◌, ◌^◌, Bool, true, cond, not, ◌&&◌, List, [], ◌∷◌, eqb, leb, ltb, length, take, drop, Option, Some, None}
use Rattle.base.specs.Lists.{nonempty}

-- Only the space separates
abbrev pub is_space : ℕ → Bool
is_space x = eqb x 32

-- a byte that is not b
abbrev pub is_other : ℕ → ℕ → Bool
is_other b x = not (eqb x b)

-- how many elements at the beginning pass a test
unfoldable pub leading : (ℕ → Bool) → List ℕ → ℕ
leading t [] = 0
leading t (x ∷ xs) = cond (t x) (suc (leading t xs)) 0

-- a text after its leading spaces; its first word, where it begins with one; and what stands after that
unfoldable pub trimmed : List ℕ → List ℕ
trimmed l = drop (leading is_space l) l

unfoldable pub word_of : List ℕ → List ℕ
word_of l = take (leading (is_other 32) l) l

unfoldable pub rest_of : List ℕ → List ℕ
rest_of l = drop (leading (is_other 32) l) l

-- What a digit stands for, `0` to `9`, `A` to `F` or `a` to `f`, and 16 for any other byte
unfoldable pub digit_of : ℕ → ℕ
digit_of x =
    cond (leb 48 x && leb x 57) (x - 48)
    (cond (leb 65 x && leb x 70) (x - 65 + 10)
    (cond (leb 97 x && leb x 102) (x - 97 + 10) 16))

-- the same, where it is a digit
abbrev pub digit_read : ℕ → Option ℕ
digit_read x = cond (ltb (digit_of x) 16) (Some (digit_of x)) None

-- a byte as two hexadecimal digits, and whether two bytes are that
abbrev pub is_pair : ℕ → ℕ → Bool
is_pair x y = ltb (digit_of x) 16 && ltb (digit_of y) 16

abbrev pub pair_byte : ℕ → ℕ → ℕ
pair_byte x y = 16 * digit_of x + digit_of y

abbrev pub pair_read : ℕ → ℕ → Option ℕ
pair_read x y = cond (is_pair x y) (Some (pair_byte x y)) None

-- The bytes of pairs, up to the first fault. Spaces between pairs are passed over; one inside a pair is a fault
unfoldable pub pair_bytes : List ℕ → List ℕ
pair_bytes [] = []
pair_bytes (x ∷ []) = []
pair_bytes (x ∷ y ∷ l) = cond (is_space x) (pair_bytes (y ∷ l)) (cond (is_pair x y) (pair_byte x y ∷ pair_bytes l) [])

-- whether there is no fault
unfoldable pub pairs_only : List ℕ → Bool
pairs_only [] = true
pairs_only (x ∷ []) = is_space x
pairs_only (x ∷ y ∷ l) = cond (is_space x) (pairs_only (y ∷ l)) (is_pair x y && pairs_only l)

-- how many bytes pairs give, where there is no fault
unfoldable pub pairs_of : List ℕ → Option ℕ
pairs_of l = cond (pairs_only l) (Some (length (pair_bytes l))) None

-- A number goes on with one digit more: numbers are below 2^32, and any other byte is no digit
unfoldable pub next_value : ℕ → ℕ → Option ℕ
next_value x d = cond (ltb (digit_of d) 10 && ltb (10 * x + digit_of d) (2 ^ 32)) (Some (10 * x + digit_of d)) None

abbrev pub goes_on : (ℕ → Option ℕ) → Option ℕ → Option ℕ
goes_on f (Some x) = f x
goes_on f None = None

-- the number that digits stand for, read on from the number x
unfoldable pub decimal_from : ℕ → List ℕ → Option ℕ
decimal_from x [] = Some x
decimal_from x (d ∷ ds) = goes_on (λ y. decimal_from y ds) (next_value x d)

-- a word as a number: at least one digit
unfoldable pub numeral_of : List ℕ → Option ℕ
numeral_of w = cond (nonempty w) (decimal_from 0 w) None
