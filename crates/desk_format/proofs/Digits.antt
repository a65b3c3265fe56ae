-- Laws of numbers in decimal, which say together that the digits are the number's, and that twenty are enough for eight bytes.
use Prim.Native.Nat.{ℕ, zero, suc, ◌+◌, ◌-◌, ◌*◌, ◌/◌, ◌%◌, ◌^◌, ◌≤◌, ◌<◌}
use native.Mathlib.Nat.{pow-suc}
use native.Mathlib.Omega.{arith}
use mathlib.Core.Path.{◌≡◌, refl, ◌∙◌}
use mathlib.Core.Bool.{Bool, true, false, cond, ◌&&◌}
use mathlib.Core.List.{List, [], ◌∷◌, ◌++◌}
use lib.Dec.{ltb, leb}
use lib.ListN.{length, get_or, length-append}
use borrow.Author.Tests.{lt-ltb, le-ltb, ltb-true, ltb-false, le-leb}
use Rattle.base.specs.Lists.{all}
use Rattle.base.proofs.Lists.{all_append}
use Rattle.desk_format.specs.Decimal.{glyph, digits, max_digits, decimal}

-- a byte that is a digit
abbrev pub is_digit : ℕ → Bool
is_digit d = leb 48 d && leb d 57

-- the number that digits stand for, read on from the number x
abbrev pub decimal_value : ℕ → List ℕ → ℕ
decimal_value x [] = x
decimal_value x (d ∷ ds) = decimal_value (10 * x + (d - 48)) ds

reading_append : (x : ℕ) (ds es : List ℕ) → decimal_value x (ds ++ es) ≡ decimal_value (decimal_value x ds) es
reading_append x [] es = refl
reading_append x (d ∷ ds) es = reading_append (10 * x + (d - 48)) ds es

-- where suc k digits are enough for n, k are enough for n / 10
fewer : (k n : ℕ) → n < 10 ^ suc k → n / 10 < 10 ^ k
fewer k n h = omega (arith, pow-suc 10 k)

-- what holds of one digit, and of the digits of n / 10 with one more, holds of the digits of n
step : (P : List ℕ → Type 0) (k n : ℕ) → (n < 10 → P (glyph n ∷ [])) → (10 ≤ n → P (digits k (n / 10) ++ (glyph (n % 10) ∷ []))) → P (digits (suc k) n)
unfolding digits
step P k n one more = go (ltb n 10) refl
  where
    go : (b : Bool) → ltb n 10 ≡ b → P (cond b (glyph n ∷ []) (digits k (n / 10) ++ (glyph (n % 10) ∷ [])))
    go true e = one (ltb-true n 10 e)
    go false e = more (ltb-false n 10 e)

digit : (d : ℕ) → d < 10 → is_digit (glyph d) ≡ true
digit d h = rw (le-leb 48 (glyph d) (omega arith), le-leb (glyph d) 57 (omega arith))

-- each is a digit
pub digits_are : (k n : ℕ) → all is_digit (digits k n) ≡ true
unfolding digits
digits_are zero n = refl
digits_are (suc k) n =
    step (λ ds. all is_digit ds ≡ true) k n (λ h. rw (digit n h)) (λ h. rw (all_append is_digit (digits k (n / 10)) (glyph (n % 10) ∷ []), digits_are k (n / 10), digit (n % 10) (omega arith)))

-- they read back to the number, where k are enough
pub digits_read : (k n : ℕ) → n < 10 ^ k → decimal_value 0 (digits k n) ≡ n
unfolding digits
digits_read zero n h = omega arith
digits_read (suc k) n h =
    step (λ ds. decimal_value 0 ds ≡ n) k n (λ l. omega arith)
    (λ l. reading_append 0 (digits k (n / 10)) (glyph (n % 10) ∷ []) ∙ omega (arith, digits_read k (n / 10) (fewer k n h)))

first_append : (xs ys : List ℕ) → 48 < get_or xs 0 0 → 48 < get_or (xs ++ ys) 0 0
first_append [] ys h = absurd (omega arith)
first_append (x ∷ xs) ys h = h

-- the first is not `0`, unless the number is 0
pub digits_first : (k n : ℕ) → 0 < n → n < 10 ^ k → 48 < get_or (digits k n) 0 0
unfolding digits
digits_first zero n p h = absurd (omega arith)
digits_first (suc k) n p h =
    step (λ ds. 48 < get_or ds 0 0) k n (λ l. omega arith)
    (λ l. first_append (digits k (n / 10)) (glyph (n % 10) ∷ []) (digits_first k (n / 10) (omega arith) (fewer k n h)))

-- how many may be taken does not matter, where that is enough
pub digits_same : (j k n : ℕ) → n < 10 ^ suc j → n < 10 ^ suc k → digits (suc j) n ≡ digits (suc k) n
unfolding digits
digits_same zero k n h l = rw (lt-ltb n 10 h)
digits_same (suc j) zero n h l = rw (lt-ltb n 10 l)
digits_same (suc j) (suc k) n h l = rw (digits_same j k (n / 10) (fewer (suc j) n h) (fewer (suc k) n l))

-- no more than k are taken
pub digits_few : (k n : ℕ) → length (digits k n) ≤ k
unfolding digits
digits_few zero n = omega arith
digits_few (suc k) n =
    step (λ ds. length ds ≤ suc k) k n (λ h. omega arith) (λ h. rw length-append (omega (arith, digits_few k (n / 10))))

-- A number of one digit, and one of more
pub decimal_one : (n : ℕ) → n < 10 → decimal n ≡ glyph n ∷ []
unfolding decimal digits
decimal_one n h = rw (lt-ltb n 10 h)

pub decimal_more : (n : ℕ) → 10 ≤ n → n < 10 ^ max_digits → decimal n ≡ decimal (n / 10) ++ (glyph (n % 10) ∷ [])
unfolding decimal digits
decimal_more n h l = rw (le-ltb n 10 h, digits_same 18 19 (n / 10) (omega arith) (omega arith))

pub decimal_few : (n : ℕ) → length (decimal n) ≤ max_digits
unfolding decimal
decimal_few n = digits_few max_digits n
