-- The times of offers are numbers of 32 bits, because `numeral_of` reads no others.
use Prim.Native.Nat.{ℕ, ◌+◌, ◌*◌, ◌^◌, ◌<◌}
use native.Mathlib.Omega.{arith}
use mathlib.Core.Path.{◌≡◌, refl}
use mathlib.Core.Bool.{Bool, true, false, cond, ◌&&◌}
use mathlib.Core.List.{List, [], ◌∷◌}
use lib.Dec.{ltb}
use borrow.Author.Tests.{ltb-true}
use Rattle.std.proofs.Common.{Option, Some, None}
use Rattle.std.specs.Option.{option_map, unwrap_or}
use Rattle.base.specs.Lists.{nonempty, same}
use Rattle.base.proofs.Lists.{and_right}
use Rattle.desk_parse.specs.Words.{digit_of, trimmed, word_of, rest_of, pairs_of, next_value, goes_on, decimal_from, numeral_of}
use Rattle.desk_calls.specs.declared.Line.{Line}
use Rattle.desk_calls.specs.declared.Line.TheVariants.{Passed, Begin, Offer, OfferInto, Settle, NotACall}
use Rattle.desk_calls.specs.Lines.{begin_word, offer_word, settle_word, passed_over, offer_into, offer_at, offer_with, call_by_word, line_by_word, line_of}

-- a number that is read has 32 bits
abbrev Short : Option ℕ → Type 0
Short (Some n) = n < 2 ^ 32
Short None = Unit {0}

next_short : (x d : ℕ) → Short (next_value x d)
unfolding next_value
next_short x d = go (ltb (digit_of d) 10 && ltb (10 * x + digit_of d) (2 ^ 32)) refl
  where
    go : (b : Bool) → (ltb (digit_of d) 10 && ltb (10 * x + digit_of d) (2 ^ 32)) ≡ b → Short (cond b (Some (10 * x + digit_of d)) None)
    go true e = ltb-true (10 * x + digit_of d) (2 ^ 32) (and_right (ltb (digit_of d) 10) (ltb (10 * x + digit_of d) (2 ^ 32)) e)
    go false e = tt

decimal_short : (w : List ℕ) (x : ℕ) → x < 2 ^ 32 → Short (decimal_from x w)
unfolding decimal_from
decimal_short [] x h = h
decimal_short (d ∷ ds) x h = go (next_value x d) (next_short x d) (decimal_short ds)
  where
    go : (m : Option ℕ) → Short m → ((y : ℕ) → y < 2 ^ 32 → Short (decimal_from y ds)) → Short (goes_on (λ y. decimal_from y ds) m)
    go (Some y) k rest = rest y k
    go None k rest = tt

numeral_short : (w : List ℕ) → Short (numeral_of w)
unfolding numeral_of
numeral_short w = go (nonempty w)
  where
    go : (b : Bool) → Short (cond b (decimal_from 0 w) None)
    go true = decimal_short w 0 (omega arith)
    go false = tt

-- the time of an offer that a line asks for
abbrev pub TimeShort : Line → Type 0
TimeShort Passed = Unit {0}
TimeShort (Begin n) = Unit {0}
TimeShort (Offer time) = time < 2 ^ 32
TimeShort (OfferInto time n) = time < 2 ^ 32
TimeShort (Settle n) = Unit {0}
TimeShort NotACall = Unit {0}

offer_short : (m : Option ℕ) (l : List ℕ) → Short m → TimeShort (unwrap_or (offer_at m l) NotACall)
offer_short None l h = tt
offer_short (Some time) l h = go (nonempty l) (numeral_of (word_of l)) (trimmed (rest_of l))
  where
    go : (a : Bool) (k : Option ℕ) (r : List ℕ) → TimeShort (unwrap_or (cond a (offer_into time k r) (Some (Offer time))) NotACall)
    go true (Some n) [] = h
    go true (Some n) (x ∷ r) = tt
    go true None r = tt
    go false k r = h

begin_short : (p : Option ℕ) → TimeShort (unwrap_or (option_map Begin p) NotACall)
begin_short (Some n) = tt
begin_short None = tt

settle_short : (p : Option ℕ) → TimeShort (unwrap_or (option_map Settle p) NotACall)
settle_short (Some n) = tt
settle_short None = tt

word_short : (w rest : List ℕ) → TimeShort (line_by_word w rest)
unfolding line_by_word call_by_word offer_with
word_short w rest = go (passed_over w) (same w begin_word) (same w offer_word) (same w settle_word)
  where
    go : (a b c d : Bool) → TimeShort (cond a Passed (unwrap_or (cond b (option_map Begin (pairs_of rest)) (cond c (offer_with rest) (cond d (option_map Settle (pairs_of rest)) None))) NotACall))
    go true b c d = tt
    go false true c d = begin_short (pairs_of rest)
    go false false true d = offer_short (numeral_of (word_of (trimmed rest))) (trimmed (rest_of (trimmed rest))) (numeral_short (word_of (trimmed rest)))
    go false false false true = settle_short (pairs_of rest)
    go false false false false = tt

pub line_short : (l : List ℕ) → TimeShort (line_of l)
unfolding line_of
line_short l = word_short (word_of (trimmed l)) (rest_of (trimmed l))
