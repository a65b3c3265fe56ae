-- Laws of a line's estimate, for the reader of a line: how many bytes it has, that a buffer as long as the line has room for them, and that they stand there.
use Prim.Native.Nat.{ℕ, ◌*◌, ◌≤◌}
use native.Mathlib.Omega.{arith}
use mathlib.Core.Path.{◌≡◌, refl}
use mathlib.Core.Bool.{Bool, true, false, cond, ◌||◌}
use mathlib.Core.List.{List, [], ◌∷◌}
use lib.ListN.{length, take, drop, length-drop}
use lib.Seq.{sets, take_at}
use Rattle.std.proofs.Common.{Option, Some, None}
use Rattle.std.specs.Option.{option_map, unwrap_or}
use Rattle.base.specs.Lists.{nonempty, same}
use Rattle.base.proofs.Stores.{sets_start}
use Rattle.desk_parse.specs.Words.{is_space, is_other, is_pair, pair_byte, leading, trimmed, word_of, rest_of, pair_bytes, pairs_only, pairs_of, numeral_of}
use Rattle.desk_calls.specs.declared.Line.{Line}
use Rattle.desk_calls.specs.declared.Line.TheVariants.{Passed, Begin, Offer, OfferInto, Settle, NotACall}
use Rattle.desk_calls.specs.Lines.{begin_word, offer_word, settle_word, passed_over, offer_into, offer_at, offer_with, call_by_word, line_by_word, line_of, bytes_after, bytes_of}

pairs_half : (l : List ℕ) → 2 * length (pair_bytes l) ≤ length l
unfolding pair_bytes
pairs_half [] = omega arith
pairs_half (x ∷ []) = omega arith
pairs_half (x ∷ y ∷ l) = go (is_space x) (is_pair x y) (pairs_half (y ∷ l)) (pairs_half l)
  where
    go : (a b : Bool) → 2 * length (pair_bytes (y ∷ l)) ≤ length (y ∷ l) → 2 * length (pair_bytes l) ≤ length l
        → 2 * length (cond a (pair_bytes (y ∷ l)) (cond b (pair_byte x y ∷ pair_bytes l) [])) ≤ length (x ∷ y ∷ l)
    go true b h k = omega arith
    go false true h k = omega arith
    go false false h k = omega arith

after_half : (w rest : List ℕ) → 2 * length (bytes_after w rest) ≤ length rest
unfolding bytes_after
after_half w rest = go (same w begin_word || same w settle_word)
  where
    go : (b : Bool) → 2 * length (cond b (pair_bytes rest) []) ≤ length rest
    go true = pairs_half rest
    go false = omega arith

pub half_room : (l : List ℕ) → 2 * length (bytes_of l) ≤ length l
unfolding bytes_of trimmed rest_of
half_room l =
    let t = trimmed l in
    omega (arith, after_half (word_of t) (rest_of t), length-drop (leading (is_other 32) t) t, length-drop (leading is_space l) l)

pub room : (l : List ℕ) → length (bytes_of l) ≤ length l
room l = omega (arith, half_room l)

-- The number that a beginning or a settling has is that of its bytes
abbrev number_in : Line → ℕ → ℕ
number_in Passed d = d
number_in (Begin n) d = n
number_in (Offer time) d = d
number_in (OfferInto time n) d = d
number_in (Settle n) d = n
number_in NotACall d = d

offer_number : (m : Option ℕ) (l : List ℕ) (d : ℕ) → number_in (unwrap_or (offer_at m l) NotACall) d ≡ d
offer_number None l d = refl
offer_number (Some time) l d = go (nonempty l) (numeral_of (word_of l)) (trimmed (rest_of l))
  where
    go : (a : Bool) (k : Option ℕ) (r : List ℕ) → number_in (unwrap_or (cond a (offer_into time k r) (Some (Offer time))) NotACall) d ≡ d
    go true (Some n) [] = refl
    go true (Some n) (x ∷ r) = refl
    go true None r = refl
    go false k r = refl

call_number : (w rest : List ℕ) → number_in (line_by_word w rest) (length (bytes_after w rest)) ≡ length (bytes_after w rest)
unfolding line_by_word call_by_word bytes_after pairs_of offer_with
call_number w rest = go (passed_over w) (same w begin_word) (same w offer_word) (same w settle_word) (pairs_only rest)
  where
    go : (a b c d e : Bool)
        → number_in (cond a Passed (unwrap_or (cond b (option_map Begin (cond e (Some (length (pair_bytes rest))) None)) (cond c (offer_with rest) (cond d (option_map Settle (cond e (Some (length (pair_bytes rest))) None)) None))) NotACall)) (length (cond (b || d) (pair_bytes rest) [])) ≡ length (cond (b || d) (pair_bytes rest) [])
    go true b c d e = refl
    go false true c d true = refl
    go false true c d false = refl
    go false false true d e = offer_number (numeral_of (word_of (trimmed rest))) (trimmed (rest_of (trimmed rest))) (length (cond d (pair_bytes rest) []))
    go false false false true true = refl
    go false false false true false = refl
    go false false false false e = refl

line_number : (l : List ℕ) → number_in (line_of l) (length (bytes_of l)) ≡ length (bytes_of l)
unfolding line_of bytes_of
line_number l = call_number (word_of (trimmed l)) (rest_of (trimmed l))

pub begin_number : (l : List ℕ) (n : ℕ) → line_of l ≡ Begin n → n ≡ length (bytes_of l)
begin_number l n e = rw e at (line_number l)

pub settle_number : (l : List ℕ) (n : ℕ) → line_of l ≡ Settle n → n ≡ length (bytes_of l)
settle_number l n e = rw e at (line_number l)

-- bytes that are stored at a buffer's beginning stand there, where there is room for them; so the first bytes of a buffer as long as the line are the line's
pub stored_first : (l xs : List ℕ) → length xs ≤ length l → take (length xs) (sets l 0 xs) ≡ xs
stored_first l xs h = rw (sets_start l xs h) (take_at xs (drop (length xs) l) (length xs) refl)

pub estimate_stored : (l old : List ℕ) (n : ℕ) → length l ≤ length old → n ≡ length (bytes_of l) → take n (sets old 0 (bytes_of l)) ≡ bytes_of l
estimate_stored l old n h e = rw e (stored_first old (bytes_of l) (omega (arith, room l)))
