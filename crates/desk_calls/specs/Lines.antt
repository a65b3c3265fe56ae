-- What a line of a list of calls says.
use Rattle.std.specs.Prelude.{ℕ, Bool, true, cond, ◌||◌, List, [], ◌∷◌, eqb, Option, Some, None}
use Rattle.std.specs.Option.{option_map, unwrap_or}
use Rattle.base.specs.Lists.{nonempty, same}
use Rattle.desk_parse.specs.Words.{trimmed, word_of, rest_of, pair_bytes, pairs_of, numeral_of}
use Rattle.desk_calls.specs.declared.Line.{Line}
use Rattle.desk_calls.specs.declared.Line.TheVariants.{Passed, Begin, Offer, OfferInto, Settle, NotACall}

-- "begin", "offer" and "settle"
abbrev pub begin_word : List ℕ
begin_word = 98 ∷ 101 ∷ 103 ∷ 105 ∷ 110 ∷ []

abbrev pub offer_word : List ℕ
offer_word = 111 ∷ 102 ∷ 102 ∷ 101 ∷ 114 ∷ []

abbrev pub settle_word : List ℕ
settle_word = 115 ∷ 101 ∷ 116 ∷ 116 ∷ 108 ∷ 101 ∷ []

-- a line is passed over that has no word, or whose first word begins with `#`
abbrev pub passed_over : List ℕ → Bool
passed_over [] = true
passed_over (x ∷ w) = eqb x 35

-- `offer TIME` or `offer TIME LENGTH`: by the length and what stands after it, and by the time and what stands after it
abbrev pub offer_into : ℕ → Option ℕ → List ℕ → Option Line
offer_into time (Some n) l = cond (nonempty l) None (Some (OfferInto time n))
offer_into time None l = None

abbrev pub offer_at : Option ℕ → List ℕ → Option Line
offer_at (Some time) l = cond (nonempty l) (offer_into time (numeral_of (word_of l)) (trimmed (rest_of l))) (Some (Offer time))
offer_at None l = None

unfoldable pub offer_with : List ℕ → Option Line
offer_with l = offer_at (numeral_of (word_of (trimmed l))) (trimmed (rest_of (trimmed l)))

-- a call, `begin HEX` and `settle HEX` by the pairs after the word: by a line's first word and what stands after it
unfoldable pub call_by_word : List ℕ → List ℕ → Option Line
call_by_word w rest =
    cond (same w begin_word) (option_map Begin (pairs_of rest))
    (cond (same w offer_word) (offer_with rest)
    (cond (same w settle_word) (option_map Settle (pairs_of rest)) None))

-- a line by its first word and what stands after it
unfoldable pub line_by_word : List ℕ → List ℕ → Line
line_by_word w rest = cond (passed_over w) Passed (unwrap_or (call_by_word w rest) NotACall)

unfoldable pub line_of : List ℕ → Line
line_of l = line_by_word (word_of (trimmed l)) (rest_of (trimmed l))

-- The bytes of a line's estimate, up to the first fault in them
unfoldable pub bytes_after : List ℕ → List ℕ → List ℕ
bytes_after w rest = cond (same w begin_word || same w settle_word) (pair_bytes rest) []

unfoldable pub bytes_of : List ℕ → List ℕ
bytes_of l = bytes_after (word_of (trimmed l)) (rest_of (trimmed l))
