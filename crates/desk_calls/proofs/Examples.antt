-- Lines and what they say, computed by the definitions: one fact over a table of them.
use Prim.Native.Nat.{ℕ}
use mathlib.Core.Path.{◌≡◌, refl}
use mathlib.Core.List.{List, [], ◌∷◌, ◌++◌, map}
use Rattle.desk_parse.specs.Words.{leading, trimmed, word_of, rest_of, digit_of, pair_bytes, pairs_only, pairs_of, next_value, decimal_from, numeral_of}
use Rattle.desk_calls.specs.declared.Line.{Line}
use Rattle.desk_calls.specs.declared.Line.TheVariants.{Passed, Begin, Offer, OfferInto, Settle, NotACall}
use Rattle.desk_calls.specs.Lines.{begin_word, offer_word, settle_word, offer_with, call_by_word, line_by_word, line_of, bytes_after, bytes_of}

-- a line, what it says, and the bytes that it carries
pub record Example : Type 0 where
  pub line : List ℕ
  pub says : Line
  pub carries : List ℕ

-- "begin 00 fA", "begin", "begin  0aFF", "offer 12", "offer 4294967295", "  offer  7  3 ", "settle", "settle 01 ";
-- passed over: "#x", "", "  "; and no calls: "begin 0", "begin 0 1", "begin 01 0g", "offer", "offer x", "offer 4294967296",
-- "offer 1 2 3", "offer 1 x", "start 1", "beginn 00", "Begin 00", and "offer 1 2" with a tab between the numbers
table : List Example
table =
    record { line = begin_word ++ (32 ∷ 48 ∷ 48 ∷ 32 ∷ 102 ∷ 65 ∷ []); says = Begin 2; carries = 0 ∷ 250 ∷ [] }
    ∷ record { line = begin_word; says = Begin 0; carries = [] }
    ∷ record { line = begin_word ++ (32 ∷ 32 ∷ 48 ∷ 97 ∷ 70 ∷ 70 ∷ []); says = Begin 2; carries = 10 ∷ 255 ∷ [] }
    ∷ record { line = offer_word ++ (32 ∷ 49 ∷ 50 ∷ []); says = Offer 12; carries = [] }
    ∷ record { line = offer_word ++ (32 ∷ 52 ∷ 50 ∷ 57 ∷ 52 ∷ 57 ∷ 54 ∷ 55 ∷ 50 ∷ 57 ∷ 53 ∷ []); says = Offer 4294967295; carries = [] }
    ∷ record { line = 32 ∷ 32 ∷ 111 ∷ 102 ∷ 102 ∷ 101 ∷ 114 ∷ 32 ∷ 32 ∷ 55 ∷ 32 ∷ 32 ∷ 51 ∷ 32 ∷ []; says = OfferInto 7 3; carries = [] }
    ∷ record { line = settle_word; says = Settle 0; carries = [] }
    ∷ record { line = settle_word ++ (32 ∷ 48 ∷ 49 ∷ 32 ∷ []); says = Settle 1; carries = 1 ∷ [] }
    ∷ record { line = 35 ∷ 120 ∷ []; says = Passed; carries = [] }
    ∷ record { line = []; says = Passed; carries = [] }
    ∷ record { line = 32 ∷ 32 ∷ []; says = Passed; carries = [] }
    ∷ record { line = begin_word ++ (32 ∷ 48 ∷ []); says = NotACall; carries = [] }
    ∷ record { line = begin_word ++ (32 ∷ 48 ∷ 32 ∷ 49 ∷ []); says = NotACall; carries = [] }
    ∷ record { line = begin_word ++ (32 ∷ 48 ∷ 49 ∷ 32 ∷ 48 ∷ 103 ∷ []); says = NotACall; carries = 1 ∷ [] }
    ∷ record { line = offer_word; says = NotACall; carries = [] }
    ∷ record { line = offer_word ++ (32 ∷ 120 ∷ []); says = NotACall; carries = [] }
    ∷ record { line = offer_word ++ (32 ∷ 52 ∷ 50 ∷ 57 ∷ 52 ∷ 57 ∷ 54 ∷ 55 ∷ 50 ∷ 57 ∷ 54 ∷ []); says = NotACall; carries = [] }
    ∷ record { line = offer_word ++ (32 ∷ 49 ∷ 32 ∷ 50 ∷ 32 ∷ 51 ∷ []); says = NotACall; carries = [] }
    ∷ record { line = offer_word ++ (32 ∷ 49 ∷ 32 ∷ 120 ∷ []); says = NotACall; carries = [] }
    ∷ record { line = 115 ∷ 116 ∷ 97 ∷ 114 ∷ 116 ∷ 32 ∷ 49 ∷ []; says = NotACall; carries = [] }
    ∷ record { line = begin_word ++ (110 ∷ 32 ∷ 48 ∷ 48 ∷ []); says = NotACall; carries = [] }
    ∷ record { line = 66 ∷ 101 ∷ 103 ∷ 105 ∷ 110 ∷ 32 ∷ 48 ∷ 48 ∷ []; says = NotACall; carries = [] }
    ∷ record { line = offer_word ++ (32 ∷ 49 ∷ 9 ∷ 50 ∷ []); says = NotACall; carries = [] }
    ∷ []

examples : map {B = Line × List ℕ} (λ e. (line_of e.line, bytes_of e.line)) table ≡ map (λ e. (e.says, e.carries)) table
unfolding table leading trimmed word_of rest_of digit_of pair_bytes pairs_only pairs_of next_value decimal_from numeral_of offer_with call_by_word line_by_word line_of bytes_after bytes_of
examples = refl
