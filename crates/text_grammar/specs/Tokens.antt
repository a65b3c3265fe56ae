-- The tokens of a text (document 02: its signs), and the bytes that each is spelled with.
use Rattle.std.specs.Prelude.{ℕ, ◌+◌, ◌*◌, ◌-◌, ◌≡◌, Bool, true, false, cond, not, ◌&&◌, List, [], ◌∷◌, ◌++◌, eqb, leb, get_or, refl}
use Rattle.std.proofs.Common.{sym, ◌∙◌, ap}
use Rattle.std.proofs.lemmas.Bool.{eqb-true, eqb-false}
use Prim.Native.Char.{code}
use Rattle.base.specs.Lists.{all, nonempty, same}
use Rattle.text_grammar.specs.Characters.{bytes, is_blank, is_digit, is_word_byte}
-- the words, and the signs without a number
pub use Rattle.text_grammar.specs.declared.tokens.Mark.{Mark}
pub use Rattle.text_grammar.specs.declared.tokens.Mark.TheVariants.{StartWord as start_word, WaitWord as wait_word, MaintainWord as maintain_word, RepeatWord as repeat_word, IfWord as if_word, ThenWord as then_word, ElseWord as else_word, EqualSign as equal_sign, DiffersSign as differs_sign, AtLeastSign as at_least_sign, BelowSign as below_sign, Semicolon as semicolon, Comma as comma, Opening as opening, Closing as closing, Colon as colon}
-- "`v0`, `c0`, `!=` and `>=` are one sign each". `unknown` is a run of bytes that is no sign: nothing is written with it
pub use Rattle.text_grammar.specs.declared.tokens.Token.{Token}
pub use Rattle.text_grammar.specs.declared.tokens.Token.TheVariants.{Mark as mark, Number as number, Variable as variable, Clock as clock, Unknown as unknown}

-- the places of the marks in their order, by which two are told apart
abbrev pub mark_place : Mark → ℕ
mark_place start_word = 0
mark_place wait_word = 1
mark_place maintain_word = 2
mark_place repeat_word = 3
mark_place if_word = 4
mark_place then_word = 5
mark_place else_word = 6
mark_place equal_sign = 7
mark_place differs_sign = 8
mark_place at_least_sign = 9
mark_place below_sign = 10
mark_place semicolon = 11
mark_place comma = 12
mark_place opening = 13
mark_place closing = 14
mark_place colon = 15

-- "Words are small letters"
unfoldable pub spelling : Mark → List ℕ
spelling start_word = bytes "start"
spelling wait_word = bytes "wait"
spelling maintain_word = bytes "maintain"
spelling repeat_word = bytes "repeat"
spelling if_word = bytes "if"
spelling then_word = bytes "then"
spelling else_word = bytes "else"
spelling equal_sign = bytes "="
spelling differs_sign = bytes "!="
spelling at_least_sign = bytes ">="
spelling below_sign = bytes "<"
spelling semicolon = bytes ";"
spelling comma = bytes ","
spelling opening = bytes "("
spelling closing = bytes ")"
spelling colon = bytes ":"

abbrev pub marks : List Mark
marks =
    start_word
    ∷ wait_word
    ∷ maintain_word
    ∷ repeat_word
    ∷ if_word
    ∷ then_word
    ∷ else_word
    ∷ equal_sign
    ∷ differs_sign
    ∷ at_least_sign
    ∷ below_sign
    ∷ semicolon
    ∷ comma
    ∷ opening
    ∷ closing
    ∷ colon
    ∷ []

pub mark_back : (m : Mark) → get_or marks (mark_place m) colon ≡ m
mark_back start_word = refl
mark_back wait_word = refl
mark_back maintain_word = refl
mark_back repeat_word = refl
mark_back if_word = refl
mark_back then_word = refl
mark_back else_word = refl
mark_back equal_sign = refl
mark_back differs_sign = refl
mark_back at_least_sign = refl
mark_back below_sign = refl
mark_back semicolon = refl
mark_back comma = refl
mark_back opening = refl
mark_back closing = refl
mark_back colon = refl

abbrev pub mark-discrete : (m k : Mark) → Dec (m ≡ k)
mark-discrete m k = go (eqb (mark_place m) (mark_place k)) refl
  where
    go : (b : Bool) → eqb (mark_place m) (mark_place k) ≡ b → Dec (m ≡ k)
    go true e = yes (sym (mark_back m) ∙ ap (λ (p : ℕ). get_or marks p colon) (eqb-true (mark_place m) (mark_place k) e) ∙ mark_back k)
    go false e = no (λ h. eqb-false (mark_place m) (mark_place k) e (ap mark_place h))

-- "numbers in decimal up to 65535 without leading zeros"
abbrev pub max_number : ℕ
max_number = 65535

unfoldable pub decimal_from : ℕ → List ℕ → ℕ
decimal_from x [] = x
decimal_from x (d ∷ ds) = decimal_from (x * 10 + (d - code "0")) ds

abbrev pub decimal : List ℕ → ℕ
decimal run = decimal_from 0 run

-- a digit 0 with more digits behind it
unfoldable pub leading_zero : List ℕ → Bool
leading_zero [] = false
leading_zero (d ∷ []) = false
leading_zero (d ∷ e ∷ ds) = eqb d (code "0")

unfoldable pub is_number : List ℕ → Bool
is_number run = nonempty run && (all is_digit run && (not (leading_zero run) && leb (decimal run) max_number))

-- what a number makes, where the run is one
abbrev pub numbered : (ℕ → Token) → List ℕ → Token → Token
numbered token run other = cond (is_number run) (token (decimal run)) other

-- `v` and `c` with a number
unfoldable pub named_token : List ℕ → Token
named_token [] = unknown
named_token (b ∷ run) =
    cond (eqb b (code "v")) (numbered variable run unknown)
    (cond (eqb b (code "c")) (numbered clock run unknown) unknown)

-- the token that is spelled with a run of bytes: one of these marks, a number, or a name
unfoldable pub token_among : List Mark → List ℕ → Token
token_among [] run = numbered number run (named_token run)
token_among (m ∷ ms) run = cond (same run (spelling m)) (mark m) (token_among ms run)

unfoldable pub token_of : List ℕ → Token
token_of run = token_among marks run

unfoldable pub is_known : Token → Bool
is_known (mark m) = true
is_known (number n) = true
is_known (variable n) = true
is_known (clock n) = true
is_known unknown = false

-- "At least one space or line end stands where a letter or digit would otherwise follow a word, number, `v0` or `c0` directly": `follows` says
-- that one of these stands before the gap
unfoldable pub is_apart : Bool → List ℕ → List ℕ → Bool
is_apart follows (b ∷ gap) run = true
is_apart follows [] [] = true
is_apart follows [] (b ∷ run) = not (follows && is_word_byte b)

-- The tokens that bytes spell, with gaps between them and at both ends: words, numbers and names are of letters and digits alone
pub data Spelled : Bool → List ℕ → List Token → Type 0 where
  ends : {follows : Bool} {gap : List ℕ} → all is_blank gap ≡ true → Spelled follows gap []
  token : {follows : Bool} (gap run : List ℕ) {rest : List ℕ} {tokens : List Token}
      → all is_blank gap ≡ true → is_apart follows gap run ≡ true → is_known (token_of run) ≡ true
      → Spelled (all is_word_byte run) rest tokens → Spelled follows (gap ++ (run ++ rest)) (token_of run ∷ tokens)
