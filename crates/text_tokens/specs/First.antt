-- What the code answers of the first token from a place on: the token, and where it ends.
use Rattle.std.specs.Prelude.{ℕ, ◌-◌, ◌<◌, ◌≤◌, ◌≡◌, true, false, cond, ◌≢◌, List, [], ◌∷◌, length, eqb, get_or, take, drop, Option, Some, None, find}
use Rattle.base.specs.Lists.{all, same}
use Rattle.text_grammar.specs.Characters.{is_blank, is_word_byte}
use Rattle.text_grammar.specs.declared.tokens.Mark.{Mark}
use Rattle.text_grammar.specs.declared.tokens.Token.{Token}
use Rattle.text_grammar.specs.Tokens.{marks, spelling, decimal, is_number, token_of}
use Rattle.text_grammar.specs.Lexer.{tokens_from}
use Rattle.text_stops.specs.Places.{cut_at}

-- the first of some tokens, if there is one
unfoldable pub first_token : List Token → Option Token
first_token [] = None
first_token (t ∷ ts) = Some t

unfoldable pub later_tokens : List Token → List Token
later_tokens [] = []
later_tokens (t ∷ ts) = ts

-- the first of these marks that is spelled so, if one is
unfoldable pub mark_among : List Mark → List ℕ → Option Mark
mark_among ms run = find (λ m. same run (spelling m)) ms

-- the first of the marks whose spelling begins with a byte, if one's does
unfoldable pub mark_from : ℕ → Option Mark
mark_from b = find (λ m. eqb b (get_or (spelling m) 0 0)) marks

-- the number that a run is, if it is one
unfoldable pub number_in : List ℕ → Option ℕ
number_in run = cond (is_number run) (Some (decimal run)) None

-- i is the place of the first byte from `from` on that is no blank
pub record Skipped (t : List ℕ) (from i : ℕ) : Type 0 where
  pub onward : from ≤ i
  pub within : from ≤ length t → i ≤ length t
  pub same_tokens : tokens_from t i ≡ tokens_from t from
  pub no_blank : i < length t → is_blank (get_or t i 0) ≡ false
  pub uncut : cut_at t from ≡ 0 → cut_at t i ≡ 0

-- letters and digits stand from i up to e, and none at e
pub record WordEnds (t : List ℕ) (i e : ℕ) : Type 0 where
  pub onward : i ≤ e
  pub within : e ≤ length t
  pub word : all is_word_byte (take (e - i) (drop i t)) ≡ true
  pub ended : e < length t → is_word_byte (get_or t e 0) ≡ false

-- the run that begins at i ends at e, and is the first token
pub record RunEnds (t : List ℕ) (i e : ℕ) : Type 0 where
  pub onward : i < e
  pub within : e ≤ length t
  pub first_is : tokens_from t i ≡ token_of (take (e - i) (drop i t)) ∷ tokens_from t e
  pub uncut : cut_at t e ≡ 0

-- the first token from `from` on, if there is one, ends at e
pub record Passed (t : List ℕ) (from e : ℕ) : Type 0 where
  pub onward : from ≤ e
  pub further : tokens_from t from ≢ [] → from < e
  pub within : e ≤ length t
  pub later : tokens_from t e ≡ later_tokens (tokens_from t from)
  pub uncut : cut_at t e ≡ 0
