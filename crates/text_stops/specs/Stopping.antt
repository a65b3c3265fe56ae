-- What it means that a reading stops: all before the place may begin a text, and with the token at the place no text goes on.
use Rattle.std.specs.Prelude.{ℕ, ◌≤◌, ◌<◌, ◌≡◌, false, List, [], ◌∷◌, ◌++◌, length, get_or, take}
use Rattle.std.proofs.Math.Option.{Option, none, some}
use Rattle.text_grammar.specs.Characters.{is_blank}
use Rattle.text_grammar.specs.declared.tokens.Token.{Token}
use Rattle.text_grammar.specs.Syntax.{Text, write_text}
use Rattle.text_grammar.specs.Lexer.{tokens, tokens_from}

-- the first of some tokens, if there is one
unfoldable pub first_token : List Token → Option Token
first_token [] = none
first_token (t ∷ ts) = some t

-- After the tokens `before` a text may go on, but not with the first of the tokens `rest`; where there is none, no text ends there
pub record StopsAfter (before rest : List Token) : Type 0 where
  pub text : Text
  pub more : List Token
  pub begins_text : write_text text ≡ before ++ more
  pub none_goes_on : (x : Text) (us : List Token) → first_token us ≡ first_token rest → write_text x ≡ before ++ us → ⊥

-- The tokens `rest`, with which a list of tokens ends, are those from which on it stops being a text
pub record Stopping (ts rest : List Token) : Type 0 where
  pub before : List Token
  pub all_are : ts ≡ before ++ rest
  pub stops : StopsAfter before rest

-- The place e of a text, at which a token begins or the text ends, is where the text stops fitting
pub record StopsFitting (t : List ℕ) (e : ℕ) : Type 0 where
  pub inside : e ≤ length t
  pub no_blank : e < length t → is_blank (get_or t e 0) ≡ false
  pub no_token_cut : tokens t ≡ tokens (take e t) ++ tokens_from t e
  pub stops : StopsAfter (tokens (take e t)) (tokens_from t e)
