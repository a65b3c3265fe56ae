-- The tokens of bytes, computed. proofs/Lexing.antt joins it to `Spelled`.
use Rattle.std.specs.Prelude.{ℕ, Bool, true, false, cond, ◌&&◌, ◌||◌, List, [], ◌∷◌, ◌++◌, eqb, drop}
use Prim.Native.Char.{code}
use Rattle.base.specs.Lists.{all, same}
use Rattle.text_grammar.specs.Characters.{bytes, is_blank, is_word_byte}
use Rattle.text_grammar.specs.Tokens.{Token, token_of}

-- whether a byte goes on with the run before it
unfoldable pub joins : List ℕ → ℕ → Bool
joins [] b = false
joins (c ∷ run) b = (all is_word_byte (c ∷ run) && is_word_byte b) || ((same (c ∷ run) (bytes "!") || same (c ∷ run) (bytes ">")) && eqb b (code "="))

unfoldable pub end_run : List ℕ → List Token → List Token
end_run [] tokens = tokens
end_run (c ∷ run) tokens = token_of (c ∷ run) ∷ tokens

unfoldable pub begin_run : ℕ → List ℕ
begin_run b = cond (is_blank b) [] (b ∷ [])

-- the tokens of the bytes that follow a run
unfoldable pub tokens_after : List ℕ → List ℕ → List Token
tokens_after run [] = end_run run []
tokens_after run (b ∷ bs) = elim (joins run b) [ true ↦ tokens_after (run ++ (b ∷ [])) bs | false ↦ end_run run (tokens_after (begin_run b) bs) ]

unfoldable pub tokens : List ℕ → List Token
tokens t = tokens_after [] t

-- the tokens from a place on
unfoldable pub tokens_from : List ℕ → ℕ → List Token
tokens_from t i = tokens (drop i t)
