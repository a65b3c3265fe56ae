-- Where a text that does not fit the grammar stops fitting it: the place of the first token with which no text goes on.
use Rattle.std.specs.Prelude.{ℕ, zero, suc, ◌+◌, ◌-◌, Bool, cond, ◌&&◌, ◌||◌, List, [], ◌∷◌, ◌++◌, eqb, leb, length, get_or}
use Prim.Native.Char.{code}
use Rattle.base.specs.Lists.{flag}
use Rattle.text_grammar.specs.Characters.{is_blank, is_word_byte}
use Rattle.text_grammar.specs.Syntax.{Text}
use Rattle.text_grammar.specs.Texts.{max_text_length}
use Rattle.text_grammar.specs.Lexer.{tokens}
use Rattle.text_grammar.specs.Parser.{Parsed, got, stopped, parse_text}

-- whether the byte b belongs to the token of the byte a before it
unfoldable pub goes_on : ℕ → ℕ → Bool
goes_on a b = (is_word_byte a && is_word_byte b) || ((eqb a (code "!") || eqb a (code ">")) && eqb b (code "="))

-- the places at which tokens begin among bytes that stand from place i on, after the byte a
unfoldable pub places_after : ℕ → ℕ → List ℕ → List ℕ
places_after a i [] = []
places_after a i (b ∷ bs) = cond (is_blank b || goes_on a b) [] (i ∷ []) ++ places_after b (i + 1) bs

-- The place of each token of a text, in their order. Nothing goes on with a blank
unfoldable pub places : List ℕ → List ℕ
places t = places_after (code " ") 0 t

-- the place of the first of the last n tokens; the text's end where n is 0
unfoldable pub place_of_last : List ℕ → ℕ → ℕ
place_of_last t n = get_or (places t) (length (places t) - n) (length t)

unfoldable pub stop_of : List ℕ → Parsed Text → ℕ
stop_of t (got x rest) = length t
stop_of t (stopped rest) = place_of_last t (length rest)

-- Where a text stops fitting: at the token from which on the reading has stopped, at the text's end where that comes too early or the text fits, at the
-- longest length where it is longer
unfoldable pub stop_place : List ℕ → ℕ
stop_place t = cond (leb (length t) max_text_length) (stop_of t (parse_text (tokens t))) max_text_length

-- 1 where a token stands on both sides of a place, and 0 elsewhere
unfoldable pub cut_at : List ℕ → ℕ → ℕ
cut_at t zero = 0
cut_at t (suc i) = flag (goes_on (get_or t i 0) (get_or t (suc i) 0))
