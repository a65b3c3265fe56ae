-- Which bytes are a text that fits the grammar, and with which reading.
use Rattle.std.specs.Prelude.{ℕ, ◌≤◌, false, List, length}
use Rattle.text_grammar.specs.Tokens.{Spelled}
use Rattle.text_grammar.specs.Syntax.{Text, write_text}

-- "A text has at most 16,384 bytes"
abbrev pub max_text_length : ℕ
max_text_length = 16384

-- "it fits this grammar"
pub record Fits (t : List ℕ) (x : Text) : Type 0 where
  pub short_enough : length t ≤ max_text_length
  pub spelled : Spelled false t (write_text x)
