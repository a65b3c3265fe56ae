-- The grammar of a text: its forms, brackets kept, and the tokens that each is written with.
use Rattle.std.specs.Prelude.{ℕ, List, [], ◌∷◌}
use Rattle.text_grammar.specs.Tokens.{start_word, wait_word, maintain_word, repeat_word, if_word, then_word, else_word, equal_sign, differs_sign, at_least_sign, below_sign, semicolon, comma, opening, closing, colon, Token, mark, number, variable, clock}

-- "Conditions are written `v0=1`, `v0!=1`, `c0>=5`, `c0<5`"
pub data Condition : Type 0 where
  variable_equals variable_differs clock_at_least clock_below : ℕ → ℕ → Condition

-- "Steps are `v0=1` (goal), `start c0`, `wait` and a condition, `maintain` condition step, `repeat` step, and `if` condition `then` step `else` step."
-- "A step may be a whole text, without its sizes and colon, in round brackets". "Prefix words bind tightest, then `;` (SEQ), then `,` (PAR)": a
-- sequence is of steps, and a body of sequences
mutual
  pub data Step : Type 0 where
    goal_step : ℕ → ℕ → Step
    start_step : ℕ → Step
    wait_step : Condition → Step
    maintain_step : Condition → Step → Step
    repeat_step : Step → Step
    if_step : Condition → Step → Step → Step
    bracketed : Body → Step

  pub data Sequence : Type 0 where
    one_step : Step → Sequence
    more_steps : Step → Sequence → Sequence

  pub data Body : Type 0 where
    one_sequence : Sequence → Body
    more_sequences : Sequence → Body → Body

-- "V and K come before the colon"
pub record Text : Type 0 where
  pub variables : ℕ
  pub clocks : ℕ
  pub body : Body

-- The tokens of each form, and then those that follow it
unfoldable pub write_condition : Condition → List Token → List Token
write_condition (variable_equals v n) rest = variable v ∷ mark equal_sign ∷ number n ∷ rest
write_condition (variable_differs v n) rest = variable v ∷ mark differs_sign ∷ number n ∷ rest
write_condition (clock_at_least c n) rest = clock c ∷ mark at_least_sign ∷ number n ∷ rest
write_condition (clock_below c n) rest = clock c ∷ mark below_sign ∷ number n ∷ rest

unfoldable mutual
  pub write_step : Step → List Token → List Token
  write_step (goal_step v n) rest = variable v ∷ mark equal_sign ∷ number n ∷ rest
  write_step (start_step c) rest = mark start_word ∷ clock c ∷ rest
  write_step (wait_step o) rest = mark wait_word ∷ write_condition o rest
  write_step (maintain_step o s) rest = mark maintain_word ∷ write_condition o (write_step s rest)
  write_step (repeat_step s) rest = mark repeat_word ∷ write_step s rest
  write_step (if_step o s u) rest = mark if_word ∷ write_condition o (mark then_word ∷ write_step s (mark else_word ∷ write_step u rest))
  write_step (bracketed b) rest = mark opening ∷ write_body b (mark closing ∷ rest)

  pub write_sequence : Sequence → List Token → List Token
  write_sequence (one_step s) rest = write_step s rest
  write_sequence (more_steps s q) rest = write_step s (mark semicolon ∷ write_sequence q rest)

  pub write_body : Body → List Token → List Token
  write_body (one_sequence q) rest = write_sequence q rest
  write_body (more_sequences q b) rest = write_sequence q (mark comma ∷ write_body b rest)

unfoldable pub write_text : Text → List Token
write_text x = number x.variables ∷ number x.clocks ∷ mark colon ∷ write_body x.body []
