-- The reading of tokens, computed. proofs/Exact.antt joins it to `write_text`.
use Rattle.std.specs.Prelude.{ℕ, zero, suc, ◌+◌, ◌*◌, cond, List, [], ◌∷◌, leb, length}
use Rattle.std.proofs.Math.Option.{Option, none, some}
use Rattle.text_grammar.specs.Tokens.{Mark, mark-discrete, start_word, wait_word, maintain_word, repeat_word, if_word, then_word, else_word, equal_sign, differs_sign, at_least_sign, below_sign, semicolon, comma, opening, closing, colon, Token, mark, number, variable, clock, unknown}
use Rattle.text_grammar.specs.Syntax.{Condition, variable_equals, variable_differs, clock_at_least, clock_below, Step, goal_step, start_step, wait_step, maintain_step, repeat_step, if_step, bracketed, Sequence, one_step, more_steps, Body, one_sequence, more_sequences, Text}
use Rattle.text_grammar.specs.Texts.{max_text_length}
use Rattle.text_grammar.specs.Lexer.{tokens}

-- What was read and the tokens after it; or the tokens from the one on with which no reading goes on
pub data Parsed (A : Type 0) : Type 0 where
  got : A → List Token → Parsed A
  stopped : List Token → Parsed A

unfoldable pub bind : {A B : Type 0} → Parsed A → (A → List Token → Parsed B) → Parsed B
bind (got a rest) f = f a rest
bind (stopped rest) f = stopped rest

abbrev pub when : {A P : Type 0} → Dec P → A → A → A
when (yes p) a b = a
when (no q) a b = b

-- reads on after the mark m, or goes another way where it does not stand there
unfoldable pub on_mark : {A : Type 0} → Mark → List Token → (List Token → A) → A → A
on_mark m [] f other = other
on_mark m (mark k ∷ rest) f other = when (mark-discrete k m) (f rest) other
on_mark m (number n ∷ rest) f other = other
on_mark m (variable n ∷ rest) f other = other
on_mark m (clock n ∷ rest) f other = other
on_mark m (unknown ∷ rest) f other = other

abbrev pub expect : {A : Type 0} → Mark → List Token → (List Token → Parsed A) → Parsed A
expect m ts f = on_mark m ts f (stopped ts)

unfoldable pub parse_number : List Token → Parsed ℕ
parse_number [] = stopped []
parse_number (mark m ∷ rest) = stopped (mark m ∷ rest)
parse_number (number n ∷ rest) = got n rest
parse_number (variable n ∷ rest) = stopped (variable n ∷ rest)
parse_number (clock n ∷ rest) = stopped (clock n ∷ rest)
parse_number (unknown ∷ rest) = stopped (unknown ∷ rest)

unfoldable pub parse_clock : List Token → Parsed ℕ
parse_clock [] = stopped []
parse_clock (mark m ∷ rest) = stopped (mark m ∷ rest)
parse_clock (number n ∷ rest) = stopped (number n ∷ rest)
parse_clock (variable n ∷ rest) = stopped (variable n ∷ rest)
parse_clock (clock n ∷ rest) = got n rest
parse_clock (unknown ∷ rest) = stopped (unknown ∷ rest)

-- a number, and what it makes
unfoldable pub parse_value : {A : Type 0} → (ℕ → A) → List Token → Parsed A
parse_value f ts = bind (parse_number ts) (λ n rest. got (f n) rest)

unfoldable pub parse_condition : List Token → Parsed Condition
parse_condition [] = stopped []
parse_condition (mark m ∷ rest) = stopped (mark m ∷ rest)
parse_condition (number n ∷ rest) = stopped (number n ∷ rest)
parse_condition (variable v ∷ rest) = on_mark equal_sign rest (parse_value (variable_equals v)) (expect differs_sign rest (parse_value (variable_differs v)))
parse_condition (clock c ∷ rest) = on_mark at_least_sign rest (parse_value (clock_at_least c)) (expect below_sign rest (parse_value (clock_below c)))
parse_condition (unknown ∷ rest) = stopped (unknown ∷ rest)

-- What follows the first step of a sequence, the first sequence of a body, and the body of a group, given how the rest is read
unfoldable pub sequence_rest : (List Token → Parsed Sequence) → Step → List Token → Parsed Sequence
sequence_rest parse s ts = on_mark semicolon ts (λ rest. bind (parse rest) (λ q after. got (more_steps s q) after)) (got (one_step s) ts)

unfoldable pub body_rest : (List Token → Parsed Body) → Sequence → List Token → Parsed Body
body_rest parse q ts = on_mark comma ts (λ rest. bind (parse rest) (λ b after. got (more_sequences q b) after)) (got (one_sequence q) ts)

unfoldable pub close_group : Body → List Token → Parsed Step
close_group b ts = expect closing ts (λ rest. got (bracketed b) rest)

-- the branches of an `if`, given how a step is read
unfoldable pub parse_branches : (List Token → Parsed Step) → Condition → List Token → Parsed Step
parse_branches parse o ts =
    expect then_word ts
    (λ rest. bind (parse rest)
    (λ s after. expect else_word after
    (λ rest. bind (parse rest)
    (λ u end. got (if_step o s u) end))))

-- A step, by the first token. Each call is given how many calls may go below it: `parse_step`, `parse_sequence` and `parse_body` give enough
unfoldable mutual
  pub step_within : ℕ → List Token → Parsed Step
  step_within zero ts = stopped ts
  step_within (suc f) [] = stopped []
  step_within (suc f) (number n ∷ rest) = stopped (number n ∷ rest)
  step_within (suc f) (variable v ∷ rest) = expect equal_sign rest (parse_value (goal_step v))
  step_within (suc f) (clock c ∷ rest) = stopped (clock c ∷ rest)
  step_within (suc f) (unknown ∷ rest) = stopped (unknown ∷ rest)
  step_within (suc f) (mark start_word ∷ rest) = bind (parse_clock rest) (λ c after. got (start_step c) after)
  step_within (suc f) (mark wait_word ∷ rest) = bind (parse_condition rest) (λ o after. got (wait_step o) after)
  step_within (suc f) (mark maintain_word ∷ rest) = bind (parse_condition rest) (λ o after. bind (step_within f after) (λ s end. got (maintain_step o s) end))
  step_within (suc f) (mark repeat_word ∷ rest) = bind (step_within f rest) (λ s after. got (repeat_step s) after)
  step_within (suc f) (mark if_word ∷ rest) = bind (parse_condition rest) (parse_branches (step_within f))
  step_within (suc f) (mark then_word ∷ rest) = stopped (mark then_word ∷ rest)
  step_within (suc f) (mark else_word ∷ rest) = stopped (mark else_word ∷ rest)
  step_within (suc f) (mark equal_sign ∷ rest) = stopped (mark equal_sign ∷ rest)
  step_within (suc f) (mark differs_sign ∷ rest) = stopped (mark differs_sign ∷ rest)
  step_within (suc f) (mark at_least_sign ∷ rest) = stopped (mark at_least_sign ∷ rest)
  step_within (suc f) (mark below_sign ∷ rest) = stopped (mark below_sign ∷ rest)
  step_within (suc f) (mark semicolon ∷ rest) = stopped (mark semicolon ∷ rest)
  step_within (suc f) (mark comma ∷ rest) = stopped (mark comma ∷ rest)
  step_within (suc f) (mark opening ∷ rest) = bind (body_within f rest) close_group
  step_within (suc f) (mark closing ∷ rest) = stopped (mark closing ∷ rest)
  step_within (suc f) (mark colon ∷ rest) = stopped (mark colon ∷ rest)

  pub sequence_within : ℕ → List Token → Parsed Sequence
  sequence_within zero ts = stopped ts
  sequence_within (suc f) ts = bind (step_within f ts) (sequence_rest (sequence_within f))

  pub body_within : ℕ → List Token → Parsed Body
  body_within zero ts = stopped ts
  body_within (suc f) ts = bind (sequence_within f ts) (body_rest (body_within f))

-- at most three calls for each token, and three for none
abbrev pub calls_for : List Token → ℕ
calls_for ts = 3 * length ts + 3

unfoldable pub parse_step : List Token → Parsed Step
parse_step ts = step_within (calls_for ts) ts

unfoldable pub parse_sequence : List Token → Parsed Sequence
parse_sequence ts = sequence_within (calls_for ts) ts

unfoldable pub parse_body : List Token → Parsed Body
parse_body ts = body_within (calls_for ts) ts

-- nothing follows the text
unfoldable pub end_text : Text → List Token → Parsed Text
end_text x [] = got x []
end_text x (t ∷ ts) = stopped (t ∷ ts)

unfoldable pub parse_text : List Token → Parsed Text
parse_text ts =
    bind (parse_number ts)
    (λ v rest. bind (parse_number rest)
    (λ k rest. expect colon rest
    (λ rest. bind (parse_body rest)
    (λ b rest. end_text (record { variables = v; clocks = k; body = b }) rest))))

unfoldable pub whole : Parsed Text → Option Text
whole (got x rest) = some x
whole (stopped rest) = none

-- the reading of a text, where it has one
unfoldable pub reading : List ℕ → Option Text
reading t = cond (leb (length t) max_text_length) (whole (parse_text (tokens t))) none
