-- What is parsed is written so.
use Prim.Native.Nat.{ℕ, zero, suc}
use mathlib.Core.Path.{◌≡◌, refl, ap, ◌∙◌}
use mathlib.Core.List.{List, [], ◌∷◌}
use Rattle.text_grammar.specs.Tokens.{Mark, mark-discrete, start_word, wait_word, maintain_word, repeat_word, if_word, then_word, else_word, equal_sign, differs_sign, at_least_sign, below_sign, semicolon, comma, opening, closing, colon, Token, mark, number, variable, clock, unknown}
use Rattle.text_grammar.specs.Syntax.{variable_equals, variable_differs, clock_at_least, clock_below, Step, goal_step, maintain_step, repeat_step, Text, write_condition, write_step, write_sequence, write_body, write_text}
use Rattle.text_grammar.specs.Parser.{Parsed, got, stopped, bind, when, on_mark, parse_number, parse_clock, parse_value, parse_condition, sequence_rest, body_rest, close_group, parse_branches, step_within, sequence_within, body_within, calls_for, parse_body, end_text, parse_text}

-- A reading of `ts` that is written, by w, as these tokens
abbrev pub Written : {A : Type 0} → (A → List Token → List Token) → List Token → Parsed A → Type 0
Written w ts (got a rest) = ts ≡ w a rest
Written w ts (stopped rest) = Unit

-- reading on, after what is written by v
module _ {B : Type 0} (w : B → List Token → List Token) (ts : List Token) where
  written_bind : {A : Type 0} (v : A → List Token → List Token) (us : List Token) (o : Parsed A) (f : A → List Token → Parsed B)
      → Written v us o → ((a : A) (rest : List Token) → us ≡ v a rest → Written w ts (f a rest)) → Written w ts (bind o f)
  unfolding bind
  written_bind v us (got a rest) f e h = h a rest e
  written_bind v us (stopped rest) f e h = tt

  written_mark : (m : Mark) (us : List Token) (f : List Token → Parsed B) (other : Parsed B)
      → ((rest : List Token) → us ≡ mark m ∷ rest → Written w ts (f rest)) → Written w ts other → Written w ts (on_mark m us f other)
  unfolding on_mark
  written_mark m [] f other h g = g
  written_mark m (mark k ∷ us) f other h g = go (mark-discrete k m)
    where
      go : (d : Dec (k ≡ m)) → Written w ts (when d (f us) other)
      go (yes e) = h us (ap (λ (i : Mark). mark i ∷ us) e)
      go (no e) = g
  written_mark m (number n ∷ us) f other h g = g
  written_mark m (variable n ∷ us) f other h g = g
  written_mark m (clock n ∷ us) f other h g = g
  written_mark m (unknown ∷ us) f other h g = g

abbrev write_number : ℕ → List Token → List Token
write_number n rest = number n ∷ rest

number_written : (ts : List Token) → Written write_number ts (parse_number ts)
unfolding parse_number
number_written [] = tt
number_written (mark k ∷ ts) = tt
number_written (number n ∷ ts) = refl
number_written (variable n ∷ ts) = tt
number_written (clock n ∷ ts) = tt
number_written (unknown ∷ ts) = tt

clock_written : (ts : List Token) → Written (λ c rest. clock c ∷ rest) ts (parse_clock ts)
unfolding parse_clock
clock_written [] = tt
clock_written (mark k ∷ ts) = tt
clock_written (number n ∷ ts) = tt
clock_written (variable n ∷ ts) = tt
clock_written (clock n ∷ ts) = refl
clock_written (unknown ∷ ts) = tt

-- a mark and a number
value_written : {B : Type 0} (w : B → List Token → List Token) (ts us rest : List Token) (m : Mark) (f : ℕ → B)
    → ((n : ℕ) (after : List Token) → us ≡ mark m ∷ number n ∷ after → ts ≡ w (f n) after) → us ≡ mark m ∷ rest → Written w ts (parse_value f rest)
unfolding parse_value
value_written w ts us rest m f h e =
    written_bind w ts write_number rest (parse_number rest) _ (number_written rest) (λ n after i. h n after (e ∙ ap (λ (l : List Token). mark m ∷ l) i))

pub condition_written : (ts : List Token) → Written write_condition ts (parse_condition ts)
unfolding parse_condition write_condition
condition_written [] = tt
condition_written (mark k ∷ ts) = tt
condition_written (number n ∷ ts) = tt
condition_written (variable v ∷ ts) =
    let w : List Token → List Token = λ l. variable v ∷ l in
    written_mark write_condition (variable v ∷ ts) equal_sign ts _ _
    (λ rest. value_written write_condition (variable v ∷ ts) ts rest equal_sign (variable_equals v) (λ n after. ap w))
    (written_mark write_condition (variable v ∷ ts) differs_sign ts _ _
    (λ rest. value_written write_condition (variable v ∷ ts) ts rest differs_sign (variable_differs v) (λ n after. ap w)) tt)
condition_written (clock c ∷ ts) =
    let w : List Token → List Token = λ l. clock c ∷ l in
    written_mark write_condition (clock c ∷ ts) at_least_sign ts _ _
    (λ rest. value_written write_condition (clock c ∷ ts) ts rest at_least_sign (clock_at_least c) (λ n after. ap w))
    (written_mark write_condition (clock c ∷ ts) below_sign ts _ _
    (λ rest. value_written write_condition (clock c ∷ ts) ts rest below_sign (clock_below c) (λ n after. ap w)) tt)
condition_written (unknown ∷ ts) = tt

marked : (m : Mark) {a b : List Token} → a ≡ b → mark m ∷ a ≡ mark m ∷ b
marked m e = ap (λ (l : List Token). mark m ∷ l) e

-- the forms that read on, over what a step is read with
module _ (step : List Token → Parsed Step) (written : (ts : List Token) → Written write_step ts (step ts)) where
  maintain_written : (ts : List Token)
      → Written write_step (mark maintain_word ∷ ts) (bind (parse_condition ts) (λ o after. bind (step after) (λ s end. got (maintain_step o s) end)))
  unfolding write_step
  maintain_written ts =
      written_bind write_step (mark maintain_word ∷ ts) write_condition ts (parse_condition ts) _ (condition_written ts)
      (λ o after e. written_bind write_step (mark maintain_word ∷ ts) write_step after (step after) _ (written after)
      (λ s end i. marked maintain_word (e ∙ ap (write_condition o) i)))

  repeat_written : (ts : List Token) → Written write_step (mark repeat_word ∷ ts) (bind (step ts) (λ s after. got (repeat_step s) after))
  unfolding write_step
  repeat_written ts = written_bind write_step (mark repeat_word ∷ ts) write_step ts (step ts) _ (written ts) (λ s after. marked repeat_word)

  if_written : (ts : List Token) → Written write_step (mark if_word ∷ ts) (bind (parse_condition ts) (parse_branches step))
  unfolding write_step parse_branches
  if_written ts =
      let all : List Token = mark if_word ∷ ts in
      written_bind write_step all write_condition ts (parse_condition ts) _ (condition_written ts)
      (λ o after e. written_mark write_step all then_word after _ _
      (λ rest i. written_bind write_step all write_step rest (step rest) _ (written rest)
      (λ s after j. written_mark write_step all else_word after _ _
      (λ rest k. written_bind write_step all write_step rest (step rest) _ (written rest)
      (λ u end l. marked if_word (e ∙ ap (write_condition o) (i ∙ marked then_word (j ∙ ap (write_step s) (k ∙ marked else_word l))))))
      tt)) tt)

mutual
  unfolding step_within sequence_within body_within write_step write_sequence write_body sequence_rest body_rest close_group

  pub step_written : (f : ℕ) (ts : List Token) → Written write_step ts (step_within f ts)
  step_written zero ts = tt
  step_written (suc f) [] = tt
  step_written (suc f) (number n ∷ ts) = tt
  step_written (suc f) (variable v ∷ ts) =
      written_mark write_step (variable v ∷ ts) equal_sign ts _ _
      (λ rest. value_written write_step (variable v ∷ ts) ts rest equal_sign (goal_step v) (λ n after. ap (λ (l : List Token). variable v ∷ l))) tt
  step_written (suc f) (clock c ∷ ts) = tt
  step_written (suc f) (unknown ∷ ts) = tt
  step_written (suc f) (mark start_word ∷ ts) =
      written_bind write_step (mark start_word ∷ ts) _ ts (parse_clock ts) _ (clock_written ts) (λ c after. marked start_word)
  step_written (suc f) (mark wait_word ∷ ts) =
      written_bind write_step (mark wait_word ∷ ts) write_condition ts (parse_condition ts) _ (condition_written ts) (λ o after. marked wait_word)
  step_written (suc f) (mark maintain_word ∷ ts) = maintain_written (step_within f) (step_written f) ts
  step_written (suc f) (mark repeat_word ∷ ts) = repeat_written (step_within f) (step_written f) ts
  step_written (suc f) (mark if_word ∷ ts) = if_written (step_within f) (step_written f) ts
  step_written (suc f) (mark then_word ∷ ts) = tt
  step_written (suc f) (mark else_word ∷ ts) = tt
  step_written (suc f) (mark equal_sign ∷ ts) = tt
  step_written (suc f) (mark differs_sign ∷ ts) = tt
  step_written (suc f) (mark at_least_sign ∷ ts) = tt
  step_written (suc f) (mark below_sign ∷ ts) = tt
  step_written (suc f) (mark semicolon ∷ ts) = tt
  step_written (suc f) (mark comma ∷ ts) = tt
  step_written (suc f) (mark opening ∷ ts) =
      written_bind write_step (mark opening ∷ ts) write_body ts (body_within f ts) _ (body_written f ts)
      (λ b after e. written_mark write_step (mark opening ∷ ts) closing after _ _ (λ rest i. marked opening (e ∙ ap (write_body b) i)) tt)
  step_written (suc f) (mark closing ∷ ts) = tt
  step_written (suc f) (mark colon ∷ ts) = tt

  pub sequence_written : (f : ℕ) (ts : List Token) → Written write_sequence ts (sequence_within f ts)
  sequence_written zero ts = tt
  sequence_written (suc f) ts =
      written_bind write_sequence ts write_step ts (step_within f ts) _ (step_written f ts)
      (λ s after e. written_mark write_sequence ts semicolon after _ _
      (λ rest i. written_bind write_sequence ts write_sequence rest (sequence_within f rest) _ (sequence_written f rest)
      (λ q end j. e ∙ ap (write_step s) (i ∙ marked semicolon j))) e)

  pub body_written : (f : ℕ) (ts : List Token) → Written write_body ts (body_within f ts)
  body_written zero ts = tt
  body_written (suc f) ts =
      written_bind write_body ts write_sequence ts (sequence_within f ts) _ (sequence_written f ts)
      (λ q after e. written_mark write_body ts comma after _ _
      (λ rest i. written_bind write_body ts write_body rest (body_within f rest) _ (body_written f rest)
      (λ b end j. e ∙ ap (write_sequence q) (i ∙ marked comma j))) e)

-- a text, and nothing after it
abbrev write_all : Text → List Token → List Token
write_all x rest = write_text x

end_written : (ts us : List Token) (x : Text) → (us ≡ [] → ts ≡ write_text x) → Written write_all ts (end_text x us)
unfolding end_text
end_written ts [] x h = h refl
end_written ts (u ∷ us) x h = tt

pub text_written : (ts : List Token) → Written write_all ts (parse_text ts)
unfolding parse_text parse_body write_text
text_written ts =
    written_bind write_all ts write_number ts (parse_number ts) _ (number_written ts)
    (λ v after e. written_bind write_all ts write_number after (parse_number after) _ (number_written after)
    (λ k after i. written_mark write_all ts colon after _ _
    (λ rest j. written_bind write_all ts write_body rest (parse_body rest) _ (body_written (calls_for rest) rest)
    (λ b end l. end_written ts end _
    (λ z. e ∙ ap (write_number v) (i ∙ ap (write_number k) (j ∙ marked colon (l ∙ ap (write_body b) z)))))) tt))
