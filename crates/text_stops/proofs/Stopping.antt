-- Where a reading stops, all before it begins a text, and no text goes on with the token that stands there.
use Prim.Native.Nat.{ℕ, zero, suc, ◌+◌}
use mathlib.Core.Path.{◌≡◌, refl, ap, sym, subst, ◌∙◌}
use mathlib.Core.List.{List, [], ◌∷◌, ◌++◌, append-nil}
use mathlib.Core.Option.{Option, none}
use native.Mathlib.Omega.{arith}
use Rattle.text_grammar.specs.declared.tokens.Mark.TheVariants.{StartWord as start_word, WaitWord as wait_word, MaintainWord as maintain_word, RepeatWord as repeat_word, IfWord as if_word, ThenWord as then_word, ElseWord as else_word, EqualSign as equal_sign, DiffersSign as differs_sign, AtLeastSign as at_least_sign, BelowSign as below_sign, Semicolon as semicolon, Comma as comma, Opening as opening, Closing as closing, Colon as colon}
use Rattle.text_grammar.specs.declared.tokens.Token.{Token}
use Rattle.text_grammar.specs.declared.tokens.Token.TheVariants.{Mark as mark, Number as number, Variable as variable, Clock as clock, Unknown as unknown}
use Rattle.text_grammar.specs.Syntax.{variable_equals, variable_differs, clock_at_least, clock_below, goal_step, one_step, one_sequence, Text, write_condition, write_step, write_sequence, write_body, write_text}
use Rattle.text_grammar.specs.Parser.{Parsed, stopped, parse_number, parse_clock, parse_value, parse_condition, sequence_rest, body_rest, close_group, parse_branches, step_within, sequence_within, body_within, calls_for, parse_body, end_text, parse_text}
use Rattle.text_grammar.proofs.Parsing.{body_enough}
use Rattle.text_grammar.proofs.Complete.{text_read_lem}
use Rattle.text_stops.specs.Stopping.{first_token, StopsAfter, Stopping}
use Rattle.text_stops.proofs.Locality.{outcome, GoesOn, Local, local_stopped, local_got, local_so, at_end, at_token, local_token, local_mark, local_expect, local_bind, same_outcome, reads, reads_alike}

-- of a form from its first token on
abbrev LocalAt : {A : Type 0} → (A → List Token → List Token) → (List Token → Parsed A) → List Token → Type 0
LocalAt w p ts = Local (λ us. us) w p ts

-- what stops before it has read anything: any form begins so
module _ {A : Type 0} {w : A → List Token → List Token} {p : List Token → Parsed A} (c : GoesOn (λ us. us) w none) where
  ends : p [] ≡ stopped [] → LocalAt w p []
  ends same = at_end same (local_stopped c)

  stops : {t : Token} {ts : List Token} → ((us : List Token) → p (t ∷ us) ≡ stopped (t ∷ us)) → LocalAt w p (t ∷ ts)
  stops same = at_token same (local_stopped c)

-- the tokens of a number and of a clock
abbrev write_number : ℕ → List Token → List Token
write_number n rest = number n ∷ rest

abbrev write_clock : ℕ → List Token → List Token
write_clock c rest = clock c ∷ rest

-- one of each
any_number : GoesOn (λ us. us) write_number none
any_number = (0, number 0 ∷ [], λ us. refl)

any_clock : GoesOn (λ us. us) write_clock none
any_clock = (0, clock 0 ∷ [], λ us. refl)

-- a number, a clock, and what a number makes
number_local : (ts : List Token) → LocalAt write_number parse_number ts
unfolding parse_number
number_local [] = ends any_number refl
number_local (mark m ∷ ts) = stops any_number (λ us. refl)
number_local (number n ∷ ts) = local_token (λ us. refl) (local_got (λ us. refl))
number_local (variable n ∷ ts) = stops any_number (λ us. refl)
number_local (clock n ∷ ts) = stops any_number (λ us. refl)
number_local (unknown ∷ ts) = stops any_number (λ us. refl)

clock_local : (ts : List Token) → LocalAt write_clock parse_clock ts
unfolding parse_clock
clock_local [] = ends any_clock refl
clock_local (mark m ∷ ts) = stops any_clock (λ us. refl)
clock_local (number n ∷ ts) = stops any_clock (λ us. refl)
clock_local (variable n ∷ ts) = stops any_clock (λ us. refl)
clock_local (clock n ∷ ts) = local_token (λ us. refl) (local_got (λ us. refl))
clock_local (unknown ∷ ts) = stops any_clock (λ us. refl)

value_local : {A : Type 0} {h : List Token → List Token} {w : A → List Token → List Token} (f : ℕ → A) (ts : List Token)
    → ((n : ℕ) (us : List Token) → w (f n) us ≡ h (number n ∷ us)) → Local h w (parse_value f) ts
unfolding parse_value
value_local f ts e = local_bind (number_local ts) (λ n rest. local_got (e n))

-- conditions
any_condition : GoesOn (λ us. us) write_condition none
unfolding write_condition
any_condition = (variable_equals 0 0, variable 0 ∷ mark equal_sign ∷ number 0 ∷ [], λ us. refl)

condition_local : (ts : List Token) → LocalAt write_condition parse_condition ts
unfolding parse_condition write_condition
condition_local [] = ends any_condition refl
condition_local (mark m ∷ ts) = stops any_condition (λ us. refl)
condition_local (number n ∷ ts) = stops any_condition (λ us. refl)
condition_local (variable v ∷ ts) =
    local_token (λ us. refl)
    (local_mark equal_sign ts (λ rest. value_local (variable_equals v) rest (λ n us. refl))
    (local_expect differs_sign ts (λ rest. value_local (variable_differs v) rest (λ n us. refl))))
condition_local (clock c ∷ ts) =
    local_token (λ us. refl)
    (local_mark at_least_sign ts (λ rest. value_local (clock_at_least c) rest (λ n us. refl))
    (local_expect below_sign ts (λ rest. value_local (clock_below c) rest (λ n us. refl))))
condition_local (unknown ∷ ts) = stops any_condition (λ us. refl)

-- steps, sequences and bodies, whatever number of calls they are given
any_step : GoesOn (λ us. us) write_step none
unfolding write_step
any_step = (goal_step 0 0, variable 0 ∷ mark equal_sign ∷ number 0 ∷ [], λ us. refl)

mutual
  unfolding step_within sequence_within body_within write_step write_sequence write_body sequence_rest body_rest close_group parse_branches

  step_local : (f : ℕ) (ts : List Token) → LocalAt write_step (step_within f) ts
  step_local zero ts = local_stopped any_step
  step_local (suc f) [] = ends any_step refl
  step_local (suc f) (number n ∷ ts) = stops any_step (λ us. refl)
  step_local (suc f) (variable v ∷ ts) = local_token (λ us. refl) (local_expect equal_sign ts (λ rest. value_local (goal_step v) rest (λ n us. refl)))
  step_local (suc f) (clock c ∷ ts) = stops any_step (λ us. refl)
  step_local (suc f) (unknown ∷ ts) = stops any_step (λ us. refl)
  step_local (suc f) (mark start_word ∷ ts) = local_token (λ us. refl) (local_bind (clock_local ts) (λ c after. local_got (λ us. refl)))
  step_local (suc f) (mark wait_word ∷ ts) = local_token (λ us. refl) (local_bind (condition_local ts) (λ o after. local_got (λ us. refl)))
  step_local (suc f) (mark maintain_word ∷ ts) =
      local_token (λ us. refl) (local_bind (condition_local ts) (λ o after. local_bind (step_local f after) (λ s end. local_got (λ us. refl))))
  step_local (suc f) (mark repeat_word ∷ ts) = local_token (λ us. refl) (local_bind (step_local f ts) (λ s after. local_got (λ us. refl)))
  step_local (suc f) (mark if_word ∷ ts) =
      local_token (λ us. refl)
      (local_bind (condition_local ts)
      (λ o after. local_expect then_word after
      (λ rest. local_bind (step_local f rest)
      (λ s after. local_expect else_word after
      (λ rest. local_bind (step_local f rest)
      (λ u end. local_got (λ us. refl)))))))
  step_local (suc f) (mark then_word ∷ ts) = stops any_step (λ us. refl)
  step_local (suc f) (mark else_word ∷ ts) = stops any_step (λ us. refl)
  step_local (suc f) (mark equal_sign ∷ ts) = stops any_step (λ us. refl)
  step_local (suc f) (mark differs_sign ∷ ts) = stops any_step (λ us. refl)
  step_local (suc f) (mark at_least_sign ∷ ts) = stops any_step (λ us. refl)
  step_local (suc f) (mark below_sign ∷ ts) = stops any_step (λ us. refl)
  step_local (suc f) (mark semicolon ∷ ts) = stops any_step (λ us. refl)
  step_local (suc f) (mark comma ∷ ts) = stops any_step (λ us. refl)
  step_local (suc f) (mark opening ∷ ts) =
      local_token (λ us. refl) (local_bind (body_local f ts) (λ b after. local_expect closing after (λ rest. local_got (λ us. refl))))
  step_local (suc f) (mark closing ∷ ts) = stops any_step (λ us. refl)
  step_local (suc f) (mark colon ∷ ts) = stops any_step (λ us. refl)

  sequence_local : (f : ℕ) (ts : List Token) → LocalAt write_sequence (sequence_within f) ts
  sequence_local zero ts = local_stopped (one_step any_step.0, any_step.1, any_step.2)
  sequence_local (suc f) ts =
      local_bind (step_local f ts)
      (λ s after. local_mark semicolon after (λ rest. local_bind (sequence_local f rest) (λ q end. local_got (λ us. refl))) (local_got (λ us. refl)))

  body_local : (f : ℕ) (ts : List Token) → LocalAt write_body (body_within f) ts
  body_local zero ts = local_stopped (one_sequence (one_step any_step.0), any_step.1, any_step.2)
  body_local (suc f) ts =
      local_bind (sequence_local f ts)
      (λ q after. local_mark comma after (λ rest. local_bind (body_local f rest) (λ b end. local_got (λ us. refl))) (local_got (λ us. refl)))

-- a body with enough calls: more of them read the same
whole_body_local : (ts : List Token) → LocalAt write_body parse_body ts
unfolding parse_body
whole_body_local ts =
    let l = body_local (calls_for ts) ts in
    local_so l
    (λ us e. let calls : ℕ = calls_for ts + calls_for (l.before ++ us) in
    body_enough (calls_for (l.before ++ us)) calls (l.before ++ us) (omega arith) (omega arith)
    ∙ reads_alike l (body_local calls ts) (body_enough (calls_for ts) calls ts (omega arith) (omega arith)) us e)

-- a text, and tokens after it
abbrev write_open : Text → List Token → List Token
write_open x rest = number x.variables ∷ number x.clocks ∷ mark colon ∷ write_body x.body rest

-- nothing follows a text
end_local : (x : Text) (ts : List Token) → Local (write_open x) write_open (end_text x) ts
unfolding end_text
end_local x [] = at_end refl (local_got (λ us. refl))
end_local x (t ∷ ts) = at_token (λ us. refl) (local_stopped (x, [], λ us. refl))

-- a text
text_local : (ts : List Token) → LocalAt write_open parse_text ts
unfolding parse_text
text_local ts =
    local_bind (number_local ts)
    (λ v rest. local_bind (number_local rest)
    (λ k rest. local_expect colon rest
    (λ rest. local_bind (whole_body_local rest)
    (λ b rest. end_local (record { variables = v; clocks = k; body = b }) rest))))

-- what stops in the same way before all that begins so reads no text there
stops_after : (before rest : List Token) → ((us : List Token) → first_token us ≡ first_token rest → parse_text (before ++ us) ≡ stopped us)
    → GoesOn (λ us. before ++ us) write_open none → StopsAfter before rest
unfolding write_text
stops_after before rest same c =
    record {
      text = c.0;
      more = c.1;
      begins_text = rw append-nil at (c.2 []);
      none_goes_on = λ x us e i. absurd (let z : ◌≡◌ {A = ℕ} 0 1 = cc (same us e, text_read_lem x) in omega arith);
    }

-- a reading stops at the first token with which no text goes on
pub text_stops : (ts rest : List Token) → parse_text ts ≡ stopped rest → Stopping ts rest
text_stops ts rest e =
    let l = text_local ts in
    let i = same_outcome l.found none l.rest rest (sym (reads l) ∙ e) in
    record {
      before = l.before;
      all_are = rw i.1 at l.all_are;
      stops = stops_after l.before rest (λ us j. l.same us (j ∙ ap first_token (sym i.1)) ∙ ap (λ (o : Option Text). outcome o us) i.0)
          (subst (λ (o : Option Text). GoesOn (λ us. l.before ++ us) write_open o) i.0 l.goes_on_lem);
    }
