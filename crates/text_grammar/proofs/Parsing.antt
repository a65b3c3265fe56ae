-- How `parse_step`, `parse_sequence` and `parse_body` go, with no number of calls: the number that they are given is enough, and more changes nothing.
use Prim.Native.Nat.{ℕ, zero, suc, ◌+◌, ◌*◌, ◌≤◌, ◌<◌}
use mathlib.Core.Path.{◌≡◌, refl, ap, sym}
use mathlib.Core.Bool.{Bool, true, false, false≢true}
use mathlib.Core.List.{List, [], ◌∷◌}
use lib.ListN.{length}
use native.Mathlib.Omega.{arith}
use Rattle.text_grammar.specs.Tokens.{Mark, mark-discrete, start_word, wait_word, maintain_word, repeat_word, if_word, then_word, else_word, equal_sign, differs_sign, at_least_sign, below_sign, semicolon, comma, opening, closing, colon, Token, mark, number, variable, clock, unknown}
use Rattle.text_grammar.specs.Syntax.{Condition, variable_equals, variable_differs, clock_at_least, clock_below, Step, goal_step, start_step, wait_step, maintain_step, repeat_step, if_step, bracketed, Sequence, one_step, more_steps, Body, one_sequence, more_sequences, write_condition, write_step, write_sequence, write_body}
use Rattle.text_grammar.specs.Parser.{Parsed, got, stopped, bind, when, on_mark, expect, parse_clock, parse_value, parse_condition, sequence_rest, body_rest, close_group, parse_branches, step_within, sequence_within, body_within, calls_for, parse_step, parse_sequence, parse_body}
use Rattle.text_grammar.proofs.Sound.{Written, condition_written, step_written, sequence_written}

-- a form has tokens of its own
condition_longer : (o : Condition) (rest : List Token) → length rest < length (write_condition o rest)
unfolding write_condition
condition_longer (variable_equals v n) rest = omega arith
condition_longer (variable_differs v n) rest = omega arith
condition_longer (clock_at_least c n) rest = omega arith
condition_longer (clock_below c n) rest = omega arith

mutual
  unfolding write_step write_sequence write_body

  step_longer : (s : Step) (rest : List Token) → length rest < length (write_step s rest)
  step_longer (goal_step v n) rest = omega arith
  step_longer (start_step c) rest = omega arith
  step_longer (wait_step o) rest = omega (arith, condition_longer o rest)
  step_longer (maintain_step o s) rest = omega (arith, condition_longer o (write_step s rest), step_longer s rest)
  step_longer (repeat_step s) rest = omega (arith, step_longer s rest)
  step_longer (if_step o s u) rest =
      omega (arith, condition_longer o (mark then_word ∷ write_step s (mark else_word ∷ write_step u rest)), step_longer s (mark else_word ∷ write_step u rest), step_longer u rest)
  step_longer (bracketed b) rest = omega (arith, body_longer b (mark closing ∷ rest))

  sequence_longer : (q : Sequence) (rest : List Token) → length rest < length (write_sequence q rest)
  sequence_longer (one_step s) rest = step_longer s rest
  sequence_longer (more_steps s q) rest = omega (arith, step_longer s (mark semicolon ∷ write_sequence q rest), sequence_longer q rest)

  body_longer : (b : Body) (rest : List Token) → length rest < length (write_body b rest)
  body_longer (one_sequence q) rest = sequence_longer q rest
  body_longer (more_sequences q b) rest = omega (arith, sequence_longer q (mark comma ∷ write_body b rest), body_longer b rest)

-- so what is left after one is shorter
shorter : {A : Type 0} (w : A → List Token → List Token) → ((a : A) (rest : List Token) → length rest < length (w a rest))
    → (ts : List Token) (o : Parsed A) → Written w ts o → (a : A) (rest : List Token) → o ≡ got a rest → length rest < length ts
shorter w longer ts o h a rest e = let i : ts ≡ w a rest = rw e at h in rw i (longer a rest)

module _ {A B : Type 0} where
  pub bind-same : (o : Parsed A) (f g : A → List Token → Parsed B) → ((a : A) (rest : List Token) → o ≡ got a rest → f a rest ≡ g a rest) → bind o f ≡ bind o g
  unfolding bind
  bind-same (got a rest) f g h = h a rest refl
  bind-same (stopped rest) f g h = refl

pub mark_same : {A : Type 0} (m : Mark) (ts : List Token) (f g : List Token → A) (other : A)
    → ((rest : List Token) → ts ≡ mark m ∷ rest → f rest ≡ g rest) → on_mark m ts f other ≡ on_mark m ts g other
unfolding on_mark
mark_same m [] f g other h = refl
mark_same m (mark k ∷ ts) f g other h = go (mark-discrete k m)
  where
    go : (d : Dec (k ≡ m)) → when d (f ts) other ≡ when d (g ts) other
    go (yes e) = h ts (ap (λ (i : Mark). mark i ∷ ts) e)
    go (no e) = refl
mark_same m (number n ∷ ts) f g other h = refl
mark_same m (variable n ∷ ts) f g other h = refl
mark_same m (clock n ∷ ts) f g other h = refl
mark_same m (unknown ∷ ts) f g other h = refl

after_mark : {m : Mark} {ts rest : List Token} → ts ≡ mark m ∷ rest → length rest < length ts
after_mark e = rw e (omega arith)

-- two ways to read that agree on all that is shorter than n
abbrev Agree : {A : Type 0} → ℕ → (List Token → Parsed A) → (List Token → Parsed A) → Type 0
Agree n p q = (ts : List Token) → length ts < n → p ts ≡ q ts

module _ (p q : List Token → Parsed Step) (n : ℕ) (same : Agree n p q) where
  maintain_same : (ts : List Token) → length ts < n
      → bind (parse_condition ts) (λ o after. bind (p after) (λ s end. got (maintain_step o s) end))
      ≡ bind (parse_condition ts) (λ o after. bind (q after) (λ s end. got (maintain_step o s) end))
  maintain_same ts h =
      bind-same (parse_condition ts) _ _
      (λ o after e. rw (same after (omega (arith, shorter write_condition condition_longer ts (parse_condition ts) (condition_written ts) o after e))))

  branches_same : ((ts : List Token) → Written write_step ts (p ts)) → (o : Condition) (ts : List Token) → length ts < n → parse_branches p o ts ≡ parse_branches q o ts
  unfolding parse_branches
  branches_same written o ts h =
      mark_same then_word ts _ _ _
      (λ rest e. let a = after_mark e in rw (← same rest (omega arith))
      (bind-same (p rest) _ _
      (λ s after i. let b = shorter write_step step_longer rest (p rest) (written rest) s after i in
      mark_same else_word after _ _ _
      (λ rest j. let c = after_mark j in rw (same rest (omega arith))))))

  if_same : ((ts : List Token) → Written write_step ts (p ts)) → (ts : List Token) → length ts < n → bind (parse_condition ts) (parse_branches p) ≡ bind (parse_condition ts) (parse_branches q)
  if_same written ts h =
      bind-same (parse_condition ts) _ _
      (λ o after e. branches_same written o after (omega (arith, shorter write_condition condition_longer ts (parse_condition ts) (condition_written ts) o after e)))

sequence_rest_same : (p q : List Token → Parsed Sequence) (n : ℕ) → Agree n p q → (s : Step) (ts : List Token) → length ts ≤ n → sequence_rest p s ts ≡ sequence_rest q s ts
unfolding sequence_rest
sequence_rest_same p q n same s ts h = mark_same semicolon ts _ _ _ (λ rest e. let a = after_mark e in rw (same rest (omega arith)))

body_rest_same : (p q : List Token → Parsed Body) (n : ℕ) → Agree n p q → (s : Sequence) (ts : List Token) → length ts ≤ n → body_rest p s ts ≡ body_rest q s ts
unfolding body_rest
body_rest_same p q n same s ts h = mark_same comma ts _ _ _ (λ rest e. let a = after_mark e in rw (same rest (omega arith)))

-- Enough calls: one for each step, sequence and body that begins with each token
mutual
  unfolding step_within sequence_within body_within

  step_enough : (f g : ℕ) (ts : List Token) → 3 * length ts + 1 ≤ f → 3 * length ts + 1 ≤ g → step_within f ts ≡ step_within g ts
  step_enough zero g ts h i = absurd (omega arith)
  step_enough (suc f) zero ts h i = absurd (omega arith)
  step_enough (suc f) (suc g) [] h i = refl
  step_enough (suc f) (suc g) (number n ∷ ts) h i = refl
  step_enough (suc f) (suc g) (variable v ∷ ts) h i = refl
  step_enough (suc f) (suc g) (clock c ∷ ts) h i = refl
  step_enough (suc f) (suc g) (unknown ∷ ts) h i = refl
  step_enough (suc f) (suc g) (mark start_word ∷ ts) h i = refl
  step_enough (suc f) (suc g) (mark wait_word ∷ ts) h i = refl
  step_enough (suc f) (suc g) (mark maintain_word ∷ ts) h i =
      maintain_same (step_within f) (step_within g) (suc (length ts)) (λ us l. step_enough f g us (omega arith) (omega arith)) ts (omega arith)
  step_enough (suc f) (suc g) (mark repeat_word ∷ ts) h i = rw (step_enough f g ts (omega arith) (omega arith))
  step_enough (suc f) (suc g) (mark if_word ∷ ts) h i =
      if_same (step_within f) (step_within g) (suc (length ts)) (λ us l. step_enough f g us (omega arith) (omega arith)) (step_written f) ts (omega arith)
  step_enough (suc f) (suc g) (mark then_word ∷ ts) h i = refl
  step_enough (suc f) (suc g) (mark else_word ∷ ts) h i = refl
  step_enough (suc f) (suc g) (mark equal_sign ∷ ts) h i = refl
  step_enough (suc f) (suc g) (mark differs_sign ∷ ts) h i = refl
  step_enough (suc f) (suc g) (mark at_least_sign ∷ ts) h i = refl
  step_enough (suc f) (suc g) (mark below_sign ∷ ts) h i = refl
  step_enough (suc f) (suc g) (mark semicolon ∷ ts) h i = refl
  step_enough (suc f) (suc g) (mark comma ∷ ts) h i = refl
  step_enough (suc f) (suc g) (mark opening ∷ ts) h i = rw (body_enough f g ts (omega arith) (omega arith))
  step_enough (suc f) (suc g) (mark closing ∷ ts) h i = refl
  step_enough (suc f) (suc g) (mark colon ∷ ts) h i = refl

  sequence_enough : (f g : ℕ) (ts : List Token) → 3 * length ts + 2 ≤ f → 3 * length ts + 2 ≤ g → sequence_within f ts ≡ sequence_within g ts
  sequence_enough zero g ts h i = absurd (omega arith)
  sequence_enough (suc f) zero ts h i = absurd (omega arith)
  sequence_enough (suc f) (suc g) ts h i =
      rw (← step_enough f g ts (omega arith) (omega arith))
      (bind-same (step_within f ts) _ _
      (λ s after e. let a = shorter write_step step_longer ts (step_within f ts) (step_written f ts) s after e in
      sequence_rest_same (sequence_within f) (sequence_within g) (length ts) (λ us l. sequence_enough f g us (omega arith) (omega arith)) s after (omega arith)))

  pub body_enough : (f g : ℕ) (ts : List Token) → 3 * length ts + 3 ≤ f → 3 * length ts + 3 ≤ g → body_within f ts ≡ body_within g ts
  body_enough zero g ts h i = absurd (omega arith)
  body_enough (suc f) zero ts h i = absurd (omega arith)
  body_enough (suc f) (suc g) ts h i =
      rw (← sequence_enough f g ts (omega arith) (omega arith))
      (bind-same (sequence_within f ts) _ _
      (λ q after e. let a = shorter write_sequence sequence_longer ts (sequence_within f ts) (sequence_written f ts) q after e in
      body_rest_same (body_within f) (body_within g) (length ts) (λ us l. body_enough f g us (omega arith) (omega arith)) q after (omega arith)))

-- What follows a step, a sequence and the body of a group
abbrev pub after_step : Step → List Token → Parsed Sequence
after_step = sequence_rest parse_sequence

abbrev pub after_sequence : Sequence → List Token → Parsed Body
after_sequence = body_rest parse_body

pub sequence_law : (ts : List Token) → parse_sequence ts ≡ bind (parse_step ts) after_step
unfolding parse_sequence parse_step sequence_within
sequence_law ts =
    let n : calls_for ts ≡ suc (3 * length ts + 2) = omega arith in
    rw (n, step_enough (3 * length ts + 2) (suc (3 * length ts + 2)) ts (omega arith) (omega arith))
    (bind-same (step_within (suc (3 * length ts + 2)) ts) _ _
    (λ s after e. let a = shorter write_step step_longer ts _ (step_written (suc (3 * length ts + 2)) ts) s after e in
    sequence_rest_same _ _ (length ts) (λ us l. sequence_enough (3 * length ts + 2) (calls_for us) us (omega arith) (omega arith)) s after (omega arith)))

pub body_law : (ts : List Token) → parse_body ts ≡ bind (parse_sequence ts) after_sequence
unfolding parse_body parse_sequence body_within
body_law ts =
    let n : calls_for ts ≡ suc (3 * length ts + 2) = omega arith in
    rw (n, sequence_enough (3 * length ts + 2) (suc (3 * length ts + 2)) ts (omega arith) (omega arith))
    (bind-same (sequence_within (suc (3 * length ts + 2)) ts) _ _
    (λ q after e. let a = shorter write_sequence sequence_longer ts _ (sequence_written (suc (3 * length ts + 2)) ts) q after e in
    body_rest_same _ _ (length ts) (λ us l. body_enough (3 * length ts + 2) (calls_for us) us (omega arith) (omega arith)) q after (omega arith)))

-- A step, by its first token
module _ (ts : List Token) where
  -- the calls that are left below the first
  abbrev below : ℕ
  below = 3 * length ts + 5

  first_call : (t : Token) → parse_step (t ∷ ts) ≡ step_within (suc below) (t ∷ ts)
  unfolding parse_step
  first_call t = let n : calls_for (t ∷ ts) ≡ suc below = omega arith in rw n

  same_step : Agree (suc (length ts)) (step_within below) parse_step
  unfolding parse_step
  same_step us l = step_enough below (calls_for us) us (omega arith) (omega arith)

  pub goal_law : (v : ℕ) → parse_step (variable v ∷ ts) ≡ expect equal_sign ts (parse_value (goal_step v))
  unfolding step_within
  goal_law v = rw (first_call (variable v))

  pub start_law : parse_step (mark start_word ∷ ts) ≡ bind (parse_clock ts) (λ c after. got (start_step c) after)
  unfolding step_within
  start_law = rw (first_call (mark start_word))

  pub wait_law : parse_step (mark wait_word ∷ ts) ≡ bind (parse_condition ts) (λ o after. got (wait_step o) after)
  unfolding step_within
  wait_law = rw (first_call (mark wait_word))

  pub maintain_law : parse_step (mark maintain_word ∷ ts) ≡ bind (parse_condition ts) (λ o after. bind (parse_step after) (λ s end. got (maintain_step o s) end))
  unfolding step_within
  maintain_law = rw (first_call (mark maintain_word)) (maintain_same (step_within below) parse_step (suc (length ts)) same_step ts (omega arith))

  pub repeat_law : parse_step (mark repeat_word ∷ ts) ≡ bind (parse_step ts) (λ s after. got (repeat_step s) after)
  unfolding step_within
  repeat_law = rw (first_call (mark repeat_word), same_step ts (omega arith))

  pub if_law : parse_step (mark if_word ∷ ts) ≡ bind (parse_condition ts) (parse_branches parse_step)
  unfolding step_within
  if_law = rw (first_call (mark if_word)) (if_same (step_within below) parse_step (suc (length ts)) same_step (step_written below) ts (omega arith))

  pub group_law : parse_step (mark opening ∷ ts) ≡ bind (parse_body ts) close_group
  unfolding parse_body step_within
  group_law = rw (first_call (mark opening), body_enough below (calls_for ts) ts (omega arith) (omega arith))

-- the tokens that a step begins with
unfoldable pub begins_step : Token → Bool
begins_step (mark start_word) = true
begins_step (mark wait_word) = true
begins_step (mark maintain_word) = true
begins_step (mark repeat_word) = true
begins_step (mark if_word) = true
begins_step (mark then_word) = false
begins_step (mark else_word) = false
begins_step (mark equal_sign) = false
begins_step (mark differs_sign) = false
begins_step (mark at_least_sign) = false
begins_step (mark below_sign) = false
begins_step (mark semicolon) = false
begins_step (mark comma) = false
begins_step (mark opening) = true
begins_step (mark closing) = false
begins_step (mark colon) = false
begins_step (number n) = false
begins_step (variable n) = true
begins_step (clock n) = false
begins_step unknown = false

pub end_law : parse_step [] ≡ stopped []
unfolding parse_step step_within
end_law = refl

pub other_law : (t : Token) (ts : List Token) → begins_step t ≡ false → parse_step (t ∷ ts) ≡ stopped (t ∷ ts)
unfolding begins_step step_within
other_law (mark start_word) ts h = absurd (false≢true (sym h))
other_law (mark wait_word) ts h = absurd (false≢true (sym h))
other_law (mark maintain_word) ts h = absurd (false≢true (sym h))
other_law (mark repeat_word) ts h = absurd (false≢true (sym h))
other_law (mark if_word) ts h = absurd (false≢true (sym h))
other_law (mark then_word) ts h = first_call ts (mark then_word)
other_law (mark else_word) ts h = first_call ts (mark else_word)
other_law (mark equal_sign) ts h = first_call ts (mark equal_sign)
other_law (mark differs_sign) ts h = first_call ts (mark differs_sign)
other_law (mark at_least_sign) ts h = first_call ts (mark at_least_sign)
other_law (mark below_sign) ts h = first_call ts (mark below_sign)
other_law (mark semicolon) ts h = first_call ts (mark semicolon)
other_law (mark comma) ts h = first_call ts (mark comma)
other_law (mark opening) ts h = absurd (false≢true (sym h))
other_law (mark closing) ts h = first_call ts (mark closing)
other_law (mark colon) ts h = first_call ts (mark colon)
other_law (number n) ts h = first_call ts (number n)
other_law (variable n) ts h = absurd (false≢true (sym h))
other_law (clock n) ts h = first_call ts (clock n)
other_law unknown ts h = first_call ts unknown
