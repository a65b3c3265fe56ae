-- A text is read as x exactly where it fits x, and it has one reading.
use Prim.Native.Nat.{ℕ}
use mathlib.Core.Path.{◌≡◌, refl, ap, subst, ◌∙◌}
use mathlib.Core.Bool.{Bool, true, false, cond}
use mathlib.Core.List.{List, [], ◌∷◌}
use mathlib.Core.Logic.{◌↔◌}
use mathlib.Core.Option.{Option, none, some}
use lib.Dec.{leb}
use lib.ListN.{length}
use native.Mathlib.Omega.{arith}
use borrow.Author.Tests.{leb-true, le-leb}
use Rattle.text_grammar.specs.Tokens.{then_word, else_word, semicolon, comma, closing, Token, mark, is_known, Spelled}
use Rattle.text_grammar.specs.Syntax.{Condition, variable_equals, variable_differs, clock_at_least, clock_below, Step, goal_step, start_step, wait_step, maintain_step, repeat_step, if_step, bracketed, Sequence, one_step, more_steps, Body, one_sequence, more_sequences, Text, write_condition, write_step, write_sequence, write_body, write_text}
use Rattle.text_grammar.specs.Texts.{max_text_length, Fits}
use Rattle.text_grammar.specs.Lexer.{tokens}
use Rattle.text_grammar.specs.Parser.{Parsed, got, stopped, parse_text, whole, reading}
use Rattle.text_grammar.proofs.Spelling.{all_known, found, spelled_out}
use Rattle.text_grammar.proofs.Sound.{Written, text_written}
use Rattle.text_grammar.proofs.Complete.{text_read_lem}

-- nothing is written with an unknown token
condition_known : (o : Condition) (rest : List Token) → all_known (write_condition o rest) ≡ all_known rest
unfolding write_condition all_known is_known
condition_known (variable_equals v n) rest = refl
condition_known (variable_differs v n) rest = refl
condition_known (clock_at_least c n) rest = refl
condition_known (clock_below c n) rest = refl

mutual
  unfolding write_step write_sequence write_body all_known is_known

  step_known : (s : Step) (rest : List Token) → all_known (write_step s rest) ≡ all_known rest
  step_known (goal_step v n) rest = refl
  step_known (start_step c) rest = refl
  step_known (wait_step o) rest = condition_known o rest
  step_known (maintain_step o s) rest = condition_known o (write_step s rest) ∙ step_known s rest
  step_known (repeat_step s) rest = step_known s rest
  step_known (if_step o s u) rest =
      condition_known o (mark then_word ∷ write_step s (mark else_word ∷ write_step u rest)) ∙ step_known s (mark else_word ∷ write_step u rest) ∙ step_known u rest
  step_known (bracketed b) rest = body_known b (mark closing ∷ rest)

  sequence_known : (q : Sequence) (rest : List Token) → all_known (write_sequence q rest) ≡ all_known rest
  sequence_known (one_step s) rest = step_known s rest
  sequence_known (more_steps s q) rest = step_known s (mark semicolon ∷ write_sequence q rest) ∙ sequence_known q rest

  body_known : (b : Body) (rest : List Token) → all_known (write_body b rest) ≡ all_known rest
  body_known (one_sequence q) rest = sequence_known q rest
  body_known (more_sequences q b) rest = sequence_known q (mark comma ∷ write_body b rest) ∙ body_known b rest

text_known : (x : Text) → all_known (write_text x) ≡ true
unfolding write_text all_known is_known
text_known x = body_known x.body []

whole_written : (ts : List Token) (o : Parsed Text) (x : Text) → Written (λ y rest. write_text y) ts o → whole o ≡ some x → ts ≡ write_text x
unfolding whole
whole_written ts (got y rest) x w h = let e : y ≡ x = cc in w ∙ ap write_text e
whole_written ts (stopped rest) x w h = absurd (let z : ◌≡◌ {A = ℕ} 0 1 = cc in omega arith)

-- where a choice is given at all, its test holds
given : {A : Type 0} (b : Bool) (o : Option A) (x : A) → cond b o none ≡ some x → (b ≡ true) × (o ≡ some x)
given true o x h = (refl, h)
given false o x h = absurd (let z : ◌≡◌ {A = ℕ} 0 1 = cc in omega arith)

fits_of : (t : List ℕ) (x : Text) → reading t ≡ some x → Fits t x
unfolding reading
fits_of t x h =
    let g = given (leb (length t) max_text_length) (whole (parse_text (tokens t))) x h in
    let e = whole_written (tokens t) (parse_text (tokens t)) x (text_written (tokens t)) g.1 in
    record { short_enough = leb-true (length t) max_text_length g.0; spelled = subst (Spelled false t) e (spelled_out t (ap all_known e ∙ text_known x)) }

read_of : (t : List ℕ) (x : Text) → Fits t x → reading t ≡ some x
unfolding reading whole
read_of t x f = rw (le-leb (length t) max_text_length f.short_enough, found f.spelled, text_read_lem x)

-- "fits this grammar": reading computes it
pub reading_exact : (t : List ℕ) (x : Text) → (reading t ≡ some x) ↔ Fits t x
reading_exact t x = (fits_of t x, read_of t x)

-- "and it has one reading"
pub one_reading : (t : List ℕ) (x y : Text) → Fits t x → Fits t y → x ≡ y
one_reading t x y f g = let e = read_of t x f in let i = read_of t y g in cc
