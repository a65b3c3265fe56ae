-- What is written is parsed.
use mathlib.Core.Path.{◌≡◌, refl, sym}
use mathlib.Core.Bool.{true, false, false≢true}
use mathlib.Core.List.{List, [], ◌∷◌}
use Rattle.text_grammar.specs.Tokens.{Mark, mark-discrete, then_word, else_word, equal_sign, semicolon, comma, closing, Token, mark, number, variable, clock, unknown}
use Rattle.text_grammar.specs.Syntax.{Condition, variable_equals, variable_differs, clock_at_least, clock_below, Step, goal_step, start_step, wait_step, maintain_step, repeat_step, if_step, bracketed, Sequence, one_step, more_steps, Body, one_sequence, more_sequences, Text, write_condition, write_step, write_sequence, write_body, write_text}
use Rattle.text_grammar.specs.Parser.{got, bind, when, on_mark, parse_number, parse_clock, parse_value, parse_condition, sequence_rest, body_rest, close_group, parse_branches, parse_step, parse_sequence, parse_body, end_text, parse_text}
use Rattle.text_grammar.proofs.Parsing.{sequence_law, body_law, goal_law, start_law, wait_law, maintain_law, repeat_law, if_law, group_law}

condition_read : (o : Condition) (rest : List Token) → parse_condition (write_condition o rest) ≡ got o rest
unfolding parse_condition write_condition on_mark parse_value parse_number bind
condition_read (variable_equals v n) rest = refl
condition_read (variable_differs v n) rest = refl
condition_read (clock_at_least c n) rest = refl
condition_read (clock_below c n) rest = refl

pub on_mark_lem : {A : Type 0} (m : Mark) (ts : List Token) (f : List Token → A) (other : A) → on_mark m (mark m ∷ ts) f other ≡ f ts
unfolding on_mark
on_mark_lem m ts f other = go (mark-discrete m m)
  where
    go : (d : Dec (m ≡ m)) → when d (f ts) other ≡ f ts
    go (yes e) = refl
    go (no e) = absurd (e refl)

-- the mark m does not stand first
abbrev pub Without : Mark → List Token → Type 0
Without m ts = on_mark m ts (λ rest. true) false ≡ false

pub without_mark : {A : Type 0} (m : Mark) (ts : List Token) (f : List Token → A) (other : A) → Without m ts → on_mark m ts f other ≡ other
unfolding on_mark
without_mark m [] f other h = refl
without_mark m (mark k ∷ ts) f other h = go (mark-discrete k m) h
  where
    go : (d : Dec (k ≡ m)) → when d true false ≡ false → when d (f ts) other ≡ other
    go (yes e) w = absurd (false≢true (sym w))
    go (no e) w = refl
without_mark m (number n ∷ ts) f other h = refl
without_mark m (variable n ∷ ts) f other h = refl
without_mark m (clock n ∷ ts) f other h = refl
without_mark m (unknown ∷ ts) f other h = refl

mutual
  unfolding write_step write_sequence write_body on_mark parse_number parse_clock parse_value bind sequence_rest body_rest close_group parse_branches

  pub step_read : (s : Step) (rest : List Token) → parse_step (write_step s rest) ≡ got s rest
  step_read (goal_step v n) rest = goal_law (mark equal_sign ∷ number n ∷ rest) v
  step_read (start_step c) rest = start_law (clock c ∷ rest)
  step_read (wait_step o) rest = rw (wait_law (write_condition o rest), condition_read o rest)
  step_read (maintain_step o s) rest = rw (maintain_law (write_condition o (write_step s rest)), condition_read o (write_step s rest), step_read s rest)
  step_read (repeat_step s) rest = rw (repeat_law (write_step s rest), step_read s rest)
  step_read (if_step o s u) rest =
      let after : List Token = mark else_word ∷ write_step u rest in
      rw (if_law (write_condition o (mark then_word ∷ write_step s after)), condition_read o (mark then_word ∷ write_step s after), step_read s after, step_read u rest)
  step_read (bracketed b) rest = rw (group_law (write_body b (mark closing ∷ rest)), body_read b (mark closing ∷ rest) refl refl)

  pub sequence_read : (q : Sequence) (rest : List Token) → Without semicolon rest → parse_sequence (write_sequence q rest) ≡ got q rest
  sequence_read (one_step s) rest e = rw (sequence_law (write_step s rest), step_read s rest) (without_mark semicolon rest _ _ e)
  sequence_read (more_steps s q) rest e = rw (sequence_law (write_step s (mark semicolon ∷ write_sequence q rest)), step_read s (mark semicolon ∷ write_sequence q rest), sequence_read q rest e)

  pub body_read : (b : Body) (rest : List Token) → Without semicolon rest → Without comma rest → parse_body (write_body b rest) ≡ got b rest
  body_read (one_sequence q) rest e i = rw (body_law (write_sequence q rest), sequence_read q rest e) (without_mark comma rest _ _ i)
  body_read (more_sequences q b) rest e i =
      rw (body_law (write_sequence q (mark comma ∷ write_body b rest)), sequence_read q (mark comma ∷ write_body b rest) refl, body_read b rest e i)

pub text_read_lem : (x : Text) → parse_text (write_text x) ≡ got x []
unfolding parse_text write_text parse_number on_mark bind end_text
text_read_lem x = rw (body_read x.body [] refl refl)
