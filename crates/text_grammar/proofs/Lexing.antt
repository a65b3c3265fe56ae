-- The steps of `tokens`: blanks pass, a run is cut off where the next byte does not join it.
use Prim.Native.Nat.{ℕ}
use Prim.Native.Char.{code}
use mathlib.Core.Path.{◌≡◌, refl, ap, sym, ◌∙◌}
use mathlib.Core.Bool.{Bool, true, false, cond, ◌||◌, false≢true}
use mathlib.Core.List.{List, [], ◌∷◌, ◌++◌, append_assoc, append-nil}
use mathlib.Core.Logic.{⊎_elim, ◌⊎◌, inl, inr}
use lib.Dec.{eqb}
use borrow.Author.Tests.{eqb-true}
use Rattle.base.specs.Lists.{all, same}
use Rattle.base.proofs.Lists.{and_left, and_right, same_eq}
use Rattle.text_grammar.specs.Characters.{is_blank, is_digit, is_word_byte}
use Rattle.text_grammar.specs.Tokens.{token_of}
use Rattle.text_grammar.specs.Lexer.{joins, end_run, begin_run, tokens_after, tokens}

pub impossible : {A : Type 0} → false ≡ true → A
impossible h = absurd (false≢true h)

pub one_of : (a b : Bool) → (a || b) ≡ true → (a ≡ true) ⊎ (b ≡ true)
one_of true b h = inl refl
one_of false b h = inr h

-- a letter or digit is no blank
pub word_not_blank : (b : ℕ) → is_word_byte b ≡ true → is_blank b ≡ false
unfolding is_word_byte is_blank is_digit
word_not_blank b h = go (is_blank b) refl
  where
    is : (k : ℕ) → eqb b k ≡ true → is_word_byte k ≡ true
    is k e = rw (eqb-true b k e) at h

    go : (x : Bool) → is_blank b ≡ x → x ≡ false
    go false e = refl
    go true e = ⊎_elim (λ w. impossible (is (code " ") w)) (λ w. impossible (is (code "\n") w)) (one_of (eqb b (code " ")) (eqb b (code "\n")) e)

pub blank_not_word : (b : ℕ) → is_blank b ≡ true → is_word_byte b ≡ false
blank_not_word b h = go (is_word_byte b) refl
  where
    go : (x : Bool) → is_word_byte b ≡ x → x ≡ false
    go false e = refl
    go true e = impossible (sym (word_not_blank b e) ∙ h)

-- one byte
module _ (b : ℕ) (bs : List ℕ) where
  pub join_step : (run : List ℕ) → joins run b ≡ true → tokens_after run (b ∷ bs) ≡ tokens_after (run ++ (b ∷ [])) bs
  unfolding tokens_after
  join_step run e = rw (e, tokens_after)

  cut_step : (run : List ℕ) → joins run b ≡ false → tokens_after run (b ∷ bs) ≡ end_run run (tokens_after (begin_run b) bs)
  unfolding tokens_after
  cut_step run e = rw (e, tokens_after)

  first_step : tokens (b ∷ bs) ≡ tokens_after (begin_run b) bs
  unfolding tokens joins end_run
  first_step = cut_step [] refl

  pub cut_again : (run : List ℕ) → joins run b ≡ false → tokens_after run (b ∷ bs) ≡ end_run run (tokens (b ∷ bs))
  cut_again run e = cut_step run e ∙ ap (end_run run) (sym first_step)

  pub blank_step : is_blank b ≡ true → tokens (b ∷ bs) ≡ tokens bs
  unfolding tokens begin_run
  blank_step e = first_step ∙ ap (λ (x : Bool). tokens_after (cond x [] (b ∷ [])) bs) e

  pub run_step : is_blank b ≡ false → tokens (b ∷ bs) ≡ tokens_after (b ∷ []) bs
  unfolding begin_run
  run_step e = first_step ∙ ap (λ (x : Bool). tokens_after (cond x [] (b ∷ [])) bs) e

pub gap_law : (gap t : List ℕ) → all is_blank gap ≡ true → tokens (gap ++ t) ≡ tokens t
gap_law [] t h = refl
gap_law (b ∷ gap) t h = blank_step b (gap ++ t) (and_left (is_blank b) (all is_blank gap) h) ∙ gap_law gap t (and_right (is_blank b) (all is_blank gap) h)

-- a run of letters and digits
pub all_snoc : (run : List ℕ) (b : ℕ) → all is_word_byte run ≡ true → is_word_byte b ≡ true → all is_word_byte (run ++ (b ∷ [])) ≡ true
all_snoc [] b h e = rw e
all_snoc (c ∷ run) b h e = rw (and_left (is_word_byte c) (all is_word_byte run) h, all_snoc run b (and_right (is_word_byte c) (all is_word_byte run) h) e)

joins_word : (c : ℕ) (run : List ℕ) (b : ℕ) → all is_word_byte (c ∷ run) ≡ true → is_word_byte b ≡ true → joins (c ∷ run) b ≡ true
unfolding joins
joins_word c run b h e = rw (h, e)

pub word_differs : (run : List ℕ) (k : ℕ) → all is_word_byte run ≡ true → is_word_byte k ≡ false → same run (k ∷ []) ≡ false
word_differs run k h e = go (same run (k ∷ [])) refl
  where
    go : (x : Bool) → same run (k ∷ []) ≡ x → x ≡ false
    go false u = refl
    go true u =
        let w : all is_word_byte (k ∷ []) ≡ true = rw (same_eq run (k ∷ []) u) at h in
        impossible (sym e ∙ and_left (is_word_byte k) true w)

pub cuts_word : (c : ℕ) (run : List ℕ) (b : ℕ) → all is_word_byte (c ∷ run) ≡ true → is_word_byte b ≡ false → joins (c ∷ run) b ≡ false
unfolding joins is_word_byte is_digit
cuts_word c run b h e = rw (h, e, word_differs (c ∷ run) (code "!") h refl, word_differs (c ∷ run) (code ">") h refl)

grow : (c : ℕ) (run more t : List ℕ) → all is_word_byte (c ∷ run) ≡ true → all is_word_byte more ≡ true → tokens_after (c ∷ run) (more ++ t) ≡ tokens_after (c ∷ (run ++ more)) t
grow c run [] t h e = ap (λ (l : List ℕ). tokens_after (c ∷ l) t) (sym (append-nil run))
grow c run (b ∷ more) t h e =
    let u = and_left (is_word_byte b) (all is_word_byte more) e in
    join_step b (more ++ t) (c ∷ run) (joins_word c run b h u)
    ∙ grow c (run ++ (b ∷ [])) more t (all_snoc (c ∷ run) b h u) (and_right (is_word_byte b) (all is_word_byte more) e)
    ∙ ap (λ (l : List ℕ). tokens_after (c ∷ l) t) (append_assoc run (b ∷ []) more)

-- whether bytes begin with a letter or digit
unfoldable pub begins_word : List ℕ → Bool
begins_word [] = false
begins_word (b ∷ bs) = is_word_byte b

cut_word : (c : ℕ) (run t : List ℕ) → all is_word_byte (c ∷ run) ≡ true → begins_word t ≡ false → tokens_after (c ∷ run) t ≡ token_of (c ∷ run) ∷ tokens t
unfolding begins_word tokens tokens_after end_run
cut_word c run [] h e = refl
cut_word c run (b ∷ t) h e = cut_again b t (c ∷ run) (cuts_word c run b h e)

pub word_law : (c : ℕ) (run t : List ℕ) → all is_word_byte (c ∷ run) ≡ true → begins_word t ≡ false → tokens (c ∷ (run ++ t)) ≡ token_of (c ∷ run) ∷ tokens t
word_law c run t h e =
    let u = and_left (is_word_byte c) (all is_word_byte run) h in
    run_step c (run ++ t) (word_not_blank c u)
    ∙ grow c [] run t (all_snoc [] c refl u) (and_right (is_word_byte c) (all is_word_byte run) h)
    ∙ cut_word c run t h e

-- a run that the next byte does not join
pub cut_law : (c : ℕ) (run t : List ℕ) → ((b : ℕ) (r : List ℕ) → t ≡ b ∷ r → joins (c ∷ run) b ≡ false) → tokens_after (c ∷ run) t ≡ token_of (c ∷ run) ∷ tokens t
unfolding tokens tokens_after end_run
cut_law c run [] h = refl
cut_law c run (b ∷ t) h = cut_again b t (c ∷ run) (h b t refl)

-- a byte that is a run by itself, and one with the next
pub sign_law : (c : ℕ) (t : List ℕ) → is_blank c ≡ false → ((b : ℕ) (r : List ℕ) → t ≡ b ∷ r → joins (c ∷ []) b ≡ false) → tokens (c ∷ t) ≡ token_of (c ∷ []) ∷ tokens t
sign_law c t e h = run_step c t e ∙ cut_law c [] t h

pub pair_law : (c d : ℕ) (t : List ℕ) → is_blank c ≡ false → joins (c ∷ []) d ≡ true → ((b : ℕ) → joins (c ∷ d ∷ []) b ≡ false) → tokens (c ∷ d ∷ t) ≡ token_of (c ∷ d ∷ []) ∷ tokens t
pair_law c d t e j h = run_step c (d ∷ t) e ∙ join_step d t (c ∷ []) j ∙ cut_law c (d ∷ []) t (λ b r w. h b)
