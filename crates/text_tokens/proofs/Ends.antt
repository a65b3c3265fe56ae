-- Where the tokens of a text begin and end, and what the text's tokens are from such a place on.
use Prim.Native.Nat.{ℕ, zero, suc, ◌+◌, ◌-◌, ◌<◌, ◌≤◌, ◌^◌}
use Prim.Native.Char.{code}
use native.Mathlib.Numerals.{add-one}
use Rattle.std.proofs.Common.{add-zero}
use native.Mathlib.Omega.{arith}
use mathlib.Core.Path.{◌≡◌, refl, ap, sym, subst, ◌∙◌}
use mathlib.Core.Bool.{Bool, true, false, ◌&&◌, ◌||◌, and-false}
use mathlib.Core.List.{List, [], ◌∷◌, ◌++◌}
use lib.Dec.{eqb}
use Rattle.std.specs.Prelude.{Some, None}
use Rattle.std.specs.List.{prefix_len, take_while}
use Rattle.std.proofs.lemmas.List.Folds.{length-prefix_len}
use Rattle.std.proofs.lemmas.List.{length-take, length-drop}
use Rattle.std.proofs.lemmas.List.Sums.{prefix_len-drop_yes, prefix_len-drop_no, prefix_len-drop_all}
use lib.ListN.{length, get_or, take, drop, drop_of_length-le}
use lib.Seq.{drop-cons, take-suc, get_or-drop}
use borrow.Author.Tests.{eqb-true}
use Rattle.base.specs.Lists.{all, bytes_at}
use Rattle.base.proofs.Lists.{and_right, all_append, each_passes}
use Rattle.base.proofs.Stores.{length_bytes, get_or_bytes, drop_bytes, take_bytes, bytes_front}
use Rattle.base.proofs.Facts.{get_or_inside}
use Rattle.text_grammar.specs.Characters.{is_blank, is_digit, is_word_byte}
use Rattle.text_grammar.specs.declared.tokens.Token.{Token}
use Rattle.text_grammar.specs.Tokens.{token_of}
use Rattle.text_grammar.specs.Lexer.{joins, end_run, tokens_after, tokens, tokens_from}
use Rattle.text_grammar.proofs.Lexing.{impossible, blank_step, begins_word, word_law, sign_law, pair_law}
use Rattle.text_stops.specs.Places.{goes_on, cut_at}
use Rattle.text_stops.proofs.Places.{blank_apart, follows_one, word_apart, uncut_after, uncut_end}
use Rattle.text_tokens.specs.First.{first_token, later_tokens, Skipped, WordEnds, RunEnds, Passed}

-- Bytes that pass are gone over from place j on: P holds at each place up to the first byte that does not pass, or the text's end, and Q there
module _ (p : ℕ → Bool) (t : List ℕ) (P Q : ℕ → Type 0) (next : (j : ℕ) → P j → j < length t → p (get_or t j 0) ≡ true → P (j + 1))
    (stops : (j : ℕ) → P j → p (get_or t j 0) ≡ false → Q j) (ends : (j : ℕ) → P j → length t ≤ j → Q j) where
  gone_step : (j : ℕ) (b : Bool) → p (get_or t j 0) ≡ b → j < length t → P j → (P (j + 1) → Q (j + 1 + prefix_len p (drop (j + 1) t))) → Q (j + prefix_len p (drop j t))
  gone_step j true e h q rest =
      let k : j + 1 + prefix_len p (drop (j + 1) t) ≡ j + prefix_len p (drop j t) = omega (arith, prefix_len-drop_yes p t j 0 h e) in
      subst Q k (rest (next j q h e))
  gone_step j false e h q rest = rw (prefix_len-drop_no p t j 0 h e, add-zero) (stops j q e)

  gone_over : (n j : ℕ) → length t - j ≡ n → P j → Q (j + prefix_len p (drop j t))
  gone_over zero j m q = let h : length t ≤ j = omega arith in rw (prefix_len-drop_all p t j h, add-zero) (ends j q h)
  gone_over (suc n) j m q = gone_step j (p (get_or t j 0)) refl (omega arith) q (gone_over n (j + 1) (omega arith))

-- Blanks that are passed: no token is, from `from` on, before i
pub record Skipping (t : List ℕ) (from i : ℕ) : Type 0 where
  pub onward : from ≤ i
  pub within : from ≤ length t → i ≤ length t
  pub same_tokens : tokens_from t i ≡ tokens_from t from
  pub uncut : cut_at t from ≡ 0 → cut_at t i ≡ 0

pub skip_starts : (t : List ℕ) (from : ℕ) → Skipping t from from
skip_starts t from = record { onward = omega arith; within = λ h. h; same_tokens = refl; uncut = λ w. w }

module _ (t : List ℕ) (from i : ℕ) (passed : Skipping t from i) where
  pub skip_next : i < length t → is_blank (get_or t i 0) ≡ true → Skipping t from (i + 1)
  unfolding tokens_from
  skip_next h blank =
      let step = blank_step (get_or t i 0) (drop (suc i) t) blank in
      record {
        onward = omega arith;
        within = λ k. omega arith;
        same_tokens = rw (add-one i, ← step, ← (drop-cons t i 0 h)) passed.same_tokens;
        uncut = λ w. uncut_after t i (blank_apart (get_or t i 0) (get_or t (i + 1) 0) blank);
      }

  pub skip_stops : is_blank (get_or t i 0) ≡ false → Skipped t from i
  skip_stops e =
      record { onward = passed.onward; within = passed.within; same_tokens = passed.same_tokens; no_blank = λ h. e; uncut = passed.uncut }

  pub skip_ends : length t ≤ i → Skipped t from i
  skip_ends h = record { onward = passed.onward; within = passed.within; same_tokens = passed.same_tokens; no_blank = λ k. absurd (omega arith); uncut = passed.uncut }

pub skipped_lem : (t : List ℕ) (from n : ℕ) → n ≡ length (take_while is_blank (drop from t)) → Skipped t from (from + n)
skipped_lem t from n e =
    rw (e, length-prefix_len) (gone_over is_blank t (Skipping t from) (Skipped t from) (λ j s h b. skip_next t from j s h b) (λ j s b. skip_stops t from j s b) (λ j s h. skip_ends t from j s h) (length t - from) from refl (skip_starts t from))

-- no more bytes pass than there are
pub counted_fits : (p : ℕ → Bool) (t : List ℕ) (from n : ℕ) → n ≡ length (take_while p (drop from t)) → from < 2 ^ 64 → length t < 2 ^ 63 → from + n < 2 ^ 64
counted_fits p t from n e h k = omega (arith, e, length-take (prefix_len p (drop from t)) (drop from t), length-drop from t)

-- Letters and digits that are passed
pub record InWord (t : List ℕ) (from i : ℕ) : Type 0 where
  pub onward : from ≤ i
  pub within : i ≤ length t
  pub word : all is_word_byte (take (i - from) (drop from t)) ≡ true

pub word_starts : (t : List ℕ) (from : ℕ) → from ≤ length t → InWord t from from
word_starts t from h =
    let k : from - from ≡ 0 = omega arith in
    record { onward = omega arith; within = h; word = rw k }

module _ (t : List ℕ) (from i : ℕ) (passed : InWord t from i) where
  pub word_next : i < length t → is_word_byte (get_or t i 0) ≡ true → InWord t from (i + 1)
  word_next h next =
      let k : i + 1 - from ≡ suc (i - from) = omega arith in
      let j : from + (i - from) ≡ i = omega arith in
      record {
        onward = omega arith;
        within = omega arith;
        word = rw (k, take-suc (drop from t) (i - from) 0 (rw (length-drop from t) (omega arith)), all_append, passed.word, get_or-drop, j, next);
      }

  pub word_stops : is_word_byte (get_or t i 0) ≡ false → WordEnds t from i
  word_stops e =
      record { onward = passed.onward; within = passed.within; word = passed.word; ended = λ h. e }

  pub word_ends : length t ≤ i → WordEnds t from i
  word_ends h = record { onward = passed.onward; within = passed.within; word = passed.word; ended = λ k. absurd (omega arith) }

pub word_ends_lem : (t : List ℕ) (from n : ℕ) → from ≤ length t → n ≡ length (take_while is_word_byte (drop from t)) → WordEnds t from (from + n)
word_ends_lem t from n h e =
    rw (e, length-prefix_len) (gone_over is_word_byte t (InWord t from) (WordEnds t from) (λ j s h b. word_next t from j s h b) (λ j s b. word_stops t from j s b) (λ j s h. word_ends t from j s h) (length t - from) from refl (word_starts t from h))

-- The run from i on with the text after it
run_is : (t : List ℕ) (i n e : ℕ) → i + suc n ≡ e → e ≤ length t → goes_on (get_or t (i + n) 0) (get_or t e 0) ≡ false
    → tokens (bytes_at t i (suc n) ++ drop e t) ≡ token_of (bytes_at t i (suc n)) ∷ tokens (drop e t) → RunEnds t i e
unfolding tokens_from
run_is t i n e k within apart cut =
    let w : i + suc n ≤ length t = omega arith in
    let l : e - i ≡ suc n = omega arith in
    let last : i + n + 1 ≡ e = omega arith in
    record {
      onward = omega arith;
      within = within;
      first_is = rw (l, take_bytes t i (suc n) w, drop_bytes t i (suc n) w, k) cut;
      uncut = subst (λ (m : ℕ). cut_at t m ≡ 0) last (uncut_after t (i + n) (rw last apart));
    }

-- of letters and digits: it has one at least, and the text after it begins with none
ended_byte : (t : List ℕ) (e : ℕ) → (e < length t → is_word_byte (get_or t e 0) ≡ false) → is_word_byte (get_or t e 0) ≡ false
unfolding is_word_byte is_digit
ended_byte [] e h = refl
ended_byte (x ∷ t) zero h = h (omega arith)
ended_byte (x ∷ t) (suc e) h = ended_byte t e (λ k. h (omega arith))

ended_word : (t : List ℕ) (e : ℕ) → is_word_byte (get_or t e 0) ≡ false → begins_word (drop e t) ≡ false
unfolding begins_word
ended_word [] zero h = refl
ended_word [] (suc e) h = refl
ended_word (x ∷ t) zero h = h
ended_word (x ∷ t) (suc e) h = ended_word t e h

pub run_word : (t : List ℕ) (i e : ℕ) (b : Bool) → i < length t → b ≡ is_word_byte (get_or t i 0) → b ≡ true → WordEnds t i e → RunEnds t i e
run_word t i e b h b-is w ends = go (e - i) refl
  where
    go : (n : ℕ) → e - i ≡ n → RunEnds t i e
    go zero k =
        let j : e ≡ i = omega (arith, ends.onward) in
        impossible (sym (ends.ended (rw j h)) ∙ rw j (sym b-is ∙ w))
    go (suc n) k =
        let l : i + suc n ≡ e = omega arith in
        let run : all is_word_byte (bytes_at t i (suc n)) ≡ true = rw (k, take_bytes t i (suc n) (omega (arith, ends.within))) at ends.word in
        let last : is_word_byte (get_or t (i + n) 0) ≡ true = rw (get_or_bytes t i (suc n) n (omega arith)) at (each_passes is_word_byte (bytes_at t i (suc n)) 0 run n (omega (arith, length_bytes t i (suc n)))) in
        let next = ended_byte t e ends.ended in
        run_is t i n e l ends.within (word_apart (get_or t (i + n) 0) (get_or t e 0) last next) (word_law (get_or t i 0) (bytes_at t (suc i) n) (drop e t) run (ended_word t e next))

-- `!=` and `>=`, which are runs of two bytes, and any other byte by itself
abbrev are_two : ℕ → ℕ → Bool
are_two b next = (eqb b (code "!") || eqb b (code ">")) && eqb next (code "=")

apart_sign : (c b : ℕ) → is_word_byte c ≡ false → goes_on c b ≡ are_two c b
unfolding goes_on
apart_sign c b e = rw e

apart_equal : (b : ℕ) → goes_on (code "=") b ≡ false
unfolding goes_on is_word_byte is_digit
apart_equal b = refl

joins_no_two : (c d b : ℕ) → is_word_byte c ≡ false → joins (c ∷ d ∷ []) b ≡ false
unfolding joins
joins_no_two c d b e = simp (e, and-false)

module _ (t : List ℕ) (i next : ℕ) (b : Bool) (h : i < length t) (solid : is_blank (get_or t i 0) ≡ false) (b-is : b ≡ is_word_byte (get_or t i 0)) (other : b ≡ false) (next_is : next ≡ get_or t (i + 1) 0) where
  no_word : is_word_byte (get_or t i 0) ≡ false
  no_word = sym b-is ∙ other

  pub run_pair : are_two (get_or t i 0) next ≡ true → RunEnds t i (i + 2)
  run_pair two =
      let equal = eqb-true next (code "=") (and_right (eqb (get_or t i 0) (code "!") || eqb (get_or t i 0) (code ">")) (eqb next (code "=")) two) in
      let inside = get_or_inside t (i + 1) (rw (← next_is, equal) (omega arith)) in
      run_is t i 1 (i + 2) refl (omega arith) (rw (← next_is, equal) (apart_equal (get_or t (i + 2) 0)))
      (pair_law (get_or t i 0) (get_or t (suc i) 0) (drop (i + 2) t) solid
      (follows_one (get_or t i 0) (get_or t (suc i) 0) ∙ apart_sign (get_or t i 0) (get_or t (suc i) 0) no_word ∙ rw (← (add-one i), ← next_is, two))
      (λ y. joins_no_two (get_or t i 0) (get_or t (suc i) 0) y no_word))

  pub run_single : are_two (get_or t i 0) next ≡ false → RunEnds t i (i + 1)
  run_single one =
      let n : i + 0 ≡ i = omega arith in
      let alone = apart_sign (get_or t i 0) next no_word ∙ one in
      run_is t i 0 (i + 1) refl (omega arith) (rw (n, ← next_is) alone)
      (sign_law (get_or t i 0) (drop (i + 1) t) solid (λ y r e. follows_one (get_or t i 0) y ∙ rw (← (follower y r e)) alone))
    where
      follower : (y : ℕ) (r : List ℕ) → drop (i + 1) t ≡ y ∷ r → next ≡ y
      follower y r e = let first = bytes_front t (y ∷ []) r (i + 1) e in cc

-- The first token from `from` on, behind the blanks: there is none, or the run at i is it
module _ (t : List ℕ) (from i : ℕ) (skipped : Skipped t from i) where
  module _ (h : length t ≤ i) where
    no_token_lem : tokens_from t from ≡ []
    unfolding tokens_from tokens tokens_after end_run
    no_token_lem = sym skipped.same_tokens ∙ rw (drop_of_length-le t h)

    pub passed_none : from ≤ length t → Passed t from i
    unfolding later_tokens
    passed_none g =
        record {
          onward = skipped.onward;
          further = λ some. absurd (some no_token_lem);
          within = skipped.within g;
          later = skipped.same_tokens ∙ rw no_token_lem;
          uncut = uncut_end t i h;
        }

    pub token_none : None ≡ first_token (tokens_from t from)
    unfolding first_token
    token_none = rw no_token_lem

  module _ (e : ℕ) (run : RunEnds t i e) where
    first_token_lem : tokens_from t from ≡ token_of (take (e - i) (drop i t)) ∷ tokens_from t e
    first_token_lem = sym skipped.same_tokens ∙ run.first_is

    pub passed_one : Passed t from e
    unfolding later_tokens
    passed_one =
        record { onward = omega arith; further = λ some. omega arith; within = run.within; later = rw first_token_lem; uncut = run.uncut }

    pub token_first : (k : Token) → k ≡ token_of (take (e - i) (drop i t)) → Some k ≡ first_token (tokens_from t from)
    unfolding first_token
    token_first k k-is = ap Some k-is ∙ rw first_token_lem
