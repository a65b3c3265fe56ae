-- Bytes spell at most one list of tokens, and `tokens` finds it.
use Prim.Native.Nat.{ℕ}
use Prim.Native.Char.{code}
use mathlib.Core.Path.{◌≡◌, refl, ap, sym, subst, ◌∙◌}
use mathlib.Core.Bool.{Bool, true, false, cond, not, ◌&&◌, ◌||◌}
use mathlib.Core.List.{List, [], ◌∷◌, ◌++◌, append_assoc, append-nil}
use lib.Dec.{eqb, leb}
use borrow.Author.Tests.{eqb-true}
use Rattle.base.specs.Lists.{all, nonempty, same}
use Rattle.base.proofs.Lists.{and_left, and_right, same_eq}
use Rattle.text_grammar.specs.Characters.{is_blank, is_digit, is_word_byte}
use Rattle.text_grammar.specs.Tokens.{Mark, start_word, wait_word, maintain_word, repeat_word, if_word, then_word, else_word, equal_sign, differs_sign, at_least_sign, below_sign, semicolon, comma, opening, closing, colon, marks, Token, variable, clock, unknown, spelling, is_number, numbered, named_token, token_among, token_of, is_known, is_apart, Spelled, ends, token}
use Rattle.text_grammar.specs.Lexer.{joins, end_run, tokens_after, tokens}
use Rattle.text_grammar.proofs.Lexing.{impossible, blank_not_word, join_step, cut_again, blank_step, run_step, gap_law, begins_word, word_law, sign_law, pair_law}

empty_unknown : is_known (token_of []) ≡ false
unfolding token_of token_among spelling is_known is_number named_token
empty_unknown = refl

-- the bytes behind a word, a number or a name begin with no letter or digit
follows_apart : {t : List ℕ} {ts : List Token} → Spelled true t ts → begins_word t ≡ false
unfolding begins_word is_apart
follows_apart (ends {gap = []} h) = refl
follows_apart (ends {gap = b ∷ gap} h) = blank_not_word b (and_left (is_blank b) (all is_blank gap) h)
follows_apart (token [] [] h a k r) = impossible (sym empty_unknown ∙ k)
follows_apart (token [] (b ∷ run) h a k r) = go (is_word_byte b) a
  where
    go : (x : Bool) → not (true && x) ≡ true → x ≡ false
    go true u = impossible u
    go false u = refl
follows_apart (token (b ∷ gap) run h a k r) = blank_not_word b (and_left (is_blank b) (all is_blank gap) h)

-- a mark that is no word
mark_law : (m : Mark) (t : List ℕ) → all is_word_byte (spelling m) ≡ false → tokens (spelling m ++ t) ≡ token_of (spelling m) ∷ tokens t
unfolding spelling joins is_blank is_word_byte is_digit
mark_law start_word t h = impossible (sym h)
mark_law wait_word t h = impossible (sym h)
mark_law maintain_word t h = impossible (sym h)
mark_law repeat_word t h = impossible (sym h)
mark_law if_word t h = impossible (sym h)
mark_law then_word t h = impossible (sym h)
mark_law else_word t h = impossible (sym h)
mark_law equal_sign t h = sign_law (code "=") t refl (λ b r w. refl)
mark_law differs_sign t h = pair_law (code "!") (code "=") t refl refl (λ b. refl)
mark_law at_least_sign t h = pair_law (code ">") (code "=") t refl refl (λ b. refl)
mark_law below_sign t h = sign_law (code "<") t refl (λ b r w. refl)
mark_law semicolon t h = sign_law (code ";") t refl (λ b r w. refl)
mark_law comma t h = sign_law (code ",") t refl (λ b r w. refl)
mark_law opening t h = sign_law (code "(") t refl (λ b r w. refl)
mark_law closing t h = sign_law (code ")") t refl (λ b r w. refl)
mark_law colon t h = sign_law (code ":") t refl (λ b r w. refl)

-- numbers and names are of letters and digits
digit_word : (b : ℕ) → is_digit b ≡ true → is_word_byte b ≡ true
unfolding is_word_byte
digit_word b h = rw h (or_true (leb (code "a") b && leb b (code "z")))
  where
    or_true : (a : Bool) → (a || true) ≡ true
    or_true true = refl
    or_true false = refl

digits_word : (run : List ℕ) → all is_digit run ≡ true → all is_word_byte run ≡ true
digits_word [] h = refl
digits_word (b ∷ run) h = rw (digit_word b (and_left (is_digit b) (all is_digit run) h), digits_word run (and_right (is_digit b) (all is_digit run) h))

number_word : (run : List ℕ) → is_number run ≡ true → all is_word_byte run ≡ true
unfolding is_number
number_word run h =
    digits_word run (and_left (all is_digit run) _ (and_right (nonempty run) _ h))

-- a choice that is known is one of two that is
known_cases : {P : Type 0} (x : Bool) (a z : Token) → (x ≡ true → is_known a ≡ true → P) → (is_known z ≡ true → P) → is_known (cond x a z) ≡ true → P
known_cases true a z f g h = f refl h
known_cases false a z f g h = g h

named_word : (run : List ℕ) → is_known (named_token run) ≡ true → all is_word_byte run ≡ true
unfolding named_token is_known is_word_byte is_digit
named_word [] h = impossible h
named_word (b ∷ run) h =
    known_cases (eqb b (code "v")) _ _ (λ e. name (code "v") variable refl e)
    (known_cases (eqb b (code "c")) _ _ (λ e. name (code "c") clock refl e) (λ w. impossible w)) h
  where
    name : (k : ℕ) (f : ℕ → Token) → is_word_byte k ≡ true → eqb b k ≡ true → is_known (numbered f run unknown) ≡ true → all is_word_byte (b ∷ run) ≡ true
    name k f w e u = known_cases (is_number run) _ _ (λ i _. rw (eqb-true b k e, w, number_word run i)) (λ v. impossible v) u

-- a run that is a token, and is not of letters and digits alone, is a mark
module _ (run t : List ℕ) (other : all is_word_byte run ≡ false) where
  contrary : all is_word_byte run ≡ true → tokens (run ++ t) ≡ token_of run ∷ tokens t
  contrary h = impossible (sym other ∙ h)

  among_law : (ms : List Mark) → is_known (token_among ms run) ≡ true → tokens (run ++ t) ≡ token_of run ∷ tokens t
  unfolding token_among
  among_law [] h = known_cases (is_number run) _ _ (λ i _. contrary (number_word run i)) (λ w. contrary (named_word run w)) h
  among_law (m ∷ ms) h = known_cases (same run (spelling m)) _ _ (λ e _. found_mark (same_eq run (spelling m) e)) (among_law ms) h
    where
      found_mark : run ≡ spelling m → tokens (run ++ t) ≡ token_of run ∷ tokens t
      found_mark e = rw e (mark_law m t (rw e at other))

-- a token that is spelled is found
token_law : (run t : List ℕ) (ts : List Token) → is_known (token_of run) ≡ true → Spelled (all is_word_byte run) t ts → tokens (run ++ t) ≡ token_of run ∷ tokens t
unfolding token_of
token_law run t ts k r = go (all is_word_byte run) refl
  where
    word : (l : List ℕ) → all is_word_byte l ≡ true → is_known (token_of l) ≡ true → begins_word t ≡ false → tokens (l ++ t) ≡ token_of l ∷ tokens t
    word [] h w b = impossible (sym empty_unknown ∙ w)
    word (c ∷ l) h w b = word_law c l t h b

    go : (x : Bool) → all is_word_byte run ≡ x → tokens (run ++ t) ≡ token_of run ∷ tokens t
    go true e = word run e k (follows_apart (subst (λ (x : Bool). Spelled x t ts) e r))
    go false e = among_law run t e marks k

pub found : {follows : Bool} {t : List ℕ} {ts : List Token} → Spelled follows t ts → tokens t ≡ ts
unfolding tokens tokens_after end_run
found (ends {gap = gap} h) = ap tokens (sym (append-nil gap)) ∙ gap_law gap [] h
found (token gap run {rest = rest} {tokens = ts} h a k r) =
    gap_law gap (run ++ rest) h ∙ token_law run rest ts k r ∙ ap (λ (l : List Token). token_of run ∷ l) (found r)

-- What is found is spelled so, where every token is known
unfoldable pub all_known : List Token → Bool
all_known [] = true
all_known (t ∷ ts) = is_known t && all_known ts

-- a run, of which the first bytes are passed, up to its end
record Run (passed bs : List ℕ) : Type 0 where
  more : List ℕ
  rest : List ℕ
  split : bs ≡ more ++ rest
  first_is : tokens_after passed bs ≡ token_of (passed ++ more) ∷ tokens rest
  rest_is : Spelled (all is_word_byte (passed ++ more)) rest (tokens rest)

widen : (b : ℕ) (v w : Bool) {t : List ℕ} {ts : List Token} → is_blank b ≡ true → Spelled v t ts → Spelled w (b ∷ t) ts
unfolding is_apart
widen b v w e (ends {gap = gap} h) = ends {gap = b ∷ gap} (rw (e, h))
widen b v w e (token gap run h a k r) = token (b ∷ gap) run (rw (e, h)) refl k r

module _ (b : ℕ) (bs : List ℕ) (after-blank : all_known (tokens bs) ≡ true → Spelled false bs (tokens bs)) (after-byte : all_known (tokens_after (b ∷ []) bs) ≡ true → Run (b ∷ []) bs) where
  spelled_byte : (follows : Bool) → (follows && is_word_byte b) ≡ false → all_known (tokens (b ∷ bs)) ≡ true → Spelled follows (b ∷ bs) (tokens (b ∷ bs))
  unfolding is_apart all_known
  spelled_byte follows e k = go (is_blank b) refl
    where
      blank : is_blank b ≡ true → Spelled follows (b ∷ bs) (tokens (b ∷ bs))
      blank u =
          let i = blank_step b bs u in
          subst (Spelled follows (b ∷ bs)) (sym i) (widen b false follows u (after-blank (rw i at k)))

      begins : is_blank b ≡ false → Spelled follows (b ∷ bs) (tokens (b ∷ bs))
      begins u =
          let i = run_step b bs u in
          let r = after-byte (rw i at k) in
          let j = i ∙ r.first_is in
          let l : all_known (token_of (b ∷ r.more) ∷ tokens r.rest) ≡ true = rw j at k in
          let x : Spelled follows (b ∷ (r.more ++ r.rest)) (token_of (b ∷ r.more) ∷ tokens r.rest) =
          token [] (b ∷ r.more) refl (ap not e) (and_left (is_known (token_of (b ∷ r.more))) (all_known (tokens r.rest)) l) r.rest_is in
          subst (Spelled follows (b ∷ bs)) (sym j) (subst (λ (l : List ℕ). Spelled follows (b ∷ l) (token_of (b ∷ r.more) ∷ tokens r.rest)) (sym r.split) x)

      go : (x : Bool) → is_blank b ≡ x → Spelled follows (b ∷ bs) (tokens (b ∷ bs))
      go true u = blank u
      go false u = begins u

run_ends : (c : ℕ) (run : List ℕ) → Run (c ∷ run) []
unfolding tokens tokens_after end_run
run_ends c run = record { more = []; rest = []; split = refl; first_is = ap (λ (l : List ℕ). token_of (c ∷ l) ∷ []) (sym (append-nil run)); rest_is = ends {gap = []} refl }

run_joins : (c : ℕ) (run : List ℕ) (b : ℕ) (bs : List ℕ) → joins (c ∷ run) b ≡ true → Run (c ∷ (run ++ (b ∷ []))) bs → Run (c ∷ run) (b ∷ bs)
run_joins c run b bs e r =
    let a : (run ++ (b ∷ [])) ++ r.more ≡ run ++ (b ∷ r.more) = append_assoc run (b ∷ []) r.more in
    record {
      more = b ∷ r.more;
      rest = r.rest;
      split = ap (λ (l : List ℕ). b ∷ l) r.split;
      first_is = join_step b bs (c ∷ run) e ∙ r.first_is ∙ ap (λ (l : List ℕ). token_of (c ∷ l) ∷ tokens r.rest) a;
      rest_is = subst (λ (l : List ℕ). Spelled (all is_word_byte (c ∷ l)) r.rest (tokens r.rest)) a r.rest_is;
    }

run_cut : (c : ℕ) (run : List ℕ) (b : ℕ) (bs : List ℕ) → joins (c ∷ run) b ≡ false
    → ((follows : Bool) → (follows && is_word_byte b) ≡ false → all_known (tokens (b ∷ bs)) ≡ true → Spelled follows (b ∷ bs) (tokens (b ∷ bs)))
    → all_known (tokens_after (c ∷ run) (b ∷ bs)) ≡ true → Run (c ∷ run) (b ∷ bs)
unfolding end_run joins all_known
run_cut c run b bs e spelled k =
    let i = cut_again b bs (c ∷ run) e in
    let l : (is_known (token_of (c ∷ run)) && all_known (tokens (b ∷ bs))) ≡ true = rw i at k in
    record {
      more = [];
      rest = b ∷ bs;
      split = refl;
      first_is = i ∙ ap (λ (l : List ℕ). token_of (c ∷ l) ∷ tokens (b ∷ bs)) (sym (append-nil run));
      rest_is = subst (λ (l : List ℕ). Spelled (all is_word_byte (c ∷ l)) (b ∷ bs) (tokens (b ∷ bs))) (sym (append-nil run))
          (spelled (all is_word_byte (c ∷ run)) (or_left (all is_word_byte (c ∷ run) && is_word_byte b) _ e) (and_right (is_known (token_of (c ∷ run))) (all_known (tokens (b ∷ bs))) l));
    }
  where
    or_left : (a z : Bool) → (a || z) ≡ false → a ≡ false
    or_left true z h = h
    or_left false z h = refl

run_on : (c : ℕ) (run : List ℕ) (b : ℕ) (bs : List ℕ) → all_known (tokens_after (c ∷ run) (b ∷ bs)) ≡ true
    → (all_known (tokens_after (c ∷ (run ++ (b ∷ []))) bs) ≡ true → Run (c ∷ (run ++ (b ∷ []))) bs)
    → ((follows : Bool) → (follows && is_word_byte b) ≡ false → all_known (tokens (b ∷ bs)) ≡ true → Spelled follows (b ∷ bs) (tokens (b ∷ bs)))
    → Run (c ∷ run) (b ∷ bs)
run_on c run b bs k more spelled = go (joins (c ∷ run) b) refl
  where
    go : (x : Bool) → joins (c ∷ run) b ≡ x → Run (c ∷ run) (b ∷ bs)
    go true e = run_joins c run b bs e (more (rw (join_step b bs (c ∷ run) e) at k))
    go false e = run_cut c run b bs e spelled k

nothing_spelled : Spelled false [] (tokens [])
unfolding tokens tokens_after end_run
nothing_spelled = ends {gap = []} refl

mutual
  pub spelled_out : (bs : List ℕ) → all_known (tokens bs) ≡ true → Spelled false bs (tokens bs)
  spelled_out [] k = nothing_spelled
  spelled_out (b ∷ bs) k = spelled_byte b bs (λ h. spelled_out bs h) (λ h. run_out bs b [] h) false refl k

  run_out : (bs : List ℕ) (c : ℕ) (run : List ℕ) → all_known (tokens_after (c ∷ run) bs) ≡ true → Run (c ∷ run) bs
  run_out [] c run k = run_ends c run
  run_out (b ∷ bs) c run k = run_on c run b bs k (λ h. run_out bs c (run ++ (b ∷ [])) h) (spelled_byte b bs (λ h. spelled_out bs h) (λ h. run_out bs b [] h))
