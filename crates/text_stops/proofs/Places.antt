-- The places of a text's tokens: there is one for each token, and from a place on at which no token is cut the text's tokens are its last ones.
use Prim.Native.Nat.{ℕ, zero, suc, ◌+◌, ◌-◌, ◌≤◌, ◌<◌}
use Prim.Native.Char.{code}
use native.Mathlib.Numerals.{add-one}
use native.Mathlib.Omega.{arith}
use native.Mathlib.Decide.{dec_le}
use mathlib.Core.Path.{◌≡◌, refl, ap, sym, ◌∙◌}
use mathlib.Core.Bool.{Bool, true, false, cond, ◌&&◌, ◌||◌, and-true, and-false, or-true}
use mathlib.Core.List.{List, [], ◌∷◌, ◌++◌, append_assoc, append-nil}
use mathlib.Core.Logic.{⊎_elim}
use lib.Dec.{eqb}
use lib.ListN.{length, get_or, take, drop, length-append, take-append-drop, drop_of_length-le, get_or-eq_default}
use lib.Seq.{drop-cons, drop-length, take_at, drop_at, get_or-drop, length-take-le, get_or-append-add}
use borrow.Author.Tests.{eqb-true}
use Rattle.base.specs.Lists.{all, nonempty, flag, same}
use Rattle.base.proofs.Lists.{and_left, and_right, same_eq}
use Rattle.text_grammar.specs.Characters.{bytes, is_blank, is_digit, is_word_byte}
use Rattle.text_grammar.specs.declared.tokens.Token.{Token}
use Rattle.text_grammar.specs.Lexer.{joins, end_run, tokens_after, tokens, tokens_from}
use Rattle.text_grammar.proofs.Lexing.{impossible, one_of, word_not_blank, join_step, cut_again, blank_step, run_step, all_snoc, word_differs}
use Rattle.text_stops.specs.Places.{goes_on, places_after, places, place_of_last, cut_at}

-- A byte that comes next joins a run just where it goes on with a
abbrev Follows : List ℕ → ℕ → Type 0
Follows run a = (b : ℕ) → joins run b ≡ goes_on a b

-- nothing goes on with a blank
pub blank_apart : (a b : ℕ) → is_blank a ≡ true → goes_on a b ≡ false
unfolding goes_on is_blank is_word_byte is_digit
blank_apart a b h = ⊎_elim (λ e. rw (eqb-true a (code " ") e)) (λ e. rw (eqb-true a (code "\n") e)) (one_of (eqb a (code " ")) (eqb a (code "\n")) h)

follows_blank : (a : ℕ) → is_blank a ≡ true → Follows [] a
unfolding joins
follows_blank a h b = sym (blank_apart a b h)

-- a byte by itself, and one that has joined a run
pub follows_one : (a : ℕ) → Follows (a ∷ []) a
unfolding joins goes_on
follows_one a b = simp and-true

-- a letter or digit, and a byte that is none
word_other : (b k : ℕ) → is_word_byte b ≡ true → is_word_byte k ≡ false → eqb b k ≡ false
word_other b k h e = sym (and-true (eqb b k)) ∙ word_differs (b ∷ []) k (rw h) e

pub word_apart : (a b : ℕ) → is_word_byte a ≡ true → is_word_byte b ≡ false → goes_on a b ≡ false
unfolding goes_on is_word_byte is_digit
word_apart a b h e = rw (e, and-false (is_word_byte a), word_other a (code "!") h refl, word_other a (code ">") h refl)

joined_word : (run : List ℕ) (b : ℕ) → all is_word_byte run ≡ true → is_word_byte b ≡ true → Follows (run ++ (b ∷ [])) b
unfolding joins goes_on is_word_byte is_digit
joined_word run b h e = go run (all_snoc run b h e)
  where
    word : (l : List ℕ) (x : ℕ) → all is_word_byte (x ∷ l) ≡ true → Follows (x ∷ l) b
    word l x w d = rw (w, word_differs (x ∷ l) (code "!") w refl, word_differs (x ∷ l) (code ">") w refl, e, word_other b (code "!") e refl, word_other b (code ">") e refl)

    go : (l : List ℕ) → all is_word_byte (l ++ (b ∷ [])) ≡ true → Follows (l ++ (b ∷ [])) b
    go [] w = word [] b w
    go (x ∷ l) w = word (l ++ (b ∷ [])) x w

joined_pair : (run : List ℕ) (b : ℕ) → (same run (bytes "!") || same run (bytes ">")) ≡ true → eqb b (code "=") ≡ true → Follows (run ++ (b ∷ [])) b
unfolding joins goes_on is_word_byte is_digit
joined_pair run b h e d =
    ⊎_elim (λ u. rw (same_eq run (bytes "!") u, eqb-true b (code "=") e)) (λ u. rw (same_eq run (bytes ">") u, eqb-true b (code "=") e))
    (one_of (same run (bytes "!")) (same run (bytes ">")) h)

follows_joined : (run : List ℕ) (b : ℕ) → joins run b ≡ true → Follows (run ++ (b ∷ [])) b
unfolding joins
follows_joined [] b h = impossible h
follows_joined (c ∷ run) b h =
    ⊎_elim (λ u. joined_word (c ∷ run) b (and_left (all is_word_byte (c ∷ run)) (is_word_byte b) u) (and_right (all is_word_byte (c ∷ run)) (is_word_byte b) u))
    (λ u. joined_pair (c ∷ run) b (and_left (same (c ∷ run) (bytes "!") || same (c ∷ run) (bytes ">")) (eqb b (code "=")) u) (and_right (same (c ∷ run) (bytes "!") || same (c ∷ run) (bytes ">")) (eqb b (code "=")) u))
    (one_of (all is_word_byte (c ∷ run) && is_word_byte b) _ h)

-- What holds of bytes that follow a run and the byte a, the run's last one or a blank, by what the next byte does: it joins the run, is a blank, or begins a run
module _ (P : List ℕ → ℕ → List ℕ → Type 0)
    (ends : (run : List ℕ) (a : ℕ) → Follows run a → P run a [])
    (joined : (run : List ℕ) (a b : ℕ) (bs : List ℕ) → joins run b ≡ true → goes_on a b ≡ true → P (run ++ (b ∷ [])) b bs → P run a (b ∷ bs))
    (blank : (run : List ℕ) (a b : ℕ) (bs : List ℕ) → joins run b ≡ false → is_blank b ≡ true → P [] b bs → P run a (b ∷ bs))
    (begins : (run : List ℕ) (a b : ℕ) (bs : List ℕ) → joins run b ≡ false → goes_on a b ≡ false → is_blank b ≡ false → P (b ∷ []) b bs → P run a (b ∷ bs)) where
  by_bytes : (bs run : List ℕ) (a : ℕ) → Follows run a → P run a bs
  by_bytes [] run a f = ends run a f
  by_bytes (b ∷ bs) run a f = go (λ r c g. by_bytes bs r c g) (joins run b) (is_blank b) refl refl
    where
      go : ((r : List ℕ) (c : ℕ) → Follows r c → P r c bs) → (x y : Bool) → joins run b ≡ x → is_blank b ≡ y → P run a (b ∷ bs)
      go again true y e u = joined run a b bs e (sym (f b) ∙ e) (again (run ++ (b ∷ [])) b (follows_joined run b e))
      go again false true e u = blank run a b bs e u (again [] b (follows_blank b u))
      go again false false e u = begins run a b bs e (sym (f b) ∙ e) u (again (b ∷ []) b (follows_one b))

-- A byte's turn: what it adds to the places
module _ (a b i : ℕ) (bs : List ℕ) where
  place_joined : goes_on a b ≡ true → places_after a i (b ∷ bs) ≡ places_after b (i + 1) bs
  unfolding places_after
  place_joined e = rw (e, or-true (is_blank b))

  place_blank : is_blank b ≡ true → places_after a i (b ∷ bs) ≡ places_after b (i + 1) bs
  unfolding places_after
  place_blank e = rw e

  place_begins : goes_on a b ≡ false → is_blank b ≡ false → places_after a i (b ∷ bs) ≡ i ∷ places_after b (i + 1) bs
  unfolding places_after
  place_begins e u = rw (e, u)

-- a run that ends is a token, if it has a byte
end_counted : (run : List ℕ) (ts : List Token) → length (end_run run ts) ≡ flag (nonempty run) + length ts
unfolding end_run
end_counted [] ts = omega arith
end_counted (c ∷ run) ts = omega arith

end_append : (run : List ℕ) (ts us : List Token) → end_run run (ts ++ us) ≡ end_run run ts ++ us
unfolding end_run
end_append [] ts us = refl
end_append (c ∷ run) ts us = refl

joined_counted : (run : List ℕ) (b : ℕ) → joins run b ≡ true → flag (nonempty (run ++ (b ∷ []))) ≡ flag (nonempty run)
unfolding joins
joined_counted [] b h = impossible h
joined_counted (c ∷ run) b h = refl

-- One place for each token, and one token more for the run before the bytes
abbrev Counted : List ℕ → ℕ → List ℕ → Type 0
Counted run a bs = (i : ℕ) → length (tokens_after run bs) ≡ flag (nonempty run) + length (places_after a i bs)

counted : (bs run : List ℕ) (a : ℕ) → Follows run a → Counted run a bs
unfolding tokens_after places_after tokens
counted = by_bytes Counted
    (λ run a f i. end_counted run [])
    (λ run a b bs e u again i. omega (arith, ap length (join_step b bs run e), again (i + 1), joined_counted run b e, ap length (place_joined a b i bs u)))
    (λ run a b bs e u again i. omega (arith, ap length (cut_again b bs run e ∙ ap (end_run run) (blank_step b bs u)), end_counted run (tokens bs), again (i + 1), ap length (place_blank a b i bs u)))
    (λ run a b bs e g u again i. omega (arith, ap length (cut_again b bs run e ∙ ap (end_run run) (run_step b bs u)), end_counted run (tokens_after (b ∷ []) bs), again (i + 1), ap length (place_begins a b i bs g u)))

-- the last of some bytes, or the one before them; and whether a token goes on from a byte into bytes
unfoldable last_byte : ℕ → List ℕ → ℕ
last_byte a [] = a
last_byte a (b ∷ bs) = last_byte b bs

unfoldable cut_before : ℕ → List ℕ → Bool
cut_before a [] = false
cut_before a (b ∷ bs) = goes_on a b

-- Bytes in two pieces between which no token is cut
abbrev Parted : List ℕ → List ℕ → ℕ → List ℕ → Type 0
Parted ys run a xs = cut_before (last_byte a xs) ys ≡ false → tokens_after run (xs ++ ys) ≡ tokens_after run xs ++ tokens ys

parted_ends : (ys run : List ℕ) (a : ℕ) → Follows run a → Parted ys run a []
unfolding tokens_after tokens end_run cut_before last_byte
parted_ends [] run a f h = sym (append-nil (end_run run []))
parted_ends (y ∷ ys) run a f h = cut_again y ys run (f y ∙ h) ∙ end_append run [] (tokens (y ∷ ys))

parted : (ys xs run : List ℕ) (a : ℕ) → Follows run a → Parted ys run a xs
unfolding last_byte tokens
parted ys = by_bytes (Parted ys)
    (parted_ends ys)
    (λ run a b xs e u again h. join_step b (xs ++ ys) run e ∙ again h ∙ ap (λ (ts : List Token). ts ++ tokens ys) (sym (join_step b xs run e)))
    (λ run a b xs e u again h.
    cut_again b (xs ++ ys) run e ∙ ap (end_run run) (blank_step b (xs ++ ys) u ∙ again h) ∙ end_append run (tokens xs) (tokens ys)
    ∙ ap (λ (ts : List Token). ts ++ tokens ys) (sym (cut_again b xs run e ∙ ap (end_run run) (blank_step b xs u))))
    (λ run a b xs e g u again h.
    cut_again b (xs ++ ys) run e ∙ ap (end_run run) (run_step b (xs ++ ys) u ∙ again h) ∙ end_append run (tokens_after (b ∷ []) xs) (tokens ys)
    ∙ ap (λ (ts : List Token). ts ++ tokens ys) (sym (cut_again b xs run e ∙ ap (end_run run) (run_step b xs u))))

-- and their places
places_parted : (xs ys : List ℕ) (a i : ℕ) → places_after a i (xs ++ ys) ≡ places_after a i xs ++ places_after (last_byte a xs) (i + length xs) ys
unfolding places_after last_byte
places_parted [] ys a i = ap (λ (n : ℕ). places_after a n ys) (omega arith)
places_parted (b ∷ xs) ys a i =
    let again = places_parted xs ys b (i + 1) in
    let n : i + 1 + length xs ≡ i + length (b ∷ xs) = omega arith in
    rw (← n, again) (sym (append_assoc (cond (is_blank b || goes_on a b) [] (i ∷ [])) (places_after b (i + 1) xs) (places_after (last_byte b xs) (i + 1 + length xs) ys)))

places_anew : (a i : ℕ) (bs : List ℕ) → cut_before a bs ≡ false → places_after a i bs ≡ places_after (code " ") i bs
unfolding places_after cut_before goes_on is_word_byte is_digit
places_anew a i [] h = refl
places_anew a i (b ∷ bs) h = rw h

-- A place of a text at which no token is cut
last_taken : (t : List ℕ) (a i : ℕ) → i < length t → last_byte a (take (suc i) t) ≡ get_or t i 0
unfolding last_byte
last_taken [] a i h = absurd (omega arith)
last_taken (b ∷ t) a zero h = refl
last_taken (b ∷ t) a (suc i) h = last_taken t b i (omega arith)

cut_dropped : (t : List ℕ) (a e : ℕ) → goes_on a (get_or t e 0) ≡ false → cut_before a (drop e t) ≡ false
unfolding cut_before
cut_dropped [] a zero h = refl
cut_dropped [] a (suc e) h = refl
cut_dropped (b ∷ t) a zero h = h
cut_dropped (b ∷ t) a (suc e) h = cut_dropped t a e h

pub uncut_after : (t : List ℕ) (i : ℕ) → goes_on (get_or t i 0) (get_or t (i + 1) 0) ≡ false → cut_at t (i + 1) ≡ 0
unfolding cut_at
uncut_after t i e = let n = add-one i in let u : goes_on (get_or t i 0) (get_or t (suc i) 0) ≡ false = rw n at e in rw (n, u)

pub uncut_end : (t : List ℕ) (e : ℕ) → length t ≤ e → cut_at t e ≡ 0
unfolding cut_at goes_on is_word_byte is_digit
uncut_end t zero h = refl
uncut_end t (suc i) h = rw (get_or-eq_default t 0 h, and-false (is_word_byte (get_or t i 0)), and-false (eqb (get_or t i 0) (code "!") || eqb (get_or t i 0) (code ">")))

no_flag : (b : Bool) → flag b ≡ 0 → b ≡ false
no_flag true h = absurd (omega arith)
no_flag false h = refl

uncut_there : (t : List ℕ) (e : ℕ) → e ≤ length t → cut_at t e ≡ 0 → cut_before (last_byte (code " ") (take e t)) (drop e t) ≡ false
unfolding cut_at last_byte goes_on is_word_byte is_digit
uncut_there t zero h w = cut_dropped t (code " ") zero refl
uncut_there t (suc i) h w = cut_dropped t _ (suc i) (rw (last_taken t (code " ") i (omega arith)) (no_flag _ w))

-- the places before a place, and those from it on
places_split : (t : List ℕ) (e : ℕ) → e ≤ length t → places t ≡ places (take e t) ++ places_after (last_byte (code " ") (take e t)) e (drop e t)
unfolding places
places_split t e inside =
    ap places (sym (take-append-drop e t)) ∙ places_parted (take e t) (drop e t) (code " ") 0
    ∙ ap (λ (n : ℕ). places (take e t) ++ places_after (last_byte (code " ") (take e t)) n (drop e t)) (omega (arith, length-take-le e t inside))

module _ (t : List ℕ) (e : ℕ) (inside : e ≤ length t) (uncut : cut_before (last_byte (code " ") (take e t)) (drop e t) ≡ false) where
  -- the text's tokens are those before it and those from it on, and so are the places
  tokens_parted : tokens t ≡ tokens (take e t) ++ tokens_from t e
  unfolding tokens tokens_from is_blank
  tokens_parted = ap tokens (sym (take-append-drop e t)) ∙ parted (drop e t) (take e t) [] (code " ") (follows_blank (code " ") refl) uncut

  places_from : places t ≡ places (take e t) ++ places_after (code " ") e (drop e t)
  places_from = places_split t e inside ∙ ap (λ (ps : List ℕ). places (take e t) ++ ps) (places_anew _ e (drop e t) uncut)

-- one place for each token of a text, and from a place on
places_counted : (i : ℕ) (bs : List ℕ) → length (tokens bs) ≡ length (places_after (code " ") i bs)
unfolding tokens is_blank
places_counted i bs = omega (arith, counted bs [] (code " ") (follows_blank (code " ") refl) i)

-- "the place of each token"
pub place_for_each : (t : List ℕ) → length (places t) ≡ length (tokens t)
unfolding places
place_for_each t = sym (places_counted 0 t)

-- a byte that goes on with another is no blank
joined_solid : (a b : ℕ) → goes_on a b ≡ true → is_blank b ≡ false
unfolding goes_on is_blank
joined_solid a b h =
    ⊎_elim (λ u. word_not_blank b (and_right (is_word_byte a) (is_word_byte b) u)) (λ u. rw (eqb-true b (code "=") (and_right (eqb a (code "!") || eqb a (code ">")) (eqb b (code "=")) u)))
    (one_of (is_word_byte a && is_word_byte b) _ h)

cut_adds : (a e : ℕ) (bs : List ℕ) → cut_before a bs ≡ true → length (places_after (code " ") e bs) ≡ suc (length (places_after a e bs))
unfolding cut_before goes_on is_word_byte is_digit
cut_adds a e [] h = impossible h
cut_adds a e (b ∷ bs) h = omega (arith, ap length (place_joined a b e bs h), ap length (place_begins (code " ") b e bs refl (joined_solid a b h)))

-- A place that is a text's end, or the begin of a token, is that of the tokens from it on
module _ (t : List ℕ) (e : ℕ) (inside : e ≤ length t) (no_blank : e < length t → is_blank (get_or t e 0) ≡ false) where
  first_place : get_or (places_after (code " ") e (drop e t)) 0 (length t) ≡ e
  unfolding places_after goes_on is_word_byte is_digit
  first_place = go (dec_le (length t) e)
    where
      go : Dec (length t ≤ e) → get_or (places_after (code " ") e (drop e t)) 0 (length t) ≡ e
      go (yes l) = rw (drop_of_length-le t l) (omega arith)
      go (no l) = rw (drop-cons t e 0 (omega arith), no_blank (omega arith))

  place_at : cut_before (last_byte (code " ") (take e t)) (drop e t) ≡ false → e ≡ place_of_last t (length (tokens_from t e))
  unfolding place_of_last tokens_from
  place_at uncut =
      let rest = places_after (code " ") e (drop e t) in
      let before = places (take e t) in
      let n : length (before ++ rest) - length (tokens (drop e t)) ≡ length before + 0 = omega (arith, length-append before rest, places_counted e (drop e t)) in
      sym (rw (places_from t e inside uncut, n) (get_or-append-add before rest 0 (length t) ∙ first_place))

  pub place_reached : cut_at t e ≡ 0 → e ≡ place_of_last t (length (tokens_from t e))
  place_reached uncut = place_at (uncut_there t e inside uncut)

  -- where a token is cut, there is one more than the text has
  pub place_parted : tokens t ≡ tokens (take e t) ++ tokens_from t e → e ≡ place_of_last t (length (tokens_from t e))
  unfolding tokens_from places
  place_parted all = place_at (go (cut_before (last_byte (code " ") (take e t)) (drop e t)) refl)
    where
      go : (x : Bool) → cut_before (last_byte (code " ") (take e t)) (drop e t) ≡ x → x ≡ false
      go false h = refl
      go true h =
          let before = tokens (take e t) in
          let after = tokens (drop e t) in
          let split = ap length (places_split t e inside) in
          let sizes = length-append (places (take e t)) (places_after (last_byte (code " ") (take e t)) e (drop e t)) in
          absurd (omega (arith, ap length all, length-append before after, split, sizes, cut_adds (last_byte (code " ") (take e t)) e (drop e t) h, places_counted 0 t, places_counted 0 (take e t), places_counted e (drop e t)))

-- The bytes in which the k-th token begins, and those before it
record Begun (a i : ℕ) (bs : List ℕ) (k d : ℕ) : Type 0 where
  before : List ℕ
  after : List ℕ
  bytes_are : bs ≡ before ++ after
  place_is : get_or (places_after a i bs) k d ≡ i + length before
  uncut : cut_before (last_byte a before) after ≡ false
  solid : is_blank (get_or after 0 0) ≡ false
  tokens_before : length (places_after a i before) ≡ k

module _ (a b i : ℕ) (bs : List ℕ) (d : ℕ) where
  -- a token begins with the byte b, or the k-th of those behind it is the m-th of all
  begun_here : (is_blank b || goes_on a b) ≡ false → Begun a i (b ∷ bs) zero d
  unfolding places_after last_byte cut_before
  begun_here e = record {
    before = [];
    after = b ∷ bs;
    bytes_are = refl;
    place_is = rw e (omega arith);
    uncut = (neither (is_blank b) (goes_on a b) e).1;
    solid = (neither (is_blank b) (goes_on a b) e).0;
    tokens_before = refl;
  }
    where
      neither : (x y : Bool) → (x || y) ≡ false → (x ≡ false) × (y ≡ false)
      neither true y h = impossible (sym h)
      neither false y h = (refl, h)

  begun_behind : (k m : ℕ) → get_or (places_after a i (b ∷ bs)) m d ≡ get_or (places_after b (i + 1) bs) k d
      → ((l : List ℕ) → length (places_after a i (b ∷ l)) + k ≡ length (places_after b (i + 1) l) + m) → Begun b (i + 1) bs k d → Begun a i (b ∷ bs) m d
  unfolding last_byte
  begun_behind k m same counts p = record {
    before = b ∷ p.before;
    after = p.after;
    bytes_are = ap (λ (l : List ℕ). b ∷ l) p.bytes_are;
    place_is = same ∙ omega (arith, p.place_is);
    uncut = p.uncut;
    solid = p.solid;
    tokens_before = omega (arith, counts p.before, p.tokens_before);
  }

each_begun : (bs : List ℕ) (a i k d : ℕ) → k < length (places_after a i bs) → Begun a i bs k d
unfolding places_after
each_begun [] a i k d h = absurd (omega arith)
each_begun (b ∷ bs) a i k d h = go (is_blank b || goes_on a b) k refl (λ j l. each_begun bs b (i + 1) j d l) h
  where
    go : (x : Bool) (k : ℕ) → (is_blank b || goes_on a b) ≡ x → ((j : ℕ) → j < length (places_after b (i + 1) bs) → Begun b (i + 1) bs j d)
        → k < length (cond x [] (i ∷ []) ++ places_after b (i + 1) bs) → Begun a i (b ∷ bs) k d
    go true k e again h = begun_behind a b i bs d k k (rw e) (λ l. rw e) (again k h)
    go false zero e again h = begun_here a b i bs d e
    go false (suc k) e again h = begun_behind a b i bs d k (suc k) (rw e) (λ l. rw e (omega arith)) (again k (omega arith))

-- The place of the last n tokens: these stand from there on, the others before it
pub record Reached (t : List ℕ) (n e : ℕ) : Type 0 where
  pub inside : e ≤ length t
  pub no_blank : e < length t → is_blank (get_or t e 0) ≡ false
  pub no_token_cut : tokens t ≡ tokens (take e t) ++ tokens_from t e
  pub tokens_left : length (tokens_from t e) ≡ n

reached_end : (t : List ℕ) → Reached t 0 (length t)
unfolding tokens_from tokens tokens_after end_run
reached_end t = record {
  inside = omega arith;
  no_blank = λ h. absurd (omega arith);
  no_token_cut = tokens_parted t (length t) (omega arith) (uncut_there t (length t) (omega arith) (uncut_end t (length t) (omega arith)));
  tokens_left = rw (drop-length t);
}

reached_begun : (t : List ℕ) (n k d e : ℕ) → k + n ≡ length (places t) → Begun (code " ") 0 t k d → get_or (places t) k d ≡ e → Reached t n e
unfolding tokens_from tokens places is_blank
reached_begun t n k d e sum p e-is =
    let at : length p.before ≡ e = omega (arith, p.place_is, e-is) in
    let front : take e t ≡ p.before = ap (take e) p.bytes_are ∙ take_at p.before p.after e at in
    let back : drop e t ≡ p.after = ap (drop e) p.bytes_are ∙ drop_at p.before p.after e at in
    let all = ap tokens p.bytes_are ∙ parted p.after p.before [] (code " ") (follows_blank (code " ") refl) p.uncut in
    let n : e + 0 ≡ e = omega arith in
    record {
      inside = omega (arith, ap length p.bytes_are, length-append p.before p.after);
      no_blank = λ h. rw (← n, ← (get_or-drop e t 0 0), back) p.solid;
      no_token_cut = rw (front, back) all;
      tokens_left = rw back (omega (arith, ap length all, length-append (tokens p.before) (tokens p.after), places_counted 0 t, places_counted 0 p.before, p.tokens_before));
    }

first_of : (t : List ℕ) (k : ℕ) → k < length (places t) → Begun (code " ") 0 t k (length t)
unfolding places
first_of t k h = each_begun t (code " ") 0 k (length t) h

pub last_reached : (t : List ℕ) (n : ℕ) → n ≤ length (tokens t) → Reached t n (place_of_last t n)
unfolding place_of_last
last_reached t zero h = rw (get_or-eq_default (places t) (length t) {n = length (places t) - 0} (omega arith)) (reached_end t)
last_reached t (suc m) h =
    let k : ℕ = length (places t) - suc m in
    let sum : k + suc m ≡ length (places t) = omega (arith, place_for_each t) in
    reached_begun t (suc m) k (length t) _ sum (first_of t k (omega arith)) refl
