-- No program file that is accepted is taken for a text, and every text that fits the grammar is.
use Prim.Native.Nat.{ℕ, ◌≤◌, ◌<◌}
use Prim.Native.Char.{code}
use native.Mathlib.Decide.{dec_le}
use native.Mathlib.Omega.{arith}
use mathlib.Core.Path.{◌≡◌, refl, sym}
use mathlib.Core.Bool.{Bool, true, false, cond, ◌||◌, false≢true}
use mathlib.Core.List.{List, [], ◌∷◌, ◌++◌}
use lib.Dec.{eqb, leb}
use lib.ListN.{length, get_or, drop, length-take, take-append-drop, get_or-eq_default}
use lib.Seq.{get_or-take}
use borrow.Author.Tests.{leb-true, le-leb, eqb-true}
use Rattle.base.specs.Lists.{all, nonempty, same}
use Rattle.base.proofs.Lists.{and_left, and_right, all_append, same_eq, none_fails, each_tabulated, each_passes}
use Rattle.meaning.specs.declared.Form.TheVariants.{File}
use Rattle.meaning.specs.Sizes.{header_length, length_of}
use Rattle.meaning.specs.declared.kinds.Kind.TheVariants.{Unknown as UNKNOWN}
use Rattle.meaning.specs.Kinds.{kinds, kind_of, known}
use Rattle.meaning.specs.Program.{parts, sizes_allowed, entry_at, entries, entry_known, program_tests, program_refusal}
use Rattle.text_grammar.specs.Characters.{is_blank, is_digit}
use Rattle.text_grammar.specs.declared.tokens.Mark.{Mark}
use Rattle.text_grammar.specs.declared.tokens.Mark.TheVariants.{StartWord as start_word, WaitWord as wait_word, MaintainWord as maintain_word, RepeatWord as repeat_word, IfWord as if_word, ThenWord as then_word, ElseWord as else_word, EqualSign as equal_sign, DiffersSign as differs_sign, AtLeastSign as at_least_sign, BelowSign as below_sign, Semicolon as semicolon, Comma as comma, Opening as opening, Closing as closing, Colon as colon}
use Rattle.text_grammar.specs.declared.tokens.Token.{Token}
use Rattle.text_grammar.specs.declared.tokens.Token.TheVariants.{Variable as variable, Clock as clock, Unknown as unknown}
use Rattle.text_grammar.specs.Tokens.{spelling, marks, is_number, numbered, named_token, token_among, token_of, is_known, Spelled, ends, token}
use Rattle.text_grammar.specs.Syntax.{Text, write_text}
use Rattle.text_grammar.specs.Texts.{Fits}
use Rattle.desk_texts.specs.Forms.{least_byte, telling, is_text}
use Rattle.desk_texts.proofs.Telling.{front, no_text}

impossible : {A : Type 0} → false ≡ true → A
impossible h = absurd (false≢true h)

-- A kind byte is below the bytes of a text
known_below : (b : ℕ) → known (kind_of b) ≡ true → b < least_byte
unfolding kind_of known
known_below b h = go (dec_le least_byte b)
  where
    go : Dec (least_byte ≤ b) → b < least_byte
    go (yes l) = impossible (rw (get_or-eq_default kinds UNKNOWN {n = b} (omega arith)) at h)
    go (no l) = omega arith

module _ (f : List ℕ) (h : program_refusal File f ≡ 0) where
  some_part : sizes_allowed f ≡ true → 1 ≤ parts f
  unfolding sizes_allowed
  some_part s = leb-true 1 (parts f) (and_left (leb 1 (parts f)) _ s)

  first_known : (get_or f header_length 0 < least_byte) × (header_length < length f)
  unfolding program_refusal entries entry_known
  first_known =
      let tests = none_fails (program_tests File f) refl h in
      let some = some_part tests.1.0 in
      let long : length f ≡ length_of File (parts f) = eqb-true (length f) (length_of File (parts f)) tests.1.1.0 in
      let kind = each_tabulated (entry_at File f) entry_known 0 (parts f) tests.1.1.1.0 0 (omega arith) in
      (known_below (get_or f header_length 0) kind, omega (arith, long, some))

  pub file_no_text : is_text f ≡ false
  file_no_text = sym (no_text f (go (all (leb least_byte) (front f)) refl))
    where
      go : (b : Bool) → all (leb least_byte) (front f) ≡ b → b ≡ false
      go false e = refl
      go true e =
          let inside : header_length < length (front f) = omega (arith, length-take telling f, first_known.1) in
          let passes : leb least_byte (get_or (front f) header_length 0) ≡ true = each_passes (leb least_byte) (front f) 0 e header_length inside in
          absurd (omega (arith, leb-true least_byte (get_or (front f) header_length 0) passes, get_or-take telling f header_length 0 (omega arith), first_known.0))

-- Blanks, letters and digits are not below them
abbrev plain : List ℕ → Bool
plain l = all (leb least_byte) l

module _ {P : Type 0} where
  either : (a b : Bool) → (a || b) ≡ true → (a ≡ true → P) → (b ≡ true → P) → P
  either true b h f g = f refl
  either false b h f g = g h

  -- a choice that is known is one of two that is
  known_cases : (x : Bool) (a z : Token) → (x ≡ true → is_known a ≡ true → P) → (is_known z ≡ true → P) → is_known (cond x a z) ≡ true → P
  known_cases true a z f g h = f refl h
  known_cases false a z f g h = g h

at_least : (k b : ℕ) → least_byte ≤ k → leb k b ≡ true → leb least_byte b ≡ true
at_least k b l h = le-leb least_byte b (omega (arith, leb-true k b h))

is_byte : (k b : ℕ) → least_byte ≤ k → eqb b k ≡ true → leb least_byte b ≡ true
is_byte k b l h = le-leb least_byte b (omega (arith, eqb-true b k h))

blank_plain : (gap : List ℕ) → all is_blank gap ≡ true → plain gap ≡ true
unfolding is_blank
blank_plain [] h = refl
blank_plain (b ∷ gap) h =
    let first : leb least_byte b ≡ true = either (eqb b (code " ")) (eqb b (code "\n")) (and_left (is_blank b) (all is_blank gap) h) (is_byte (code " ") b (omega arith)) (is_byte (code "\n") b (omega arith)) in
    rw first (blank_plain gap (and_right (is_blank b) (all is_blank gap) h))

digits_plain : (run : List ℕ) → all is_digit run ≡ true → plain run ≡ true
unfolding is_digit
digits_plain [] h = refl
digits_plain (b ∷ run) h =
    let first : leb least_byte b ≡ true = at_least (code "0") b (omega arith) (and_left (leb (code "0") b) (leb b (code "9")) (and_left (is_digit b) (all is_digit run) h)) in
    rw first (digits_plain run (and_right (is_digit b) (all is_digit run) h))

number_plain : (run : List ℕ) → is_number run ≡ true → plain run ≡ true
unfolding is_number
number_plain run h = digits_plain run (and_left (all is_digit run) _ (and_right (nonempty run) _ h))

named_plain : (run : List ℕ) → is_known (named_token run) ≡ true → plain run ≡ true
unfolding named_token is_known
named_plain [] h = impossible h
named_plain (b ∷ run) h =
    known_cases (eqb b (code "v")) _ _ (λ e. name (code "v") variable (omega arith) e)
    (known_cases (eqb b (code "c")) _ _ (λ e. name (code "c") clock (omega arith) e) (λ w. impossible w)) h
  where
    name : (k : ℕ) (f : ℕ → Token) → least_byte ≤ k → eqb b k ≡ true → is_known (numbered f run unknown) ≡ true → plain (b ∷ run) ≡ true
    name k f l e u = known_cases (is_number run) _ _ (λ i _. rw (is_byte k b l e) (number_plain run i)) (λ v. impossible v) u

mark_plain : (m : Mark) → plain (spelling m) ≡ true
unfolding spelling
mark_plain start_word = refl
mark_plain wait_word = refl
mark_plain maintain_word = refl
mark_plain repeat_word = refl
mark_plain if_word = refl
mark_plain then_word = refl
mark_plain else_word = refl
mark_plain equal_sign = refl
mark_plain differs_sign = refl
mark_plain at_least_sign = refl
mark_plain below_sign = refl
mark_plain semicolon = refl
mark_plain comma = refl
mark_plain opening = refl
mark_plain closing = refl
mark_plain colon = refl

among_plain : (ms : List Mark) (run : List ℕ) → is_known (token_among ms run) ≡ true → plain run ≡ true
unfolding token_among
among_plain [] run h = known_cases (is_number run) _ _ (λ i _. number_plain run i) (named_plain run) h
among_plain (m ∷ ms) run h = known_cases (same run (spelling m)) _ _ (λ e _. rw (same_eq run (spelling m) e) (mark_plain m)) (among_plain ms run) h

plain_append : (xs ys : List ℕ) → plain xs ≡ true → plain ys ≡ true → plain (xs ++ ys) ≡ true
plain_append xs ys a b = rw (all_append (leb least_byte) xs ys, a) b

spelled_plain : {follows : Bool} {t : List ℕ} {ts : List Token} → Spelled follows t ts → plain t ≡ true
unfolding token_of
spelled_plain (ends {gap = gap} blank) = blank_plain gap blank
spelled_plain (token gap run {rest = rest} blank apart is_Known later) =
    plain_append gap (run ++ rest) (blank_plain gap blank) (plain_append run rest (among_plain marks run is_Known) (spelled_plain later))

-- and a text that has a token has a byte
some_byte : (run : List ℕ) → is_known (token_of run) ≡ true → (rest : List ℕ) → nonempty (run ++ rest) ≡ true
unfolding token_of token_among spelling named_token is_number is_known
some_byte [] h rest = impossible h
some_byte (b ∷ run) h rest = refl

after_gap : (gap l : List ℕ) → nonempty l ≡ true → nonempty (gap ++ l) ≡ true
after_gap [] l h = h
after_gap (b ∷ gap) l h = refl

spelled_some : {follows : Bool} {t : List ℕ} {ts : List Token} → Spelled follows t ts → nonempty ts ≡ true → nonempty t ≡ true
spelled_some (ends blank) h = impossible h
spelled_some (token gap run {rest = rest} blank apart is_Known later) h = after_gap gap (run ++ rest) (some_byte run is_Known rest)

pub fitting_is_text : (t : List ℕ) (x : Text) → Fits t x → is_text t ≡ true
unfolding is_text write_text
fitting_is_text t x fits =
    let whole : plain (front t ++ drop telling t) ≡ true = rw (take-append-drop telling t) (spelled_plain fits.spelled) in
    let first : plain (front t) ≡ true = and_left (plain (front t)) (plain (drop telling t)) (rw (all_append (leb least_byte) (front t) (drop telling t)) at whole) in
    rw (spelled_some fits.spelled refl) first
