-- What the first token says of the tokens, and of how they are read.
use Prim.Native.Nat.{ℕ}
use mathlib.Core.Path.{◌≡◌, refl, ap, sym, ◌∙◌}
use mathlib.Core.Bool.{false}
use mathlib.Core.List.{List, [], ◌∷◌}
use Rattle.std.specs.Prelude.{Some}
use Rattle.text_grammar.specs.declared.tokens.Mark.{Mark}
use Rattle.text_grammar.specs.declared.tokens.Token.{Token}
use Rattle.text_grammar.specs.declared.tokens.Token.TheVariants.{Mark as mark, Number as number, Variable as variable, Clock as clock, Unknown as unknown}
use Rattle.text_grammar.specs.Tokens.{mark-discrete}
use Rattle.text_grammar.specs.Parser.{stopped, when, on_mark, parse_number, parse_clock, parse_condition, parse_step}
use Rattle.text_grammar.proofs.Complete.{on_mark_lem}
use Rattle.text_grammar.proofs.Parsing.{begins_step, end_law, other_law}
use Rattle.text_tokens.specs.First.{first_token, later_tokens}
use Rattle.text_read.specs.Reading.{next_token}

-- the first token and those after it
pub first_is : (ts : List Token) (k : Token) → first_token ts ≡ Some k → ts ≡ k ∷ later_tokens ts
unfolding first_token later_tokens
first_is [] k h = cc
first_is (t ∷ ts) k h = cc

-- a token that is read by its kind is there
pub next_is : (ts : List Token) (k : Token) → k ≡ next_token ts → (k ≡ unknown → ⊥) → ts ≡ k ∷ later_tokens ts
unfolding next_token first_token later_tokens
next_is [] k h u = absurd (u h)
next_is (t ∷ ts) k h u = rw h

some_mark : (m : Mark) → mark m ≡ unknown → ⊥
some_mark m e = cc

module _ (ts : List Token) (k : Token) (k-is : k ≡ next_token ts) where
  pub first_mark : (m : Mark) → k ≡ mark m → ts ≡ mark m ∷ later_tokens ts
  first_mark m h = next_is ts (mark m) (sym h ∙ k-is) (λ e. some_mark m e)

  pub first_number : (n : ℕ) → k ≡ number n → ts ≡ number n ∷ later_tokens ts
  first_number n h = next_is ts (number n) (sym h ∙ k-is) (λ e. cc)

  pub first_variable : (n : ℕ) → k ≡ variable n → ts ≡ variable n ∷ later_tokens ts
  first_variable n h = next_is ts (variable n) (sym h ∙ k-is) (λ e. cc)

  pub first_clock : (n : ℕ) → k ≡ clock n → ts ≡ clock n ∷ later_tokens ts
  first_clock n h = next_is ts (clock n) (sym h ∙ k-is) (λ e. cc)

  -- what stops: no number, no clock, no condition, no step
  pub no_number_lem : ((n : ℕ) → k ≡ number n → ⊥) → parse_number ts ≡ stopped ts
  unfolding parse_number next_token first_token
  no_number_lem g = go ts k-is
    where
      go : (l : List Token) → k ≡ next_token l → parse_number l ≡ stopped l
      go [] h = refl
      go (mark m ∷ l) h = refl
      go (number n ∷ l) h = absurd (g n h)
      go (variable n ∷ l) h = refl
      go (clock n ∷ l) h = refl
      go (unknown ∷ l) h = refl

  pub no_clock : ((n : ℕ) → k ≡ clock n → ⊥) → parse_clock ts ≡ stopped ts
  unfolding parse_clock next_token first_token
  no_clock g = go ts k-is
    where
      go : (l : List Token) → k ≡ next_token l → parse_clock l ≡ stopped l
      go [] h = refl
      go (mark m ∷ l) h = refl
      go (number n ∷ l) h = refl
      go (variable n ∷ l) h = refl
      go (clock n ∷ l) h = absurd (g n h)
      go (unknown ∷ l) h = refl

  pub no_condition : ((n : ℕ) → k ≡ variable n → ⊥) → ((n : ℕ) → k ≡ clock n → ⊥) → parse_condition ts ≡ stopped ts
  unfolding parse_condition next_token first_token
  no_condition f g = go ts k-is
    where
      go : (l : List Token) → k ≡ next_token l → parse_condition l ≡ stopped l
      go [] h = refl
      go (mark m ∷ l) h = refl
      go (number n ∷ l) h = refl
      go (variable n ∷ l) h = absurd (f n h)
      go (clock n ∷ l) h = absurd (g n h)
      go (unknown ∷ l) h = refl

  pub no_step : begins_step k ≡ false → parse_step ts ≡ stopped ts
  unfolding next_token first_token
  no_step e = go ts k-is
    where
      go : (l : List Token) → k ≡ next_token l → parse_step l ≡ stopped l
      go [] h = end_law
      go (t ∷ l) h = other_law t l (ap begins_step (sym h) ∙ e)

-- a mark that stands first, and one that does not
pub mark_first : {A : Type 0} (m : Mark) (ts : List Token) (f : List Token → A) (other : A) → first_token ts ≡ Some (mark m) → on_mark m ts f other ≡ f (later_tokens ts)
mark_first m ts f other h = ap (λ (us : List Token). on_mark m us f other) (first_is ts (mark m) h) ∙ on_mark_lem m (later_tokens ts) f other

pub mark_elsewhere : {A : Type 0} (m : Mark) (ts : List Token) (f : List Token → A) (other : A) → (first_token ts ≡ Some (mark m) → ⊥) → on_mark m ts f other ≡ other
unfolding on_mark first_token
mark_elsewhere m [] f other h = refl
mark_elsewhere m (mark k ∷ ts) f other h = go (mark-discrete k m)
  where
    go : (d : Dec (k ≡ m)) → when d (f ts) other ≡ other
    go (yes e) = absurd (h (ap (λ (i : Mark). Some (mark i)) e))
    go (no e) = refl
mark_elsewhere m (number n ∷ ts) f other h = refl
mark_elsewhere m (variable n ∷ ts) f other h = refl
mark_elsewhere m (clock n ∷ ts) f other h = refl
mark_elsewhere m (unknown ∷ ts) f other h = refl

-- where a mark stands first, there is a token
pub mark_there : (m : Mark) (ts : List Token) → first_token ts ≡ Some (mark m) → ts ≡ [] → ⊥
unfolding first_token
mark_there m [] h e = cc
mark_there m (t ∷ ts) h e = cc

-- and where a token is read by its kind
pub token_there : (k : Token) (ts : List Token) → k ≡ next_token ts → (k ≡ unknown → ⊥) → ts ≡ [] → ⊥
unfolding next_token first_token
token_there k [] h u e = u h
token_there k (t ∷ ts) h u e = cc
