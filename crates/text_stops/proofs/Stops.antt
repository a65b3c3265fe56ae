-- The place where a text stops fitting: inside the text, and what it means.
use Prim.Native.Nat.{ℕ, ◌≤◌, ◌<◌}
use mathlib.Core.Path.{◌≡◌, refl, ap, sym, subst, ◌∙◌}
use mathlib.Core.List.{List, [], ◌∷◌, ◌++◌, append_assoc}
use mathlib.Core.Option.{none}
use lib.ListN.{length, take, drop, length-append}
use lib.Seq.{take_at, drop_at}
use native.Mathlib.Omega.{arith}
use native.Mathlib.Decide.{dec_le}
use borrow.Author.Tests.{le-leb, lt-leb}
use Rattle.text_grammar.specs.declared.tokens.Token.{Token}
use Rattle.text_grammar.specs.Syntax.{Text}
use Rattle.text_grammar.specs.Texts.{max_text_length}
use Rattle.text_grammar.specs.Lexer.{tokens, tokens_from}
use Rattle.text_grammar.specs.Parser.{Parsed, got, stopped, parse_text, whole, reading}
use Rattle.text_stops.specs.Places.{place_of_last, stop_of, stop_place}
use Rattle.text_stops.specs.Stopping.{first_token, StopsFitting}
use Rattle.text_stops.proofs.Places.{place_parted, Reached, last_reached}
use Rattle.text_stops.proofs.Stopping.{text_stops}

-- lists that are cut so that as much is left are cut alike
same_cut : {A : Type 0} (xs ys us vs : List A) → xs ++ ys ≡ us ++ vs → length ys ≡ length vs → (xs ≡ us) × (ys ≡ vs)
same_cut xs ys us vs e n =
    let long : length xs ≡ length us = omega (arith, ap length e, length-append xs ys, length-append us vs) in (
      sym (take_at xs ys (length us) long) ∙ ap (take (length us)) e ∙ take_at us vs (length us) refl,
      sym (drop_at xs ys (length us) long) ∙ ap (drop (length us)) e ∙ drop_at us vs (length us) refl,
    )

-- by the length of the text
pub stop_too_long : (t : List ℕ) → max_text_length < length t → max_text_length ≡ stop_place t
unfolding stop_place
stop_too_long t h = rw (lt-leb (length t) max_text_length h)

module _ (t : List ℕ) (short : length t ≤ max_text_length) where
  stop_by : (o : Parsed Text) → parse_text (tokens t) ≡ o → stop_of t o ≡ stop_place t
  unfolding stop_place
  stop_by o e = rw (le-leb (length t) max_text_length short, e)

  pub stop_accepted : (x : Text) (rest : List Token) → parse_text (tokens t) ≡ got x rest → length t ≡ stop_place t
  unfolding stop_of
  stop_accepted x rest e = stop_by (got x rest) e

  module _ (rest : List Token) (e : parse_text (tokens t) ≡ stopped rest) where
    pub stop_at_last : place_of_last t (length rest) ≡ stop_place t
    unfolding stop_of
    stop_at_last = stop_by (stopped rest) e

    stop_reached : Reached t (length rest) (stop_place t)
    stop_reached =
        let s = text_stops (tokens t) rest e in
        subst (Reached t (length rest)) stop_at_last (last_reached t (length rest) (omega (arith, ap length s.all_are, length-append s.before rest)))

    stop_fitting : StopsFitting t (stop_place t)
    stop_fitting =
        let s = text_stops (tokens t) rest e in
        let r = stop_reached in
        let cut = same_cut (tokens (take (stop_place t) t)) (tokens_from t (stop_place t)) s.before rest (sym r.no_token_cut ∙ s.all_are) r.tokens_left in
        record { inside = r.inside; no_blank = r.no_blank; no_token_cut = r.no_token_cut; stops = rw (cut.0, cut.1) s.stops }

-- the place is inside the text
pub stop_inside : (t : List ℕ) → stop_place t ≤ length t
stop_inside t = go (dec_le (length t) max_text_length)
  where
    by : length t ≤ max_text_length → (o : Parsed Text) → parse_text (tokens t) ≡ o → stop_place t ≤ length t
    by h (got x rest) e = omega (arith, stop_accepted t h x rest e)
    by h (stopped rest) e = (stop_reached t h rest e).inside

    go : Dec (length t ≤ max_text_length) → stop_place t ≤ length t
    go (yes h) = by h (parse_text (tokens t)) refl
    go (no h) = omega (arith, h, stop_too_long t (omega (arith, h)))

-- "the line and column at which the text stops fitting": all before it may begin a text, and no text goes on with the token that stands there
pub stop_exact : (t : List ℕ) → length t ≤ max_text_length → reading t ≡ none → StopsFitting t (stop_place t)
unfolding reading whole
stop_exact t h unread = by (parse_text (tokens t)) refl (rw (le-leb (length t) max_text_length h) at unread)
  where
    by : (o : Parsed Text) → parse_text (tokens t) ≡ o → whole o ≡ none → StopsFitting t (stop_place t)
    by (got x rest) e w = absurd (let z : ◌≡◌ {A = ℕ} 0 1 = cc in omega arith)
    by (stopped rest) e w = stop_fitting t h rest e

-- a list that is cut twice: what stands before the later cut goes on with what stands after the earlier one
record Longer {A : Type 0} (xs ys us vs : List A) : Type 0 where
  first : A
  more : List A
  front_is : us ≡ xs ++ (first ∷ more)
  back_is : ys ≡ first ∷ (more ++ vs)

module _ {A : Type 0} where
  longer_by_one : (x u : A) (xs ys us vs : List A) → x ≡ u → Longer xs ys us vs → Longer (x ∷ xs) ys (u ∷ us) vs
  longer_by_one x u xs ys us vs e l =
      record { first = l.first; more = l.more; front_is = ap (λ (y : A). y ∷ us) (sym e) ∙ ap (λ (zs : List A). x ∷ zs) l.front_is; back_is = l.back_is }

  longer : (xs ys us vs : List A) → xs ++ ys ≡ us ++ vs → length vs < length ys → Longer xs ys us vs
  longer [] ys [] vs e h = absurd (omega (arith, ap length e))
  longer [] ys (u ∷ us) vs e h = record { first = u; more = us; front_is = refl; back_is = e }
  longer (x ∷ xs) ys [] vs e h = absurd (omega (arith, ap length e, length-append xs ys))
  longer (x ∷ xs) ys (u ∷ us) vs e h = longer_by_one x u xs ys us vs (cc) (longer xs ys us vs (cc) h)

-- A text stops fitting in one place alone: one that is said to stop later has a text that goes on there
not_later : (t : List ℕ) (d e : ℕ) → StopsFitting t d → StopsFitting t e → length (tokens_from t e) < length (tokens_from t d) → ⊥
unfolding first_token
not_later t d e p q h =
    let l = longer (tokens (take d t)) (tokens_from t d) (tokens (take e t)) (tokens_from t e) (sym p.no_token_cut ∙ q.no_token_cut) h in
    p.stops.none_goes_on q.stops.text (l.first ∷ (l.more ++ q.stops.more)) (ap first_token (sym l.back_is))
    (q.stops.begins_text ∙ ap (λ (ts : List Token). ts ++ q.stops.more) l.front_is ∙ append_assoc (tokens (take d t)) (l.first ∷ l.more) q.stops.more)

pub one_place : (t : List ℕ) (d e : ℕ) → StopsFitting t d → StopsFitting t e → d ≡ e
one_place t d e p q =
    let m = length (tokens_from t d) in
    let n = length (tokens_from t e) in
    let same : m ≡ n = omega (arith, least (dec_le m n) (not_later t d e p q), least (dec_le n m) (not_later t e d q p)) in
    place_parted t d p.inside p.no_blank p.no_token_cut ∙ ap (place_of_last t) same ∙ sym (place_parted t e q.inside q.no_blank q.no_token_cut)
  where
    least : {a b : ℕ} → Dec (a ≤ b) → (b < a → ⊥) → a ≤ b
    least (yes h) no_less = h
    least (no h) no_less = absurd (no_less (omega (arith, h)))
