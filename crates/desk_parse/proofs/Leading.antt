-- Laws of what a text begins with, and of the first place at which a byte stands, as an iterator finds them.
use Prim.Native.Nat.{ℕ, zero, suc, ◌+◌, ◌-◌, ◌≤◌, ◌<◌}
use native.Mathlib.Nat.{add-zero}
use native.Mathlib.Omega.{arith}
use mathlib.Core.Path.{◌≡◌, refl, sym, ◌∙◌}
use mathlib.Core.Bool.{Bool, true, false, cond, not}
use mathlib.Core.List.{List, [], ◌∷◌}
use lib.Dec.{leb, ltb}
use lib.ListN.{length, get_or, take, drop}
use borrow.Author.Tests.{eq-eqb, ne_eqb, le-leb, leb-true, ltb-false}
use Rattle.std.proofs.Common.{Option, Some, None}
use Rattle.std.specs.List.{prefix_len, position_or_len}
use Rattle.std.specs.Option.{MatchOption, unwrap_or}
use Rattle.base.specs.Lists.{bytes_at}
use Rattle.base.proofs.Stores.{take_rest, length_bytes}
use Rattle.desk_parse.specs.Words.{is_space, is_other, leading, trimmed, word_of, rest_of}
use Rattle.desk_parse.specs.Places.{place_of}

-- no more elements than there are
pub leading_few : (t : ℕ → Bool) (l : List ℕ) → leading t l ≤ length l
unfolding leading
leading_few t [] = omega arith
leading_few t (x ∷ xs) = go (t x) (leading_few t xs)
  where
    go : (b : Bool) → leading t xs ≤ length xs → cond b (suc (leading t xs)) 0 ≤ suc (length xs)
    go true h = omega arith
    go false h = omega arith

-- each of them passes the test, and the next element, where there is one, does not
pub leading_passes : (t : ℕ → Bool) (l : List ℕ) (j : ℕ) → j < leading t l → t (get_or l j 0) ≡ true
unfolding leading
leading_passes t [] j h = absurd (omega arith)
leading_passes t (x ∷ xs) j h = go (t x) refl (leading_passes t xs) j h
  where
    go : (b : Bool) → t x ≡ b → ((j : ℕ) → j < leading t xs → t (get_or xs j 0) ≡ true) → (j : ℕ) → j < cond b (suc (leading t xs)) 0 → t (get_or (x ∷ xs) j 0) ≡ true
    go true e rest zero h = e
    go true e rest (suc j) h = rest j (omega arith)
    go false e rest j h = absurd (omega arith)

pub leading_stops : (t : ℕ → Bool) (l : List ℕ) → leading t l < length l → t (get_or l (leading t l) 0) ≡ false
unfolding leading
leading_stops t [] h = absurd (omega arith)
leading_stops t (x ∷ xs) h = go (t x) refl (leading_stops t xs) h
  where
    go : (b : Bool) → t x ≡ b → (leading t xs < length xs → t (get_or xs (leading t xs) 0) ≡ false) → cond b (suc (leading t xs)) 0 < suc (length xs) → t (get_or (x ∷ xs) (cond b (suc (leading t xs)) 0) 0) ≡ false
    go true e rest h = rest (omega arith)
    go false e rest h = e

pub leading_within : (t : ℕ → Bool) (l : List ℕ) (n : ℕ) → n ≡ leading t l → n ≤ length l
leading_within t l n e = rw e (leading_few t l)

-- the first place at which the test fails, as an iterator finds it, or the length
module _ (t f : ℕ → Bool) (f-is : (x : ℕ) → f x ≡ not (t x)) where
  leading_counted : (l : List ℕ) → prefix_len (λ x. not (f x)) l ≡ leading t l
  unfolding leading
  leading_counted [] = refl
  leading_counted (x ∷ xs) = rw (f-is x, leading_counted xs) (one (t x) (leading t xs))
    where
      one : (b : Bool) (n : ℕ) → cond (not (not b)) (1 + n) 0 ≡ cond b (suc n) 0
      one true n = omega arith
      one false n = refl

  pub leading_found : (l : List ℕ) (r : Option ℕ) → r ≡ cond (ltb (position_or_len f l) (length l)) (Some (position_or_len f l)) None → unwrap_or r (length l) ≡ leading t l
  leading_found l r e = rw (e, leading_counted l) (go (ltb (leading t l) (length l)) refl)
    where
      go : (b : Bool) → ltb (leading t l) (length l) ≡ b → unwrap_or (cond b (Some (leading t l)) None) (length l) ≡ leading t l
      go true h = refl
      go false h = omega (arith, ltb-false _ _ h, leading_few t l)

-- A text after its leading spaces, its first word and what stands after it
module _ (l : List ℕ) (n : ℕ) where
  pub after_spaces : n ≡ leading is_space l → take (length l - n) (drop n l) ≡ trimmed l
  unfolding trimmed
  after_spaces e = take_rest l n ∙ rw e

  module _ (e : n ≡ leading (is_other 32) l) where
    pub first_word : take n l ≡ word_of l
    unfolding word_of
    first_word = rw e

    pub after_word : drop n l ≡ rest_of l
    unfolding rest_of
    after_word = rw e

-- The first byte b, and no such byte
module _ (b : ℕ) (s : List ℕ) (to : ℕ) where
  counted_to : (n from i : ℕ) → from + n ≡ i → i < to → get_or s i 0 ≡ b → ((k : ℕ) → from ≤ k → k < i → get_or s k 0 ≡ b → ⊥) → leading (is_other b) (bytes_at s from (to - from)) ≡ n
  unfolding leading
  counted_to zero from i e h here before =
      let k : to - from ≡ suc (to - suc from) = omega arith in
      let d : get_or s from 0 ≡ b = rw (sym e ∙ add-zero from) at here in
      rw (k, eq-eqb (get_or s from 0) b d)
  counted_to (suc n) from i e h here before =
      let k : to - from ≡ suc (to - suc from) = omega arith in
      rw (k, ne_eqb (get_or s from 0) b (before from (omega arith) (omega arith)), counted_to n (suc from) i (omega arith) h here (λ j l m. before j (omega arith) m))

  counted_all : (n from : ℕ) → from + n ≡ to → ((k : ℕ) → from ≤ k → k < to → get_or s k 0 ≡ b → ⊥) → leading (is_other b) (bytes_at s from n) ≡ n
  unfolding leading
  counted_all zero from e none = refl
  counted_all (suc n) from e none =
      rw (ne_eqb (get_or s from 0) b (none from (omega arith) (omega arith)), counted_all n (suc from) (omega arith) (λ j l m. none j (omega arith) m))

  pub place_found : (from : ℕ) (r : Option ℕ) → MatchOption r ((k : ℕ) → from ≤ k → k < to → get_or s k 0 ≡ b → ⊥) (λ i. (from ≤ i) × (i < to) × (get_or s i 0 ≡ b) × ((k : ℕ) → from ≤ k → k < i → get_or s k 0 ≡ b → ⊥)) → unwrap_or r to ≡ place_of b s from to
  unfolding place_of
  place_found from (Some i) (low, high, here, before) =
      let l : from ≤ to = omega arith in
      rw (le-leb from to l, counted_to (i - from) from i (omega arith) high here before) (omega arith)
  place_found from None none = go (leb from to) refl
    where
      go : (c : Bool) → leb from to ≡ c → to ≡ cond c (from + leading (is_other b) (bytes_at s from (to - from))) to
      go true e =
          let l = leb-true from to e in
          rw (counted_all (to - from) from (omega arith) none) (omega arith)
      go false e = refl

-- it is no place before `from` and none after `to`
pub place_within : (b : ℕ) (s : List ℕ) (from to : ℕ) → from ≤ to → (from ≤ place_of b s from to) × (place_of b s from to ≤ to)
unfolding place_of
place_within b s from to h =
    let k = leading_few (is_other b) (bytes_at s from (to - from)) in
    rw (le-leb from to h) (omega arith, omega (arith, k, length_bytes s from (to - from)))
