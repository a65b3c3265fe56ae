-- Laws of the two forms of a program: the bytes that tell.
use Prim.Native.Nat.{ℕ, min, ◌≤◌}
use native.Mathlib.Decide.{dec_le}
use native.Mathlib.Omega.{arith}
use mathlib.Core.Path.{◌≡◌, refl, sym, ap, ◌∙◌}
use mathlib.Core.Bool.{Bool, true, false, not, and-false, ◌&&◌}
use mathlib.Core.List.{List, [], ◌∷◌}
use lib.Dec.{eqb, leb}
use lib.ListN.{length, take, length-take}
use lib.Seq.{take_all}
use borrow.Author.Tests.{eqb-true, eqb-false}
use Rattle.base.specs.Lists.{all, nonempty}
use Rattle.desk_texts.specs.Forms.{least_byte, telling, is_text}

-- the bytes that tell: as many as there are, at most so many
abbrev pub front : List ℕ → List ℕ
front input = take telling input

pub front_taken : (input : List ℕ) (n : ℕ) → n ≡ min (length input) telling → take n input ≡ front input
front_taken input n e = go (dec_le (length input) telling)
  where
    go : Dec (length input ≤ telling) → take n input ≡ front input
    go (yes h) = take_all n input (omega arith) ∙ sym (take_all telling input h)
    go (no h) = let four : n ≡ telling = omega arith in rw four

-- A byte that does not pass, and none
pub no_text : (input : List ℕ) → all (leb least_byte) (front input) ≡ false → false ≡ is_text input
unfolding is_text
no_text input h = rw (h, and-false (nonempty input))

-- The test of the bytes that tell, at the front that was taken
module _ (input : List ℕ) (n : ℕ) (n-is : n ≡ min (length input) telling) (empty : Bool) (empty_is : empty ≡ eqb (length (take n input)) 0) where
  pub some_text : (b : Bool) → empty ≡ false → b ≡ all (leb least_byte) (take n input) → b ≡ is_text input
  unfolding is_text
  some_text b some e = told input (λ none. eqb-false (length (take n input)) 0 (sym empty_is ∙ some) (omega (arith, length-take n input, none))) (e ∙ ap (all (leb least_byte)) (front_taken input n n-is))
    where
      told : (l : List ℕ) → (length l ≡ 0 → ⊥) → b ≡ all (leb least_byte) (front l) → b ≡ is_text l
      told [] some e = absurd (some refl)
      told (x ∷ xs) some e = e

  pub none_text : empty ≡ true → not empty ≡ is_text input
  unfolding is_text
  none_text none = rw none (told input (let short : length (take n input) ≡ 0 = eqb-true (length (take n input)) 0 (sym empty_is ∙ none) in omega (arith, length-take n input, short, n-is)))
    where
      told : (l : List ℕ) → length l ≡ 0 → false ≡ is_text l
      told [] none = refl
      told (x ∷ xs) none = absurd (omega (arith, none))
