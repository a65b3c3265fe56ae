-- Laws of numbers read digit by digit.
use Prim.Native.Nat.{ℕ, suc, ◌+◌, ◌≤◌, ◌<◌}
use native.Mathlib.Numerals.{add-one}
use native.Mathlib.Omega.{arith}
use mathlib.Core.Path.{◌≡◌, refl}
use mathlib.Core.List.{List, [], ◌∷◌}
use lib.ListN.{length, get_or, drop, drop_of_length-le}
use lib.Seq.{drop-cons}
use Rattle.std.proofs.Common.{Option, Some, None}
use Rattle.desk_parse.specs.Words.{next_value, goes_on, decimal_from, numeral_of}

pub value_starts : (w : List ℕ) → (length w ≡ 0 → ⊥) → decimal_from 0 w ≡ numeral_of w
unfolding numeral_of
value_starts [] h = absurd (h refl)
value_starts (d ∷ w) h = refl

pub value_missing : (w : List ℕ) → length w ≡ 0 → None ≡ numeral_of w
unfolding numeral_of
value_missing [] h = refl
value_missing (d ∷ w) h = absurd (omega arith)

module _ (w : List ℕ) (i x : ℕ) (z n : Option ℕ) (n-is : n ≡ next_value x (get_or w i 0)) (inv : decimal_from x (drop i w) ≡ z) where
  turned : i < length w → goes_on (λ y. decimal_from y (drop (suc i) w)) n ≡ z
  unfolding decimal_from
  turned h = rw n-is (rw (drop-cons w i 0 h) at inv)

  pub value_next : (y : ℕ) → i < length w → n ≡ Some y → decimal_from y (drop (i + 1) w) ≡ z
  value_next y h e = rw (add-one i) (rw e at (turned h))

  pub value_stops : i < length w → n ≡ None → None ≡ z
  value_stops h e = rw e at (turned h)

pub value_ends : (w : List ℕ) (i x : ℕ) (z : Option ℕ) → decimal_from x (drop i w) ≡ z → length w ≤ i → Some x ≡ z
unfolding decimal_from
value_ends w i x z inv h = rw (drop_of_length-le w h) at inv
