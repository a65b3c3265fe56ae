-- Laws of a line by its words, for what the code finds.
use Prim.Native.Nat.{ℕ}
use native.Mathlib.Omega.{arith}
use mathlib.Core.Path.{◌≡◌, refl}
use mathlib.Core.Bool.{true, false}
use mathlib.Core.List.{List, [], ◌∷◌}
use lib.ListN.{length}
use borrow.Author.Tests.{eqb-true}
use Rattle.base.specs.Lists.{nonempty, same}
use Rattle.base.proofs.Lists.{same_eq}
use Rattle.desk_calls.specs.Lines.{begin_word, offer_word, settle_word, passed_over}

-- texts with nothing in them, and with something
pub none_left : (l : List ℕ) → length l ≡ 0 → nonempty l ≡ false
none_left [] h = refl
none_left (x ∷ l) h = absurd (omega arith)

pub some_left : (l : List ℕ) → (length l ≡ 0 → ⊥) → nonempty l ≡ true
some_left [] h = absurd (h refl)
some_left (x ∷ l) h = refl

-- A line that is passed over has none of the three words, and an offer's word is neither of the others
pub passed_words : (w : List ℕ) → passed_over w ≡ true → (same w begin_word ≡ false) × (same w settle_word ≡ false)
passed_words [] h = (refl, refl)
passed_words (x ∷ w) h = let e : x ≡ 35 = eqb-true x 35 h in (rw e, rw e)

pub offer_apart : (w : List ℕ) → same w offer_word ≡ true → (same w begin_word ≡ false) × (same w settle_word ≡ false)
offer_apart w h = let e : w ≡ offer_word = same_eq w offer_word h in (rw e, rw e)
