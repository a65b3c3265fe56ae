-- Laws of bytes in hexadecimal: that the digits are the byte's, and what writes them.
use Prim.Native.Nat.{ℕ, zero, suc, ◌+◌, ◌-◌, ◌*◌, ◌/◌, ◌%◌, ◌^◌, ◌<◌}
use native.Mathlib.Numerals.{add-one}
use native.Mathlib.Omega.{arith}
use mathlib.Core.Path.{◌≡◌, refl}
use mathlib.Core.Bool.{Bool, true, false, cond}
use mathlib.Core.List.{List}
use lib.Dec.{ltb, leb}
use lib.ListN.{length, get_or, set}
use borrow.Author.Tests.{ltb-true, ltb-false, le-leb, lt-leb}
use Rattle.base.specs.Lists.{bytes_at}
use Rattle.base.proofs.Lists.{length_pieces}
use Rattle.desk_format.specs.Writing.{Written, texts_from}
use Rattle.desk_format.specs.Hexadecimal.{hex_glyph, spaced, pairs}
use Rattle.desk_format.proofs.Texts.{Writing, texts_room, texts_step}

-- the number that a digit stands for, and the byte that two stand for
abbrev pub hex_value : ℕ → ℕ
hex_value g = cond (leb g 57) (g - 48) (g - 55)

digit_reads : (d : ℕ) → d < 16 → hex_value (hex_glyph d) ≡ d
digit_reads d h = go (ltb d 10) refl
  where
    go : (b : Bool) → ltb d 10 ≡ b → hex_value (cond b (48 + d) (65 + d - 10)) ≡ d
    go true e = rw (le-leb (48 + d) 57 (omega (arith, ltb-true d 10 e))) (omega arith)
    go false e = rw (lt-leb (65 + d - 10) 57 (omega (arith, ltb-false d 10 e))) (omega arith)

pub pair_reads : (b : ℕ) → b < 256 → 16 * hex_value (hex_glyph (b / 16)) + hex_value (hex_glyph (b % 16)) ≡ b
pair_reads b h = rw (digit_reads (b / 16) (omega arith), digit_reads (b % 16) (omega arith)) (omega arith)

-- The space and the two digits of a byte
pub pair_written : (l m n o : List ℕ) (b h d i : ℕ) → m ≡ set l i 32 → h ≡ hex_glyph (b / 16) → n ≡ set m (i + 1) h → d ≡ hex_glyph (b % 16) → o ≡ set n (i + 2) d → Written (spaced b) l i o (i + 3)
pair_written l m n o b h d i m-is h-is n-is d-is o_is = let two : i + 2 ≡ suc (suc i) = omega arith in record { bytes = rw (o_is, n-is, m-is, h-is, d-is, add-one i, two); after = refl }

-- Bytes from a place on, one by one
abbrev pub pair_at : List ℕ → ℕ → List ℕ
pair_at s k = spaced (get_or s k 0)

pub pairs_are : (s : List ℕ) (k n : ℕ) → pairs (bytes_at s k n) ≡ texts_from (pair_at s) k n
unfolding pairs texts_from
pairs_are s k zero = refl
pairs_are s k (suc n) = rw (← pairs_are s (suc k) n)

pub length_pairs : (bs : List ℕ) → length (pairs bs) ≡ 3 * length bs
unfolding pairs
length_pairs bs = length_pieces spaced 3 (λ b. refl) bs

pub pairs_first : (s l : List ℕ) (k n e i : ℕ) → e ≡ k + n → Writing (pairs (bytes_at s k n)) l i (texts_from (pair_at s) k (e - k)) l i
pairs_first s l k n e i h = let q : e - k ≡ n = omega arith in rw (q, ← (pairs_are s k n)) (record { completes = refl; ends = refl })

module _ (s text l m : List ℕ) (i j k e : ℕ) (h : k < e) (w : Writing text l i (texts_from (pair_at s) k (e - k)) m j) where
  pub pairs_room : i + length text < 2 ^ 64 → j + 3 < 2 ^ 64
  pairs_room r = texts_room (pair_at s) text l m i j k e h w r

  pub pairs_step : (o : List ℕ) (b r : ℕ) → b ≡ get_or s k 0 → Written (spaced b) m j o r → Writing text l i (texts_from (pair_at s) (k + 1) (e - (k + 1))) o r
  pairs_step o b r b-is x = texts_step (pair_at s) text l m i j k e o r h w (rw b-is at x)
