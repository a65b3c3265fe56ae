-- Laws of pairs read one after the other.
use Prim.Native.Nat.{ℕ, ◌+◌, ◌-◌, ◌≤◌, ◌<◌}
use native.Mathlib.Nat.{add-zero, zero-add}
use native.Mathlib.Numerals.{add-one}
use native.Mathlib.Omega.{arith}
use mathlib.Core.Path.{◌≡◌, refl}
use mathlib.Core.Bool.{Bool, true, false, cond}
use mathlib.Core.List.{List, [], ◌∷◌}
use lib.ListN.{length, get_or, take, drop, set}
use lib.Seq.{sets}
use borrow.Author.Tests.{ne_eqb}
use Rattle.std.proofs.Common.{Some, None}
use Rattle.std.proofs.lemmas.Option.{cond_some}
use Rattle.base.proofs.Stores.{take_rest}
use Rattle.desk_parse.specs.Words.{is_pair, pair_byte, pair_read, pair_bytes, pairs_only, pairs_of}

-- Pairs of s are read into l: n bytes of those before the rest r have been stored, which has come to m
pub record Reading (s l m r : List ℕ) (n : ℕ) : Type 0 where
  pub few : n + length r ≤ length s
  pub completes : sets m n (pair_bytes r) ≡ sets l 0 (pair_bytes s)
  pub counts : n + length (pair_bytes r) ≡ length (pair_bytes s)
  pub sound : pairs_only r ≡ pairs_only s

pub reading_starts : (s l : List ℕ) → Reading s l l s 0
reading_starts s l = record { few = omega arith; completes = refl; counts = zero-add (length (pair_bytes s)); sound = refl }

-- a text without its first byte, as the code takes it
abbrev pub after_first : List ℕ → List ℕ
after_first r = take (length r - 1) (drop 1 r)

after : (x : ℕ) (r : List ℕ) → after_first (x ∷ r) ≡ r
after x r = take_rest (x ∷ r) 1

-- What a space, a fault and a pair at the beginning make of the rest r
space_first : (r : List ℕ) → (pair_bytes (32 ∷ r) ≡ pair_bytes r) × (pairs_only (32 ∷ r) ≡ pairs_only r)
unfolding pair_bytes pairs_only
space_first [] = (refl, refl)
space_first (z ∷ r) = (refl, refl)

refused_pair : (b : Bool) (v : ℕ) → cond b (Some v) None ≡ None → b ≡ false
refused_pair true v e = cc
refused_pair false v e = refl

module _ (x y : ℕ) (r : List ℕ) (other : x ≡ 32 → ⊥) where
  fault_first : pair_read x y ≡ None → (pair_bytes (x ∷ y ∷ r) ≡ []) × (pairs_only (x ∷ y ∷ r) ≡ false)
  unfolding pair_bytes pairs_only
  fault_first e = let h = refused_pair (is_pair x y) (pair_byte x y) e in (rw (ne_eqb x 32 other, h), rw (ne_eqb x 32 other, h))

  pair_first : (b : ℕ) → pair_read x y ≡ Some b → (pair_bytes (x ∷ y ∷ r) ≡ b ∷ pair_bytes r) × (pairs_only (x ∷ y ∷ r) ≡ pairs_only r)
  unfolding pair_bytes pairs_only
  pair_first b e = let h = cond_some (is_pair x y) (pair_byte x y) b e in (rw (ne_eqb x 32 other, h.0, h.1), rw (ne_eqb x 32 other, h.0))

-- What is read where the rest begins with a fault, and where nothing is left
ended : (s l m r : List ℕ) (n : ℕ) → Reading s l m r n → pair_bytes r ≡ [] → m ≡ sets l 0 (pair_bytes s)
ended s l m r n w e = rw e at w.completes

faulty : (s l m r : List ℕ) (n : ℕ) → Reading s l m r n → pairs_only r ≡ false → None ≡ pairs_of s
unfolding pairs_of
faulty s l m r n w e = rw (← w.sound, e)

module _ (s l m : List ℕ) (n : ℕ) where
  -- a turn, by the byte at the beginning and the next
  pub reading_space : (r : List ℕ) → 1 ≤ length r → get_or r 0 0 ≡ 32 → Reading s l m r n → Reading s l m (after_first r) n
  reading_space [] h e w = absurd (omega arith)
  reading_space (x ∷ r) h e w =
      let f = space_first r in
      rw after record {
        few = omega (arith, w.few);
        completes = rw (← f.0, ← e) w.completes;
        counts = rw (← f.0, ← e) w.counts;
        sound = rw (← f.1, ← e) w.sound;
      }

  pub pair_missing : (r : List ℕ) → 1 ≤ length r → length (after_first r) < 1 → (get_or r 0 0 ≡ 32 → ⊥) → Reading s l m r n → (None ≡ pairs_of s) × (m ≡ sets l 0 (pair_bytes s))
  unfolding pair_bytes pairs_only
  pair_missing [] h k other w = absurd (omega arith)
  pair_missing (x ∷ []) h k other w = (faulty s l m (x ∷ []) n w (ne_eqb x 32 other), ended s l m (x ∷ []) n w refl)
  pair_missing (x ∷ y ∷ r) h k other w = absurd (omega (arith, rw after at k))

  module _ (r : List ℕ) (h : 1 ≤ length (after_first r)) (other : get_or r 0 0 ≡ 32 → ⊥) (w : Reading s l m r n) where
    pub pair_refused : pair_read (get_or r 0 0) (get_or (after_first r) 0 0) ≡ None → (None ≡ pairs_of s) × (m ≡ sets l 0 (pair_bytes s))
    pair_refused = go r h other w
      where
        go : (r : List ℕ) → 1 ≤ length (after_first r) → (get_or r 0 0 ≡ 32 → ⊥) → Reading s l m r n → pair_read (get_or r 0 0) (get_or (after_first r) 0 0) ≡ None → (None ≡ pairs_of s) × (m ≡ sets l 0 (pair_bytes s))
        go [] h other w e = absurd (omega arith)
        go (x ∷ []) h other w e = absurd (omega arith)
        go (x ∷ y ∷ r) h other w e =
            let f = fault_first x y r other (rw after at e) in
            (faulty s l m (x ∷ y ∷ r) n w f.1, ended s l m (x ∷ y ∷ r) n w f.0)

    pub reading_pair : (b : ℕ) (o : List ℕ) → pair_read (get_or r 0 0) (get_or (after_first r) 0 0) ≡ Some b → o ≡ set m n b → Reading s l o (after_first (after_first r)) (n + 1)
    reading_pair = go r h other w
      where
        go : (r : List ℕ) → 1 ≤ length (after_first r) → (get_or r 0 0 ≡ 32 → ⊥) → Reading s l m r n → (b : ℕ) (o : List ℕ) → pair_read (get_or r 0 0) (get_or (after_first r) 0 0) ≡ Some b → o ≡ set m n b → Reading s l o (after_first (after_first r)) (n + 1)
        go [] h other w b o e o_is = absurd (omega arith)
        go (x ∷ []) h other w b o e o_is = absurd (omega arith)
        go (x ∷ y ∷ r) h other w b o e o_is =
            let f = pair_first x y r other b (rw after at e) in
            rw (after, after) record {
              few = omega (arith, w.few);
              completes = rw (o_is, add-one n) (rw f.0 at w.completes);
              counts = omega (arith, rw f.0 at w.counts);
              sound = rw (← f.1) w.sound;
            }

  pub whole_read : (r : List ℕ) → length r < 1 → Reading s l m r n → (Some n ≡ pairs_of s) × (m ≡ sets l 0 (pair_bytes s))
  unfolding pair_bytes pairs_only pairs_of
  whole_read [] h w =
      let e : n ≡ length (pair_bytes s) = rw add-zero at w.counts in
      (rw (← w.sound, e), ended s l m [] n w refl)
  whole_read (x ∷ r) h w = absurd (omega arith)
