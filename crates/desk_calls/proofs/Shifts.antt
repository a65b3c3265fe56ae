-- Laws of bytes moved to the beginning of a buffer, one by one.
use Prim.Native.Nat.{ℕ, suc, ◌+◌, ◌-◌, ◌≤◌, ◌<◌}
use native.Mathlib.Nat.{add-zero, sub_self}
use native.Mathlib.Numerals.{add-one}
use native.Mathlib.Omega.{arith}
use mathlib.Core.Path.{◌≡◌, refl, sym, ap, ◌∙◌}
use mathlib.Core.List.{List, [], ◌∷◌}
use lib.ListN.{length, get_or, drop, set, length-set}
use lib.Seq.{sets, drop-set-lt, drop-drop, get_or-drop}
use Rattle.base.specs.Lists.{bytes_at}
use Rattle.base.proofs.Stores.{stores_step, stores_end}

-- The bytes of l from place `from` on and before `to` are moved: those before i are, which has come to m, and the bytes from i on are as they were
pub record Shifting (l : List ℕ) (from to : ℕ) (m : List ℕ) (i : ℕ) : Type 0 where
  pub begun : from ≤ i
  pub long : length m ≡ length l
  pub completes : sets m (i - from) (bytes_at l i (to - i)) ≡ sets l 0 (bytes_at l from (to - from))
  pub ahead : drop i m ≡ drop i l

pub shift_starts : (l : List ℕ) (from to : ℕ) → Shifting l from to l from
shift_starts l from to = record { begun = omega arith; long = refl; completes = rw (sub_self from); ahead = refl }

-- lists that are the same from i on are so from the next place on
next_drop : (l m : List ℕ) (i : ℕ) → drop i m ≡ drop i l → drop (suc i) m ≡ drop (suc i) l
next_drop l m i e = rw (← (add-one i), ← (drop-drop 1 i m), ← (drop-drop 1 i l), e)

pub shift_next : (l m o : List ℕ) (from to i x : ℕ) → Shifting l from to m i → i < to → x ≡ get_or m i 0 → o ≡ set m (i - from) x → Shifting l from to o (i + 1)
shift_next l m o from to i x w h x-is o_is =
    let at_i : get_or m i 0 ≡ get_or l i 0 = ap (λ j. get_or m j 0) (sym (add-zero i)) ∙ sym (get_or-drop i m 0 0) ∙ rw w.ahead (get_or-drop i l 0 0 ∙ rw add-zero) in
    record {
      begun = omega (arith, w.begun);
      long = rw o_is (length-set m (i - from) x ∙ w.long);
      completes = stores_step (λ p. get_or l p 0 ∷ []) (bytes_at l) (λ p n. refl) m o (sets l 0 (bytes_at l from (to - from))) (i - from) (i + 1 - from) i to h (rw (o_is, x-is, at_i)) (omega (arith, w.begun)) w.completes;
      ahead = rw (o_is, drop-set-lt (i + 1) m (i - from) x (omega arith), add-one i) (next_drop l m i w.ahead);
    }

pub shift_ends : (l m : List ℕ) (from to i : ℕ) → Shifting l from to m i → to ≤ i → m ≡ sets l 0 (bytes_at l from (to - from))
shift_ends l m from to i w h = stores_end (λ p. get_or l p 0 ∷ []) (bytes_at l) (λ p n. refl) m (sets l 0 (bytes_at l from (to - from))) (i - from) i to refl h w.completes
