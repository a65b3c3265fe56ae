-- The search for the lowest contested variable: what it finds is what the definition gives.
use Prim.Native.Nat.{ℕ, zero, suc, ◌+◌, ◌<◌, ◌≤◌}
use native.Mathlib.Decide.{dec_lt}
use native.Mathlib.Omega.{arith}
use mathlib.Core.Path.{◌≡◌, refl}
use mathlib.Core.List.{List}
use lib.ListN.{get_or}
use borrow.Author.Tests.{eq-eqb, ne_eqb}
use Rattle.std.specs.Prelude.{Option, Some, None, Ok}
use Rattle.std.specs.Option.{MatchOption}
use Rattle.base.specs.Lists.{bytes_at}
use Rattle.meaning.specs.Cycle.{contested, lowest_contested}
use Rattle.meaning.specs.Answers.{answered, no_variable, offer_number}

module _ (g : List ℕ) where
  -- none of the n variables from v on is contested
  none_named : (v n : ℕ) → ((k : ℕ) → v ≤ k → k < v + n → get_or g k 0 ≡ contested → ⊥) → lowest_contested v (bytes_at g v n) ≡ no_variable
  unfolding lowest_contested
  none_named v zero h = refl
  none_named v (suc n) h = rw (ne_eqb (get_or g v 0) contested (h v (omega arith) (omega arith))) (none_named (suc v) n (λ k a b. h k (omega arith) (omega arith)))

  -- variable i is, and none before it
  lowest_named : (v n i : ℕ) → v ≤ i → i < v + n → get_or g i 0 ≡ contested → ((k : ℕ) → v ≤ k → k < i → get_or g k 0 ≡ contested → ⊥) → lowest_contested v (bytes_at g v n) ≡ i
  unfolding lowest_contested
  lowest_named v zero i a b e h = absurd (omega arith)
  lowest_named v (suc n) i a b e h = go (dec_lt v i) (λ l. lowest_named (suc v) n i l (omega arith) e (λ k c d. h k (omega arith) d))
    where
      go : Dec (v < i) → (v < i → lowest_contested (suc v) (bytes_at g (suc v) n) ≡ i) → lowest_contested v (bytes_at g v (suc n)) ≡ i
      go (yes l) later = rw (ne_eqb (get_or g v 0) contested (h v (omega arith) l)) (later l)
      go (no m) later =
          let same : i ≡ v = omega (arith, m) in
          rw (eq-eqb (get_or g v 0) contested (rw same at e)) (omega arith)

  pub search_named : (n : ℕ) (r : Option ℕ) → MatchOption r ((k : ℕ) → 0 ≤ k → k < n → get_or g k 0 ≡ contested → ⊥) (λ i. (0 ≤ i) × (i < n) × (get_or g i 0 ≡ contested) × ((k : ℕ) → 0 ≤ k → k < i → get_or g k 0 ≡ contested → ⊥)) → offer_number (Ok r) ≡ answered + lowest_contested 0 (bytes_at g 0 n)
  search_named n None h = rw (none_named 0 n (λ k a b. h k a (omega arith)))
  search_named n (Some v) h = rw (lowest_named 0 n v h.0 (omega (arith, h.1)) h.2 h.3)
