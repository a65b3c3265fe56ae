-- A loop that tests the numbers from i on, before e, in turn: one that leaves at the first that fails, and one that takes
-- all of them and keeps what it has found.
use Prim.Native.Nat.{ℕ, suc, ◌+◌, ◌-◌, ◌<◌, ◌≤◌}
use native.Mathlib.Numerals.{add-one}
use native.Mathlib.Omega.{arith}
use mathlib.Core.Path.{◌≡◌, sym}
use mathlib.Core.Bool.{Bool, true, false, ◌&&◌, and-true, and_assoc}
use Rattle.base.specs.Lists.{all_from}

module _ (f : ℕ → Bool) (i e : ℕ) where
  -- a turn takes the first of those that are left; where none is left, nothing fails
  turn_taken : i < e → all_from f i (e - i) ≡ (f i && all_from f (i + 1) (e - (i + 1)))
  turn_taken h =
      let k : e - i ≡ suc (e - (i + 1)) = omega arith in
      rw (k, add-one)

  none_left : e ≤ i → all_from f i (e - i) ≡ true
  none_left h =
      let k : e - i ≡ 0 = omega arith in
      rw k

  -- it leaves at the first that fails: what is left to test comes to the whole
  module _ (whole : Bool) where
    pub all_step : i < e → f i ≡ true → all_from f i (e - i) ≡ whole → all_from f (i + 1) (e - (i + 1)) ≡ whole
    all_step h t inv = rw (turn_taken h, t) at inv

    pub all_fails : i < e → f i ≡ false → all_from f i (e - i) ≡ whole → whole ≡ false
    all_fails h t inv = sym (rw (turn_taken h, t) at inv)

    pub all_end : e ≤ i → all_from f i (e - i) ≡ whole → whole ≡ true
    all_end h inv = sym (rw (none_left h) at inv)

  -- it takes all of them: what has passed so far, and what is left, are the whole
  pub all_next : (a b whole : Bool) → i < e → b ≡ f i → (a && all_from f i (e - i)) ≡ whole → ((a && b) && all_from f (i + 1) (e - (i + 1))) ≡ whole
  all_next a b whole h b-is inv = rw (b-is, and_assoc) (rw (turn_taken h) at inv)

  pub all_ends : (a whole : Bool) → e ≤ i → (a && all_from f i (e - i)) ≡ whole → a ≡ whole
  all_ends a whole h inv = rw (none_left h, and-true) at inv
