-- The marked leaves by part number: a test passes of one of them exactly where it passes of some marked part.
use Prim.Native.Nat.{ℕ, zero, suc, ◌+◌, ◌<◌}
use native.Mathlib.Omega.{arith}
use native.Mathlib.Nat.{zero-add, add-zero, suc-add, add-suc}
use mathlib.Core.Path.{◌≡◌, refl}
use mathlib.Core.Logic.{◌↔◌}
use mathlib.Core.Bool.{Bool, true, false, cond, ◌&&◌, ◌||◌, false≢true, or-true}
use mathlib.Core.List.{List, [], ◌∷◌, ◌++◌}
use lib.ListN.{length, get_or}
use Rattle.base.specs.Lists.{any}
use Rattle.base.proofs.Lists.{and_left, and_right}
use Rattle.meaning.specs.declared.Entry.{Entry}
use Rattle.meaning.specs.declared.Form.TheVariants.{Table}
use Rattle.meaning.specs.Program.{entry_at}
use Rattle.meaning.specs.Record.{is_mark}
use Rattle.meaning.specs.Cycle.{is_leaf, leaves_from}
use Rattle.sentences.specs.Marks.{MarkedAt}

-- a test that only leaves pass
module _ (f : Entry → Bool) (leaf : (e : Entry) → f e ≡ true → is_leaf e ≡ true) where
  -- the first part, marked m, and the leaves after it
  first_leaf : (m : ℕ) (e : Entry) (es : List Entry) → any f (cond (is_mark m && is_leaf e) (e ∷ []) [] ++ es) ≡ ((is_mark m && f e) || any f es)
  first_leaf m e es = go (is_mark m) (is_leaf e) (f e) refl (leaf e)
    where
      go : (a l g : Bool) → f e ≡ g → (f e ≡ true → l ≡ true) → any f (cond (a && l) (e ∷ []) [] ++ es) ≡ ((a && f e) || any f es)
      go false l g k h = refl
      go true true g k h = refl
      go true false false k h = rw k
      go true false true k h = absurd (false≢true (h k))

  found_from : (t : List ℕ) (n : ℕ) (ms : List ℕ) → any f (leaves_from t n ms) ≡ true → (i : ℕ) × (i < length ms) × (is_mark (get_or ms i 0) ≡ true) × (f (entry_at Table t (n + i)) ≡ true)
  unfolding leaves_from
  found_from t n [] h = absurd (false≢true h)
  found_from t n (m ∷ ms) h = go (is_mark m && f (entry_at Table t n)) refl (rw (first_leaf m (entry_at Table t n) (leaves_from t (suc n) ms)) at h) (found_from t (suc n) ms)
    where
      go : (b : Bool) → (is_mark m && f (entry_at Table t n)) ≡ b → (b || any f (leaves_from t (suc n) ms)) ≡ true
          → (any f (leaves_from t (suc n) ms) ≡ true → (i : ℕ) × (i < length ms) × (is_mark (get_or ms i 0) ≡ true) × (f (entry_at Table t (suc n + i)) ≡ true))
          → (i : ℕ) × (i < length (m ∷ ms)) × (is_mark (get_or (m ∷ ms) i 0) ≡ true) × (f (entry_at Table t (n + i)) ≡ true)
      go true k g later = (0, omega arith, and_left (is_mark m) (f (entry_at Table t n)) k, rw add-zero (and_right (is_mark m) (f (entry_at Table t n)) k))
      go false k g later =
          let r = later g in
          (suc r.0, omega (arith, r.1), r.2, rw (add-suc n r.0, ← (suc-add n r.0)) r.3)

  at_from : (t : List ℕ) (n : ℕ) (ms : List ℕ) (i : ℕ) → i < length ms → is_mark (get_or ms i 0) ≡ true → f (entry_at Table t (n + i)) ≡ true → any f (leaves_from t n ms) ≡ true
  unfolding leaves_from
  at_from t n [] i l a h = absurd (omega arith)
  at_from t n (m ∷ ms) zero l a h =
      let g : f (entry_at Table t n) ≡ true = rw add-zero at h in
      rw (first_leaf m (entry_at Table t n) (leaves_from t (suc n) ms), a, g)
  at_from t n (m ∷ ms) (suc i) l a h =
      let g : any f (leaves_from t (suc n) ms) ≡ true = at_from t (suc n) ms i (omega arith) a (rw (suc-add n i, ← (add-suc n i)) h) in
      rw (first_leaf m (entry_at Table t n) (leaves_from t (suc n) ms), g, or-true)

  -- one of the marked leaves passes it exactly where some marked part does
  pub leaf_marked : (t ms : List ℕ) → (any f (leaves_from t 0 ms) ≡ true) ↔ ((p : ℕ) × MarkedAt f t ms p)
  leaf_marked t ms = (
    λ h.
        let r = found_from t 0 ms h in
        (r.0, (r.1, r.2, rw (zero-add r.0) at r.3)),
    λ (p, (l, a, h)). at_from t 0 ms p l a (rw zero-add h),
  )
