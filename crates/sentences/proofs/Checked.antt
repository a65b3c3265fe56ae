-- An offer's check of the marks, part by part.
use Prim.Native.Nat.{ℕ, zero, suc, ◌+◌, ◌-◌, ◌≤◌, ◌<◌}
use native.Mathlib.Nat.{zero-add, sub-zero, sub_self, eq-or-lt_of_le}
use native.Mathlib.Omega.{arith}
use mathlib.Core.Path.{◌≡◌, refl}
use mathlib.Core.Bool.{Bool, true, false, cond, false≢true}
use mathlib.Core.Logic.{◌⊎◌, inl, inr, ◌↔◌}
use mathlib.Core.List.{List, [], ◌∷◌}
use lib.Dec.{ltb}
use lib.ListN.{get_or}
use borrow.Author.Tests.{ltb-true, ltb-false}
use Rattle.meaning.specs.Table.{end_at, Inside, inside_of, is_table}
use Rattle.meaning.specs.Conditions.{Situation}
use Rattle.meaning.specs.Record.{is_mark}
use Rattle.meaning.specs.Cycle.{breaks, checked_from}
use Rattle.meaning.proofs.Nesting.{Closed, closed_inside, closed_none, closed_rest}

module _ (t : List ℕ) (sit : Situation) where
  -- a mark is lost or stays as it was
  kept_or_lost : (n : ℕ) (ms : List ℕ) (skip i : ℕ) → (get_or (checked_from t sit n ms skip) i 0 ≡ 0) ⊎ (get_or (checked_from t sit n ms skip) i 0 ≡ get_or ms i 0)
  unfolding checked_from
  kept_or_lost n [] skip i = inl refl
  kept_or_lost n (m ∷ ms) zero zero = inr refl
  kept_or_lost n (m ∷ ms) zero (suc i) = kept_or_lost (suc n) ms (cond (breaks t sit n m) (inside_of t n) 0) i
  kept_or_lost n (m ∷ ms) (suc skip) zero = inl refl
  kept_or_lost n (m ∷ ms) (suc skip) (suc i) = kept_or_lost (suc n) ms skip i

  -- the marks that are skipped are lost
  skipped : (n : ℕ) (ms : List ℕ) (skip i : ℕ) → i < skip → get_or (checked_from t sit n ms skip) i 0 ≡ 0
  unfolding checked_from
  skipped n [] skip i h = refl
  skipped n (m ∷ ms) zero i h = absurd (omega arith)
  skipped n (m ∷ ms) (suc skip) zero h = refl
  skipped n (m ∷ ms) (suc skip) (suc i) h = skipped (suc n) ms skip i (omega arith)

  -- marks from part n on, in which part q is marked and breaks
  abbrev Breaks : ℕ → List ℕ → ℕ → Type 0
  Breaks n ms q = (n ≤ q) × (breaks t sit q (get_or ms (q - n) 0) ≡ true)

  -- the same without the first of them
  breaks_later : (n m : ℕ) (ms : List ℕ) (q : ℕ) → n < q → get_or (m ∷ ms) (q - n) 0 ≡ get_or ms (q - suc n) 0
  breaks_later n m ms q l =
      let e : q - n ≡ suc (q - suc n) = omega arith in
      rw e

  -- the mark of a part that stands inside none that breaks stays
  kept : (n : ℕ) (ms : List ℕ) (skip i p : ℕ) → n + i ≡ p → skip ≤ i → ((q : ℕ) → Inside t q p → Breaks n ms q → ⊥) → get_or (checked_from t sit n ms skip) i 0 ≡ get_or ms i 0
  unfolding checked_from
  kept n [] skip i p e h f = refl
  kept n (m ∷ ms) zero zero p e h f = refl
  kept n (m ∷ ms) zero (suc i) p e h f =
      kept (suc n) ms (cond (breaks t sit n m) (inside_of t n) 0) i p (omega arith) (ended (breaks t sit n m) refl) (λ q k b. f q k (omega (arith, b.0), rw (breaks_later n m ms q b.0) b.1))
    where
      ended : (b : Bool) → breaks t sit n m ≡ b → cond b (inside_of t n) 0 ≤ i
      ended true d = past (ltb p (end_at t n)) refl
        where
          past : (c : Bool) → ltb p (end_at t n) ≡ c → inside_of t n ≤ i
          past true g = absurd (f n (omega arith, ltb-true p (end_at t n) g) (omega arith, rw (sub_self n) d))
          past false g = omega (arith, ltb-false p (end_at t n) g)
      ended false d = omega arith
  kept n (m ∷ ms) (suc skip) zero p e h f = absurd (omega arith)
  kept n (m ∷ ms) (suc skip) (suc i) p e h f = kept (suc n) ms skip i p (omega arith) (omega arith) (λ q k b. f q k (omega (arith, b.0), rw (breaks_later n m ms q b.0) b.1))

  -- the first of the parts that follow breaks, and all inside it are skipped, or a later one breaks
  breaks_first : (n m : ℕ) (ms : List ℕ) (skip i q : ℕ) → Breaks n (m ∷ ms) q → (n ≡ q → breaks t sit n m ≡ true → i < skip)
      → (Breaks (suc n) ms q → get_or (checked_from t sit (suc n) ms skip) i 0 ≡ 0) → get_or (checked_from t sit (suc n) ms skip) i 0 ≡ 0
  breaks_first n m ms skip i q b f later = go (eq-or-lt_of_le b.0)
    where
      go : (n ≡ q) ⊎ (n < q) → get_or (checked_from t sit (suc n) ms skip) i 0 ≡ 0
      go (inl e) = skipped (suc n) ms skip i (f e (rw (← e, sub_self) at b.1))
      go (inr l) = later (l, rw (breaks_later n m ms q l) at b.1)

module _ (t : List ℕ) (table : is_table t ≡ true) (sit : Situation) where
  -- the parts that are skipped after part n
  closed_next : (n : ℕ) (b : Bool) → Closed t table (suc n) (cond b (inside_of t n) 0)
  closed_next n true = closed_inside t table n
  closed_next n false = closed_none t table (suc n)

  -- the mark of a part that stands inside one that breaks is lost
  lost : (n : ℕ) (ms : List ℕ) (skip i p : ℕ) → n + i ≡ p → Closed t table n skip → (q : ℕ) → Inside t q p → Breaks t sit n ms q → get_or (checked_from t sit n ms skip) i 0 ≡ 0
  unfolding checked_from
  lost n [] skip i p e c q k b = refl
  lost n (m ∷ ms) zero zero p e c q k b = absurd (omega (arith, b.0))
  lost n (m ∷ ms) zero (suc i) p e c q k b =
      breaks_first t sit n m ms (cond (breaks t sit n m) (inside_of t n) 0) i q b (λ d g. rw (g, d) (omega arith)) (lost (suc n) ms (cond (breaks t sit n m) (inside_of t n) 0) i p (omega arith) (closed_next n (breaks t sit n m)) q k)
  lost n (m ∷ ms) (suc skip) zero p e c q k b = refl
  lost n (m ∷ ms) (suc skip) (suc i) p e c q k b =
      breaks_first t sit n m ms skip i q b (λ d g. omega (arith, c q b.0 (omega arith))) (lost (suc n) ms skip i p (omega arith) (closed_rest t table n skip c) q k)

  module _ (ms : List ℕ) (p : ℕ) where
    -- each mark is lost or stays as it was
    pub offer_keeps : (get_or (checked_from t sit 0 ms 0) p 0 ≡ 0) ⊎ (get_or (checked_from t sit 0 ms 0) p 0 ≡ get_or ms p 0)
    offer_keeps = kept_or_lost t sit 0 ms 0 p

    -- "loses every mark inside it"
    pub offer_loses : (q : ℕ) → Inside t q p → breaks t sit q (get_or ms q 0) ≡ true → get_or (checked_from t sit 0 ms 0) p 0 ≡ 0
    offer_loses q i b = lost 0 ms 0 p p (zero-add p) (closed_none t table 0) q i (omega arith, rw sub-zero b)

    -- "and stays marked", as does each part that stands inside no such MAINTAIN
    pub offer_leaves : ((q : ℕ) → Inside t q p → breaks t sit q (get_or ms q 0) ≡ true → ⊥) → get_or (checked_from t sit 0 ms 0) p 0 ≡ get_or ms p 0
    offer_leaves f = kept t sit 0 ms 0 p p (zero-add p) (omega arith) (λ q i b. f q i (rw sub-zero at b.1))

    -- "From the root down, a marked MAINTAIN whose condition is violated by the stored estimate and this time loses every mark inside it and stays marked":
    -- a part is marked afterwards exactly where it was marked and stands inside no such MAINTAIN
    pub offer_marks : (is_mark (get_or (checked_from t sit 0 ms 0) p 0) ≡ true) ↔ ((is_mark (get_or ms p 0) ≡ true) × ((q : ℕ) → Inside t q p → breaks t sit q (get_or ms q 0) ≡ true → ⊥))
    offer_marks = (λ h. (was offer_keeps h, λ q i b. false≢true (rw (offer_loses q i b) at h)), λ h. rw (offer_leaves h.1) h.0)
      where
        was : (get_or (checked_from t sit 0 ms 0) p 0 ≡ 0) ⊎ (get_or (checked_from t sit 0 ms 0) p 0 ≡ get_or ms p 0) → is_mark (get_or (checked_from t sit 0 ms 0) p 0) ≡ true → is_mark (get_or ms p 0) ≡ true
        was (inl e) h = absurd (false≢true (rw e at h))
        was (inr e) h = rw e at h
