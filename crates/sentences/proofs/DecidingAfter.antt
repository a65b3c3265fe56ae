-- Deciding CHOICEs after a settling: those that were initialised in it.
use Prim.Native.Nat.{ℕ, suc, ◌≤◌, ◌<◌}
use native.Mathlib.Nat.{eq-or-lt_of_le}
use native.Mathlib.Omega.{arith}
use mathlib.Core.Path.{◌≡◌, refl, sym, subst, ◌∙◌}
use mathlib.Core.Bool.{Bool, true, false, cond, not, false≢true}
use mathlib.Core.Logic.{◌↔◌, ◌⊎◌, inl, inr}
use mathlib.Core.List.{List}
use lib.ListN.{length}
use Rattle.base.proofs.Stores.{length_bytes}
use Rattle.meaning.specs.Sizes.{no_part}
use Rattle.meaning.specs.declared.kinds.Kind.TheVariants.{Choice as CHOICE}
use Rattle.meaning.specs.Program.{parts}
use Rattle.meaning.specs.Table.{kind_at, operand_of, end_at, parent_at, next_at, Inside, is_table}
use Rattle.meaning.specs.Conditions.{Situation, satisfied}
use Rattle.meaning.specs.Record.{marks_place, phase_of, last_time, marks_in, parts_allowed, record_allowed}
use Rattle.meaning.specs.Cycle.{begins_in, situation}
use Rattle.meaning.proofs.Tables.{Later, inside}
use Rattle.meaning.proofs.Nesting.{lower, nested, parent_inside}
use Rattle.sentences.specs.Marks.{Marked, Deciding}
use Rattle.sentences.specs.Allowed.{Child}
use Rattle.sentences.specs.Stepping.{BegunWith, itself, StaysMarked, child_taken, Initialises, MarkedBy, SettlingSteps}
use Rattle.sentences.proofs.AllowedRecords.{parts_allowed_lem}
use Rattle.sentences.proofs.Initialised.{begun_ind}
use Rattle.sentences.proofs.Settlings.{inside_before, inside_after, ends_at, empty_deciding, composite_ends, deciding_stays, takes_inside}
use Rattle.sentences.proofs.AfterSettling.{number_fits, by_marked, spread, initialised_apart, inside_after_lem}
use Rattle.sentences.proofs.Endings.{same_by, same_after, settling_endings, determined}

-- "and none of CHOICE's": nothing is marked inside a CHOICE by the initialising of it or of a part around it
begun_none : (t : List ℕ) → is_table t ≡ true → (x p : ℕ) → kind_at t p ≡ CHOICE → x ≤ p → {n : ℕ} → Inside t p n → BegunWith t x n → ⊥
unfolding begins_in
begun_none t h x p k a i b = begun_ind t x (λ n. Inside t p n → ⊥) (λ j. omega (arith, j)) (λ u n none c e j. go u n none c e (parent_inside t h p n j)) b i
  where
    go : (u n : ℕ) → (Inside t p u → ⊥) → Child t u n → begins_in (kind_at t u) u n ≡ true → (parent_at t n ≡ p) ⊎ Inside t p (parent_at t n) → ⊥
    go u n none c e (inl d) =
        let same : u ≡ p = sym c.parent_is ∙ d in
        false≢true (rw (same, k) at e)
    go u n none c e (inr j) = none (rw c.parent_is at j)

module _ (t : List ℕ) (h : is_table t ≡ true) (sit : Situation) (ms : List ℕ) (long : length ms ≡ parts t) where
  abbrev ends : ℕ → Bool
  ends = ends_at t sit ms

  -- marked after the settling
  abbrev After : ℕ → Type 0
  After n = StaysMarked ms ends n ⊎ ((q : ℕ) × MarkedBy t sit ms ends q n)

  -- no part initialises into a part that it stands before
  crosses : (q x p : ℕ) → Initialises t sit ms ends q x → q < p → Inside t p x → ⊥
  crosses q x p (inl i) a j = next (inside t h q (number_fits t h sit ms long q (by_marked t h sit ms long q x (inl i)))).next_is
    where
      next : (next_at t q ≡ no_part) ⊎ ((next_at t q ≡ q) ⊎ Later t q) → ⊥
      next (inl z) = i.2 (sym i.1 ∙ z)
      next (inr (inl z)) = omega (arith, i.1, j)
      next (inr (inr l)) = omega (arith, i.1, j, l.next_end_lem, nested t h q p (a, omega (arith, i.1, j, l.next_end_lem)))
  crosses q x p (inr i) a j = go (satisfied sit (operand_of t q)) i.1
    where
      go : (b : Bool) → cond b (suc q) (end_at t (suc q)) ≡ x → ⊥
      go true e = omega (arith, j)
      go false e = below (eq-or-lt_of_le a)
        where
          below : (suc q ≡ p) ⊎ (suc q < p) → ⊥
          below (inl d) =
              let f : end_at t p ≡ x = rw (← d) e in
              omega (arith, j)
          below (inr d) = omega (arith, j, nested t h (suc q) p (d, omega (arith, j)))

  -- a part initialises one part
  one_initialised : (q x y : ℕ) → Initialises t sit ms ends q x → Initialises t sit ms ends q y → x ≡ y
  one_initialised q x y (inl i) (inl j) = sym i.1 ∙ j.1
  one_initialised q x y (inl i) (inr j) = absurd (false≢true (sym (deciding_stays t sit ms q j.0) ∙ i.0))
  one_initialised q x y (inr i) (inl j) = absurd (false≢true (sym (deciding_stays t sit ms q i.0) ∙ j.0))
  one_initialised q x y (inr i) (inr j) = sym i.1 ∙ j.1

  module _ (phase : ℕ) (allowed : parts_allowed t phase 0 ms ≡ true) (p : ℕ) (k : kind_at t p ≡ CHOICE) where
    -- a CHOICE that stays has something marked inside: the child that it takes, or what is left of its branch
    stays_decided : StaysMarked ms ends p → (n : ℕ) × Inside t p n × After n
    stays_decided s = go (inside_before t ms p) refl
      where
        l : p < parts t
        l = number_fits t h sit ms long p s.0

        not_false : (b : Bool) → not b ≡ false → b ≡ true
        not_false true e = refl
        not_false false e = sym e

        go : (b : Bool) → inside_before t ms p ≡ b → (n : ℕ) × Inside t p n × After n
        go true e =
            let f = not_false (inside_after t sit ms p) (sym (composite_ends t sit ms p s.0 (inr (inr (inr (inr (k, e)))))) ∙ s.1) in
            let (n, (i, c)) = inside_after_lem t h sit ms long phase allowed p l f in
            (n, i, by n c)
          where
            by : (n : ℕ) → StaysMarked ms ends n ⊎ ((q : ℕ) × Inside t p q × MarkedBy t sit ms ends q n) → After n
            by n (inl c) = inl c
            by n (inr (q, c, g)) = inr (q, g)
        go false e =
            let d : Deciding t ms p = empty_deciding t ms p s.0 k e in
            let r = takes_inside t h sit ms p l d in
            (child_taken t sit p, omega (arith, r), inr (p, (child_taken t sit p, inr (d, refl), itself)))

    -- a CHOICE that was initialised has nothing marked inside
    new_undecided : (q : ℕ) → MarkedBy t sit ms ends q p → (n : ℕ) → Inside t p n → After n → ⊥
    new_undecided q (x, i, b) n j a = go a
      where
        w : (q ≤ x) × (x ≤ p) × (p < end_at t x) × (end_at t x ≤ parts t)
        w = spread t h sit ms long q x p i b

        within : n < end_at t x
        within = in_x (eq-or-lt_of_le w.1)
          where
            in_x : (x ≡ p) ⊎ (x < p) → n < end_at t x
            in_x (inl e) = rw e j.1
            in_x (inr e) = omega (arith, j, nested t h x p (e, w.2))

        -- marked by a part before q, in which p would be marked too
        before : (u y : ℕ) → u < q → Initialises t sit ms ends u y → BegunWith t y n → (p < y) ⊎ (y ≤ p) → ⊥
        before u y l f g (inl c) = crosses u y p f (omega (arith, w)) (c, omega (arith, j, spread t h sit ms long u y n f g))
        before u y l f g (inr c) =
            initialised_apart t h sit ms long phase allowed u y p f (omega (arith, w)) (inr (q, l, (x, i, b))) c (omega (arith, j, spread t h sit ms long u y n f g))

        by : (u y : ℕ) → Initialises t sit ms ends u y → BegunWith t y n → (u < q) ⊎ (q ≤ u) → ⊥
        by u y f g (inl l) = before u y l f g (lower p y)
        by u y f g (inr l) = same (eq-or-lt_of_le l)
          where
            same : (q ≡ u) ⊎ (q < u) → ⊥
            same (inl e) =
                let f' : Initialises t sit ms ends q y = subst (λ v. Initialises t sit ms ends v y) (sym e) f in
                begun_none t h x p k w.1 j (subst (λ v. BegunWith t v n) (one_initialised q y x f' i) g)
            same (inr e) = initialised_apart t h sit ms long phase allowed q x n i (omega (arith, w, j)) (inr (u, e, (y, f, g))) (omega (arith, w, j)) within

        go : After n → ⊥
        go (inl s) = initialised_apart t h sit ms long phase allowed q x n i (omega (arith, w, j)) (inl s) (omega (arith, w, j)) within
        go (inr (u, (y, f, g))) = by u y f g (lower u q)

-- "Before and after a settling, a marked CHOICE with nothing marked inside is deciding": after one these are the CHOICEs that were initialised in it;
-- a CHOICE that stays has a child marked
module _ (t r est r' : List ℕ) (h : is_table t ≡ true) (allowed : record_allowed t r ≡ true) (s : SettlingSteps t r est r') where
  abbrev sit : Situation
  sit = situation t r est (last_time r)

  whole : length (marks_in t r) ≡ parts t
  whole = length_bytes r marks_place (parts t)

  same : (p : ℕ) → ends_at t sit (marks_in t r) p ≡ s.ends p
  same = determined t h sit (marks_in t r) whole (ends_at t sit (marks_in t r)) s.ends (settling_endings t h sit (marks_in t r) whole (phase_of r) (parts_allowed_lem t r allowed)) s.endings

  after : (n : ℕ) → Marked (marks_in t r') n ↔ After t h sit (marks_in t r) whole n
  after n = (
    λ m. same_after t h sit (marks_in t r) whole s.ends (ends_at t sit (marks_in t r)) (λ q. sym (same q)) n ((s.marks_settled n).0 m),
    λ a. (s.marks_settled n).1 (same_after t h sit (marks_in t r) whole (ends_at t sit (marks_in t r)) s.ends same n a),
  )

  pub deciding_after : (p : ℕ) → Marked (marks_in t r') p → kind_at t p ≡ CHOICE → Deciding t (marks_in t r') p ↔ ((q : ℕ) × MarkedBy t (situation t r est (last_time r)) (marks_in t r) s.ends q p)
  deciding_after p m k = (λ d. to d ((s.marks_settled p).0 m), λ (q, g). (m, k, λ n i a. new_undecided t h sit (marks_in t r) whole (phase_of r) (parts_allowed_lem t r allowed) p k q (same_by t h sit (marks_in t r) whole s.ends (ends_at t sit (marks_in t r)) q p (sym (same q)) g) n i ((after n).0 a)))
    where
      to : Deciding t (marks_in t r') p → StaysMarked (marks_in t r) s.ends p ⊎ ((q : ℕ) × MarkedBy t sit (marks_in t r) s.ends q p) → (q : ℕ) × MarkedBy t sit (marks_in t r) s.ends q p
      to d (inl (u, e)) =
          let (n, i, a) = stays_decided t h sit (marks_in t r) whole (phase_of r) (parts_allowed_lem t r allowed) p k (u, same p ∙ e) in
          absurd (d.2 n i ((after n).1 a))
      to d (inr g) = g
