-- The variable that goal bytes name is the one that the leaves at work do.
use Prim.Native.Nat.{ℕ, zero, suc}
use native.Mathlib.Omega.{arith}
use mathlib.Core.Path.{◌≡◌, refl, sym, ◌∙◌}
use mathlib.Core.Bool.{Bool, true, false, cond, not, ◌&&◌, ◌||◌}
use mathlib.Core.List.{List, [], ◌∷◌}
use lib.Dec.{eqb, leb}
use borrow.Author.Tests.{eqb-true, eq-eqb, ne_eqb, leb-true}
use Rattle.base.specs.Lists.{all, any, tabulate}
use Rattle.base.proofs.Lists.{and_left, and_right}
use Rattle.meaning.specs.declared.Entry.{Entry}
use Rattle.meaning.specs.Sizes.{max_value}
use Rattle.meaning.specs.Cycle.{contested, values_for, goal_byte, goal_bytes, lowest_contested}
use Rattle.meaning.proofs.Entries.{any_given}
use Rattle.agreement.specs.Runs.{gives_other, is_contested, lowest_at_work}

abbrev Small : List ℕ → Type 0
Small xs = all (λ x. leb x max_value) xs ≡ true

-- one of a list fails a test exactly where not all pass it
any-not : (f : ℕ → Bool) (xs : List ℕ) → any (λ x. not (f x)) xs ≡ not (all f xs)
any-not f [] = refl
any-not f (x ∷ xs) = rw (any-not f xs) (go (f x))
  where
    go : (b : Bool) → (not b || not (all f xs)) ≡ not (b && all f xs)
    go true = refl
    go false = refl

-- where all are equal to x, none passes a test that x fails
none_passes : (f : ℕ → Bool) (x : ℕ) (xs : List ℕ) → f x ≡ false → all (eqb x) xs ≡ true → any f xs ≡ false
none_passes f x [] h a = refl
none_passes f x (y ∷ ys) h a =
    let e : x ≡ y = eqb-true x y (and_left (eqb x y) (all (eqb x) ys) a) in
    rw (← e, h) (none_passes f x ys h (and_right (eqb x y) (all (eqb x) ys) a))

-- The byte of a variable is 254 exactly where one of its values differs from another
byte_contested : (f : ℕ → Bool) (xs : List ℕ) → ((x : ℕ) → f x ≡ not (all (eqb x) xs)) → Small xs → eqb (goal_byte xs) contested ≡ any f xs
byte_contested f [] others s = refl
byte_contested f (x ∷ xs) others s = go (all (eqb x) xs) refl
  where
    first : (b : Bool) → all (eqb x) xs ≡ b → f x ≡ not b
    first b e = others x ∙ rw (eq-eqb x x refl, e)

    go : (b : Bool) → all (eqb x) xs ≡ b → eqb (cond b x contested) contested ≡ (f x || any f xs)
    go true e =
        rw (first true e, none_passes f x xs (first true e) e)
        (ne_eqb x contested (λ d. omega (arith, leb-true x max_value (and_left (leb x max_value) (all (λ y. leb y max_value) xs) s))))
    go false e = rw (first false e)

module _ (es : List Entry) (small : (v : ℕ) → Small (values_for v es)) where
  -- so it is exactly where two GOALs at work give the variable different values
  variable_contested : (v : ℕ) → eqb (goal_byte (values_for v es)) contested ≡ is_contested es v
  variable_contested v =
      byte_contested (λ x. any (gives_other v x) es) (values_for v es) (λ x. sym (any_given v (λ y. not (eqb x y)) es) ∙ any-not (eqb x) (values_for v es)) (small v)
      ∙ any_given v (λ x. any (gives_other v x) es) es

  lowest_from : (v n : ℕ) → lowest_contested v (tabulate (λ u. goal_byte (values_for u es)) v n) ≡ lowest_at_work es v n
  unfolding lowest_contested lowest_at_work
  lowest_from v zero = refl
  lowest_from v (suc n) = rw (variable_contested v, lowest_from (suc v) n)

  -- "comparing two runs includes this name"
  pub names_alike : (n : ℕ) → lowest_contested 0 (goal_bytes n es) ≡ lowest_at_work es 0 n
  unfolding goal_bytes
  names_alike n = lowest_from 0 n
