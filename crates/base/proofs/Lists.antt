-- Laws of the plain functions on lists.
use Prim.Native.Nat.{ℕ, zero, suc, ◌+◌, ◌*◌, ◌≤◌, ◌<◌}
use native.Mathlib.Nat.{add-zero, suc-add, add-suc, not-suc-le-zero, le_of_suc-le-suc}
use native.Mathlib.Omega.{arith}
use mathlib.Core.Path.{◌≡◌, refl, sym, ◌∙◌}
use mathlib.Core.Bool.{Bool, true, false, cond, ◌&&◌, and-eq-true_iff, and_assoc}
use mathlib.Core.List.{List, [], ◌∷◌, ◌++◌, map, append_assoc}
use lib.Dec.{eqb, leb}
use lib.ListN.{length, get_or, replicate, length-append, get_or-append}
use lib.Seq.{get_or-append-add}
use borrow.Author.Tests.{leb-true, eqb-true, eq-eqb, ne_eqb}
use Rattle.std.specs.Cmp.Lexicographic.{pointwise}
use Rattle.base.specs.Lists.{sum, flat, all, same, first_failing, tabulate}

-- both of two tests that pass together
pub and_left : (a b : Bool) → (a && b) ≡ true → a ≡ true
and_left a b h = ((and-eq-true_iff a b).0 h).0

pub and_right : (a b : Bool) → (a && b) ≡ true → b ≡ true
and_right a b h = ((and-eq-true_iff a b).0 h).1

-- two tests that pass together or not at all
pub both_true : (a b : Bool) → (a ≡ true → b ≡ true) → (b ≡ true → a ≡ true) → a ≡ b
both_true true b f g = sym (f refl)
both_true false true f g = g refl
both_true false false f g = refl

-- a function of one of two, what holds of one of two, and one of two that are the same
pub cond_map : {A B : Type 0} (f : A → B) (b : Bool) (x y : A) → f (cond b x y) ≡ cond b (f x) (f y)
cond_map f true x y = refl
cond_map f false x y = refl

pub cond_cases : {A : Type 0} (P : A → Type 0) (b : Bool) (x y : A) → (b ≡ true → P x) → (b ≡ false → P y) → P (cond b x y)
cond_cases P true x y f g = f refl
cond_cases P false x y f g = g refl

pub cond_same : {A : Type 0} (b : Bool) (x : A) → cond b x x ≡ x
cond_same true x = refl
cond_same false x = refl

-- a test that all of two lists pass
pub all_append : {A : Type 0} (t : A → Bool) (xs ys : List A) → all t (xs ++ ys) ≡ (all t xs && all t ys)
all_append t [] ys = refl
all_append t (x ∷ xs) ys = rw (all_append t xs ys, and_assoc)

module _ {A B : Type 0} (f : A → List B) where
  -- the pieces of two lists one after the other
  pub flat_append : (xs ys : List A) → flat f (xs ++ ys) ≡ flat f xs ++ flat f ys
  flat_append [] ys = refl
  flat_append (x ∷ xs) ys = rw (flat_append xs ys, append_assoc)

  -- the pieces together are as long as their lengths together
  pub length-flat : (xs : List A) → length (flat f xs) ≡ sum (map (λ x. length (f x)) xs)
  length-flat [] = refl
  length-flat (x ∷ xs) = rw (length-append, length-flat xs)

  module _ (w : ℕ) (same_width_lem : (x : A) → length (f x) ≡ w) where
    -- pieces of one width together are as long as that width times their number
    pub length_pieces : (xs : List A) → length (flat f xs) ≡ w * length xs
    length_pieces [] = omega arith
    length_pieces (x ∷ xs) = rw (length-append, same_width_lem x, length_pieces xs) (omega arith)

    -- where element j of piece i stands among pieces of one width
    pub piece_at : (xs : List A) (i j : ℕ) (d : A) (z : B) → i < length xs → j < w → get_or (flat f xs) (w * i + j) z ≡ get_or (f (get_or xs i d)) j z
    piece_at [] i j d z h k = absurd (not-suc-le-zero h)
    piece_at (x ∷ xs) zero j d z h k =
        let e : w * 0 + j ≡ j = omega arith in
        rw (e, get_or-append (f x) (flat f xs) z j (rw (same_width_lem x) k))
    piece_at (x ∷ xs) (suc i) j d z h k =
        let e : w * suc i + j ≡ length (f x) + (w * i + j) = rw (same_width_lem x) (omega arith) in
        rw (e, get_or-append-add) (piece_at xs i j d z (le_of_suc-le-suc h) k)

-- two lists that `same` finds the same
pub same_eq : (xs ys : List ℕ) → same xs ys ≡ true → xs ≡ ys
same_eq [] [] h = refl
same_eq [] (y ∷ ys) h = cc
same_eq (x ∷ xs) [] h = cc
same_eq (x ∷ xs) (y ∷ ys) h = rw (eqb-true x y (and_left (eqb x y) (same xs ys) h), same_eq xs ys (and_right (eqb x y) (same xs ys) h))

pub same_refl : (xs : List ℕ) → same xs xs ≡ true
same_refl [] = refl
same_refl (x ∷ xs) = rw (eq-eqb x x refl) (same_refl xs)

-- what `==` answers at two slices
pub pointwise_same : (xs ys : List ℕ) → pointwise eqb xs ys ≡ same xs ys
pointwise_same [] [] = refl
pointwise_same [] (y ∷ ys) = refl
pointwise_same (x ∷ xs) [] = refl
pointwise_same (x ∷ xs) (y ∷ ys) = rw (pointwise_same xs ys)

pub same-append : (xs ys us vs : List ℕ) → length xs ≡ length us → same (xs ++ ys) (us ++ vs) ≡ (same xs us && same ys vs)
same-append [] ys [] vs e = refl
same-append [] ys (u ∷ us) vs e = absurd (omega arith)
same-append (x ∷ xs) ys [] vs e = absurd (omega arith)
same-append (x ∷ xs) ys (u ∷ us) vs e = rw (same-append xs ys us vs (omega arith), and_assoc (eqb x u) (same xs us) (same ys vs))

-- tests that all pass
abbrev pub Passed : List (ℕ × Bool) → Type 0
Passed [] = Unit {0}
Passed (t ∷ ts) = (t.1 ≡ true) × Passed ts

-- none fails, where each has a number other than 0 and the first failing has number 0
pub none_fails : (ts : List (ℕ × Bool)) → all (λ t. leb 1 t.0) ts ≡ true → first_failing ts ≡ 0 → Passed ts
none_fails [] n h = tt
none_fails (t ∷ ts) n h =
    first_passes t.1 refl (leb-true 1 t.0 (and_left (leb 1 t.0) (all (λ t. leb 1 t.0) ts) n)) (none_fails ts (and_right (leb 1 t.0) (all (λ t. leb 1 t.0) ts) n)) h
  where
    first_passes : (b : Bool) → t.1 ≡ b → 1 ≤ t.0 → (first_failing ts ≡ 0 → Passed ts) → cond b (first_failing ts) t.0 ≡ 0 → (t.1 ≡ true) × Passed ts
    first_passes true e l ih z = (e, ih z)
    first_passes false e l ih z = absurd (omega arith)

pub passed : (ts : List (ℕ × Bool)) → Passed ts → first_failing ts ≡ 0
passed [] h = refl
passed (t ∷ ts) h = rw h.0 (passed ts h.1)

-- tests in two lists: those of the second decide where none of the first fails
pub fails_append : (xs ys : List (ℕ × Bool)) → all (λ t. leb 1 t.0) xs ≡ true → first_failing (xs ++ ys) ≡ cond (eqb (first_failing xs) 0) (first_failing ys) (first_failing xs)
fails_append [] ys n = refl
fails_append (x ∷ xs) ys n =
    first_decides x.1 (leb-true 1 x.0 (and_left (leb 1 x.0) (all (λ t. leb 1 t.0) xs) n)) (fails_append xs ys (and_right (leb 1 x.0) (all (λ t. leb 1 t.0) xs) n))
  where
    first_decides : (b : Bool) → 1 ≤ x.0 → first_failing (xs ++ ys) ≡ cond (eqb (first_failing xs) 0) (first_failing ys) (first_failing xs)
        → cond b (first_failing (xs ++ ys)) x.0 ≡ cond (eqb (cond b (first_failing xs) x.0) 0) (first_failing ys) (cond b (first_failing xs) x.0)
    first_decides true l rest = rest
    first_decides false l rest = rw (ne_eqb x.0 0 (λ z. omega (arith, z)))

-- a test that each of n equal elements passes
pub all_replicate : {A : Type 0} (t : A → Bool) (n : ℕ) (x : A) → t x ≡ true → all t (replicate n x) ≡ true
all_replicate t zero x h = refl
all_replicate t (suc n) x h = rw h (all_replicate t n x h)

-- the elements of a list made by a function, how many there are, and a test that they all pass
module _ {A : Type 0} (f : ℕ → A) where
  pub length-tabulate : (i n : ℕ) → length (tabulate f i n) ≡ n
  length-tabulate i zero = refl
  length-tabulate i (suc n) = rw (length-tabulate (suc i) n)

  pub get_or-tabulate : (i n c : ℕ) (d : A) → c < n → get_or (tabulate f i n) c d ≡ f (i + c)
  get_or-tabulate i zero c d h = absurd (not-suc-le-zero h)
  get_or-tabulate i (suc n) zero d h = rw add-zero
  get_or-tabulate i (suc n) (suc c) d h = get_or-tabulate (suc i) n c d (le_of_suc-le-suc h) ∙ rw (suc-add, add-suc)

  pub tabulate-same : (g : ℕ → A) (i n : ℕ) → ((c : ℕ) → i ≤ c → c < i + n → f c ≡ g c) → tabulate f i n ≡ tabulate g i n
  tabulate-same g i zero h = refl
  tabulate-same g i (suc n) h = rw (h i (omega arith) (omega arith), tabulate-same g (suc i) n (λ c a b. h c (omega arith) (omega arith)))

  pub all-tabulate : (t : A → Bool) (i n : ℕ) → ((c : ℕ) → c < n → t (f (i + c)) ≡ true) → all t (tabulate f i n) ≡ true
  all-tabulate t i zero h = refl
  all-tabulate t i (suc n) h =
      let first : t (f i) ≡ true = rw add-zero at (h 0 (omega arith)) in
      rw first (all-tabulate t (suc i) n (λ c l. rw (suc-add, ← add-suc) (h (suc c) (omega arith))))

  pub each_tabulated : (t : A → Bool) (i n : ℕ) → all t (tabulate f i n) ≡ true → (c : ℕ) → c < n → t (f (i + c)) ≡ true
  each_tabulated t i zero h c l = absurd (not-suc-le-zero l)
  each_tabulated t i (suc n) h zero l = rw add-zero (and_left (t (f i)) (all t (tabulate f (suc i) n)) h)
  each_tabulated t i (suc n) h (suc c) l = rw (add-suc, ← suc-add) (each_tabulated t (suc i) n (and_right (t (f i)) (all t (tabulate f (suc i) n)) h) c (le_of_suc-le-suc l))

-- where a test fails of some, it fails of one; where it passes of all, it passes of each
pub fails_of_one : (f : ℕ → Bool) (xs : List ℕ) → all f xs ≡ false → (i : ℕ) × (i < length xs) × (f (get_or xs i 0) ≡ false)
fails_of_one f [] h = let z : ◌≡◌ {A = ℕ} 0 1 = cc in (0, omega arith, cc)
fails_of_one f (x ∷ xs) h = go (f x) refl (λ t. fails_of_one f xs t)
  where
    go : (b : Bool) → f x ≡ b → (all f xs ≡ false → (i : ℕ) × (i < length xs) × (f (get_or xs i 0) ≡ false)) → (i : ℕ) × (i < suc (length xs)) × (f (get_or (x ∷ xs) i 0) ≡ false)
    go false e later = (0, omega arith, e)
    go true e later =
        let rest : (i : ℕ) × (i < length xs) × (f (get_or xs i 0) ≡ false) = later (rw e at h) in
        (suc rest.0, omega (arith, rest.1), rest.2)

-- a test that all elements of a list pass, each passes
pub each_passes : {A : Type 0} (f : A → Bool) (xs : List A) (d : A) → all f xs ≡ true → (i : ℕ) → i < length xs → f (get_or xs i d) ≡ true
each_passes f [] d h i l = absurd (omega arith)
each_passes f (x ∷ xs) d h zero l = and_left (f x) (all f xs) h
each_passes f (x ∷ xs) d h (suc i) l = each_passes f xs d (and_right (f x) (all f xs) h) i (omega arith)

-- where all others are equal to the first, each of them is
pub all_first : (x : ℕ) (xs : List ℕ) → all (eqb x) xs ≡ true → (i : ℕ) → i < length (x ∷ xs) → get_or (x ∷ xs) i 0 ≡ x
all_first x xs h zero l = refl
all_first x xs h (suc i) l = sym (eqb-true x (get_or xs i 0) (each_passes (eqb x) xs 0 h i (omega arith)))
