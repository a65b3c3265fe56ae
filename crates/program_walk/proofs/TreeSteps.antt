-- The steps over a tree: two for each part, and at each of them the depth that is kept is one more than the number of parts around.
use Prim.Native.Nat.{ℕ, zero, suc, ◌+◌, ◌-◌, ◌*◌, ◌≤◌, ◌<◌}
use native.Mathlib.Nat.{add-zero}
use native.Mathlib.Omega.{arith}
use mathlib.Core.Path.{◌≡◌, refl, sym, ap, ◌∙◌}
use mathlib.Core.Logic.{◌⊎◌, inl, inr}
use mathlib.Core.List.{List, [], ◌∷◌, ◌++◌, map, map-map, append_assoc}
use lib.ListN.{length, get_or, length-append, length-map, get_or-append}
use lib.Seq.{get_or-append-add}
use Rattle.base.specs.Lists.{sum, concat, flat}
use Rattle.base.proofs.Lists.{length-flat}
use Rattle.meaning.specs.Tree.{Part, kind, children, operand, size}
use Rattle.meaning.proofs.Trees.{All, part_ind, fold_law, map-all, all_of, size_law}
use Rattle.meaning.proofs.Nesting.{lower}
use Rattle.program_walk.specs.Steps.{Step, down, up, Tour, tour_parts, each_steps, tour_of, tour, around}

-- what holds of each element of a list
abbrev pub Each : {A : Type 0} → (A → Type 0) → List A → Type 0
Each P [] = Unit {0}
Each P (x ∷ xs) = P x × Each P xs

module _ {A : Type 0} where
  each_both : (P : A → Type 0) (xs ys : List A) → Each P xs → Each P ys → Each P (xs ++ ys)
  each_both P [] ys h k = k
  each_both P (x ∷ xs) ys h k = (h.0, each_both P xs ys h.1 k)

  pub each_left : (P : A → Type 0) (xs ys : List A) → Each P (xs ++ ys) → Each P xs
  each_left P [] ys h = tt
  each_left P (x ∷ xs) ys h = (h.0, each_left P xs ys h.1)

  each_so : (P Q : A → Type 0) → ((x : A) → P x → Q x) → (xs : List A) → Each P xs → Each Q xs
  each_so P Q f [] h = tt
  each_so P Q f (x ∷ xs) h = (f x h.0, each_so P Q f xs h.1)

-- a tour, from the tours of the children
tour_law : (t : Part) → tour t ≡ tour_of (kind t) (operand t) (map tour (children t))
unfolding tour
tour_law t = fold_law tour_of t

tour_parts_lem : (t : Part) → (tour t).parts ≡ size t
tour_parts_lem = part_ind (λ t. (tour t).parts ≡ size t) (λ t h. rw (tour_law t, size_law t, map-map tour_parts tour) (rw (map-all (λ q. (tour q).parts) size (children t) h)))

pub steps_law : (t : Part) (p d : ℕ) → (tour t).steps p d ≡ down p d ∷ (each_steps (suc p) (suc d) (map tour (children t)) ++ (up p d ∷ []))
steps_law t p d = ap (λ (x : Tour). x.steps p d) (tour_law t)

-- the first of several, and those after it
pub steps_each : (c : Part) (cs : List Part) (q d : ℕ) → each_steps q d (map tour (c ∷ cs)) ≡ (tour c).steps q d ++ each_steps (q + size c) d (map tour cs)
steps_each c cs q d = rw (tour_parts_lem c)

-- One step down and one step up for each part
Paired : Part → Type 0
Paired t = (p d : ℕ) → length ((tour t).steps p d) ≡ 2 * size t

each_paired : (cs : List Part) → All Paired cs → (q d : ℕ) → length (each_steps q d (map tour cs)) ≡ 2 * sum (map size cs)
unfolding Paired
each_paired [] h q d = omega arith
each_paired (c ∷ cs) h q d =
    rw (steps_each c cs q d) (omega (arith, length-append ((tour c).steps q d) (each_steps (q + size c) d (map tour cs)), h.0 q d, each_paired cs h.1 (q + size c) d))

pub steps_paired : (t : Part) (p d : ℕ) → length ((tour t).steps p d) ≡ 2 * size t
unfolding Paired
steps_paired = part_ind Paired step
  where
    step : (t : Part) → All Paired (children t) → Paired t
    step t h p d =
        let inner : List Step = each_steps (suc p) (suc d) (map tour (children t)) in
        rw (steps_law t p d) (omega (arith, length-append inner (up p d ∷ []), each_paired (children t) h (suc p) (suc d), size_law t))

-- How many parts stand around each part
around_law : (t : Part) → around t ≡ 0 ∷ map suc (flat around (children t))
unfolding around
around_law t = fold_law (λ k o ns. 0 ∷ map suc (concat ns)) t

around_each : (cs : List Part) → All (λ t. length (around t) ≡ size t) cs → length (flat around cs) ≡ sum (map size cs)
around_each cs h = length-flat around cs ∙ ap sum (map-all (λ t. length (around t)) size cs h)

around_length : (t : Part) → length (around t) ≡ size t
around_length = part_ind (λ t. length (around t) ≡ size t) (λ t h. rw (around_law t) (omega (arith, length-map (flat around (children t)) suc, around_each (children t) h, size_law t)))

around_lengths : (cs : List Part) → length (flat around cs) ≡ sum (map size cs)
around_lengths cs = around_each cs (all_of (λ t. length (around t) ≡ size t) around_length cs)

get_or_suc : (xs : List ℕ) (i : ℕ) → i < length xs → get_or (map suc xs) i 0 ≡ suc (get_or xs i 0)
get_or_suc [] i h = absurd (omega arith)
get_or_suc (x ∷ xs) zero h = refl
get_or_suc (x ∷ xs) (suc i) h = get_or_suc xs i (omega arith)

-- none around the root
pub around_root : (t : Part) → get_or (around t) 0 0 ≡ 0
around_root t = rw (around_law t)

-- one more around a part inside
pub around_inside : (t : Part) (i : ℕ) → i < sum (map size (children t)) → get_or (around t) (suc i) 0 ≡ suc (get_or (flat around (children t)) i 0)
around_inside t i h = rw (around_law t) (get_or_suc (flat around (children t)) i (rw (around_lengths (children t)) h))

-- and as many around a part inside one of several as there
pub around_first : (c : Part) (cs : List Part) (i : ℕ) → i < size c → get_or (flat around (c ∷ cs)) i 0 ≡ get_or (around c) i 0
around_first c cs i h = get_or-append (around c) (flat around cs) 0 i (rw (around_length c) h)

pub around_later : (c : Part) (cs : List Part) (i : ℕ) → get_or (flat around (c ∷ cs)) (size c + i) 0 ≡ get_or (flat around cs) i 0
around_later c cs i = rw (← around_length c) (get_or-append-add (around c) (flat around cs) i 0)

-- A step of n parts that stand from number p on, with these around them: the depth at each of them is d, and one more for each part around
pub record Kept (p d n : ℕ) (os : List ℕ) (m : Step) : Type 0 where
  pub from : p ≤ m.part
  pub before : m.part < p + n
  pub depth_is : m.kept ≡ d + get_or os (m.part - p) 0

Keeps : Part → Type 0
Keeps t = (p d : ℕ) → Each (Kept p d (size t) (around t)) ((tour t).steps p d)

kept_first : (c : Part) (cs : List Part) (q d : ℕ) (m : Step) → Kept q d (size c) (around c) m → Kept q d (size c + sum (map size cs)) (flat around (c ∷ cs)) m
kept_first c cs q d m k =
    record { from = k.from; before = omega (arith, k.before); depth_is = rw (around_first c cs (m.part - q) (omega (arith, k.from, k.before))) k.depth_is }

kept_later : (c : Part) (cs : List Part) (q d : ℕ) (m : Step) → Kept (q + size c) d (sum (map size cs)) (flat around cs) m → Kept q d (size c + sum (map size cs)) (flat around (c ∷ cs)) m
kept_later c cs q d m k =
    let i : m.part - q ≡ size c + (m.part - (q + size c)) = omega (arith, k.from) in
    record { from = omega (arith, k.from); before = omega (arith, k.before); depth_is = rw (i, around_later c cs (m.part - (q + size c))) k.depth_is }

kept_inside : (t : Part) (p d : ℕ) (m : Step) → Kept (suc p) (suc d) (sum (map size (children t))) (flat around (children t)) m → Kept p d (size t) (around t) m
kept_inside t p d m k =
    let i : m.part - p ≡ suc (m.part - suc p) = omega (arith, k.from) in
    let inside = around_inside t (m.part - suc p) (omega (arith, k.from, k.before)) in
    record { from = omega (arith, k.from); before = omega (arith, k.before, size_law t); depth_is = rw i (omega (arith, k.depth_is, inside)) }

kept_own : (t : Part) (p d : ℕ) (m : Step) → m.part ≡ p → m.kept ≡ d → Kept p d (size t) (around t) m
kept_own t p d m is depth =
    let i : m.part - p ≡ 0 = omega (arith, is) in
    record { from = omega (arith, is); before = omega (arith, is, size_law t); depth_is = rw i (omega (arith, depth, around_root t)) }

each_keeps : (cs : List Part) → All Keeps cs → (q d : ℕ) → Each (Kept q d (sum (map size cs)) (flat around cs)) (each_steps q d (map tour cs))
unfolding Keeps
each_keeps [] h q d = tt
each_keeps (c ∷ cs) h q d =
    rw (steps_each c cs q d)
    (each_both (Kept q d (size c + sum (map size cs)) (flat around (c ∷ cs))) ((tour c).steps q d) (each_steps (q + size c) d (map tour cs))
    (each_so (Kept q d (size c) (around c)) (Kept q d (size c + sum (map size cs)) (flat around (c ∷ cs))) (kept_first c cs q d) ((tour c).steps q d) (h.0 q d))
    (each_so (Kept (q + size c) d (sum (map size cs)) (flat around cs)) (Kept q d (size c + sum (map size cs)) (flat around (c ∷ cs))) (kept_later c cs q d) (each_steps (q + size c) d (map tour cs)) (each_keeps cs h.1 (q + size c) d)))

pub steps_kept : (t : Part) (p d : ℕ) → Each (Kept p d (size t) (around t)) ((tour t).steps p d)
unfolding Keeps
steps_kept = part_ind Keeps step
  where
    step : (t : Part) → All Keeps (children t) → Keeps t
    step t h p d =
        let inner : List Step = each_steps (suc p) (suc d) (map tour (children t)) in
        rw (steps_law t p d) (
          kept_own t p d (down p d) refl refl,
          each_both (Kept p d (size t) (around t)) inner (up p d ∷ [])
              (each_so (Kept (suc p) (suc d) (sum (map size (children t))) (flat around (children t))) (Kept p d (size t) (around t)) (kept_inside t p d) inner (each_keeps (children t) h (suc p) (suc d)))
              (kept_own t p d (up p d) refl refl, tt),
        )

-- a step is among others
pub record Among (m : Step) (ms : List Step) : Type 0 where
  pub front : List Step
  pub rest : List Step
  pub is : ms ≡ front ++ (m ∷ rest)

among_left : (m : Step) (xs ys : List Step) → Among m xs → Among m (xs ++ ys)
among_left m xs ys a = record { front = a.front; rest = a.rest ++ ys; is = ap (λ (zs : List Step). zs ++ ys) a.is ∙ append_assoc a.front (m ∷ a.rest) ys }

among_right : (m : Step) (xs ys : List Step) → Among m ys → Among m (xs ++ ys)
among_right m xs ys a = record { front = xs ++ a.front; rest = a.rest; is = ap (λ (zs : List Step). xs ++ zs) a.is ∙ sym (append_assoc xs a.front (m ∷ a.rest)) }

-- Each part is entered, at its depth
Enters : Part → Type 0
Enters t = (p d i : ℕ) → i < size t → Among (down (p + i) (d + get_or (around t) i 0)) ((tour t).steps p d)

each_enters : (cs : List Part) → All Enters cs → (q d i : ℕ) → i < sum (map size cs) → Among (down (q + i) (d + get_or (flat around cs) i 0)) (each_steps q d (map tour cs))
unfolding Enters
each_enters [] h q d i b = absurd (omega (arith, b))
each_enters (c ∷ cs) h q d i b =
    rw (steps_each c cs q d) (go (lower i (size c)) (λ l. each_enters cs h.1 (q + size c) d (i - size c) (omega (arith, b, l))))
  where
    at : List Step
    at = each_steps (q + size c) d (map tour cs)

    go : (i < size c) ⊎ (size c ≤ i) → (size c ≤ i → Among (down (q + size c + (i - size c)) (d + get_or (flat around cs) (i - size c) 0)) at) → Among (down (q + i) (d + get_or (flat around (c ∷ cs)) i 0)) ((tour c).steps q d ++ at)
    go (inl l) others = rw (around_first c cs i l) (among_left (down (q + i) (d + get_or (around c) i 0)) ((tour c).steps q d) at (h.0 q d i l))
    go (inr l) others =
        let place : q + i ≡ q + size c + (i - size c) = omega (arith, l) in
        let index : i ≡ size c + (i - size c) = omega (arith, l) in
        let same : get_or (flat around (c ∷ cs)) i 0 ≡ get_or (flat around cs) (i - size c) 0 = ap (λ (j : ℕ). get_or (flat around (c ∷ cs)) j 0) index ∙ around_later c cs (i - size c) in
        rw (place, same) (among_right (down (q + size c + (i - size c)) (d + get_or (flat around cs) (i - size c) 0)) ((tour c).steps q d) at (others l))

pub steps_enter : (t : Part) (p d i : ℕ) → i < size t → Among (down (p + i) (d + get_or (around t) i 0)) ((tour t).steps p d)
unfolding Enters
steps_enter = part_ind Enters step
  where
    step : (t : Part) → All Enters (children t) → Enters t
    step t h p d zero b = rw (steps_law t p d, around_root t, add-zero p, add-zero d) (record { front = []; rest = each_steps (suc p) (suc d) (map tour (children t)) ++ (up p d ∷ []); is = refl })
    step t h p d (suc i) b =
        let l : i < sum (map size (children t)) = omega (arith, b, size_law t) in
        let inner : List Step = each_steps (suc p) (suc d) (map tour (children t)) in
        let place : p + suc i ≡ suc p + i = omega arith in
        let depth : d + suc (get_or (flat around (children t)) i 0) ≡ suc d + get_or (flat around (children t)) i 0 = omega arith in
        let m : Step = down (suc p + i) (suc d + get_or (flat around (children t)) i 0) in
        rw (steps_law t p d, around_inside t i l, place, depth) (among_right m (down p d ∷ []) (inner ++ (up p d ∷ [])) (among_left m inner (up p d ∷ []) (each_enters (children t) h (suc p) (suc d) i l)))
