-- Laws on lists of numbers: the bytes from a place on, runs of stores that meet, and loops that store.
use Prim.Native.Nat.{ℕ, zero, suc, ◌+◌, ◌-◌, ◌<◌, ◌≤◌}
use mathlib.Core.Path.{◌≡◌, refl, sym, ap, ◌∙◌}
use mathlib.Core.Logic.{◌⊎◌, inl, inr}
use mathlib.Core.Bool.{Bool, true}
use mathlib.Core.List.{List, [], ◌∷◌, ◌++◌, map, append_assoc, append-nil}
use native.Mathlib.Nat.{zero-add, add-zero, add-suc, suc-add}
use native.Mathlib.Numerals.{add-one}
use native.Mathlib.Omega.{arith}
use native.Mathlib.Decide.{dec_lt}
use lib.ListN.{length, get_or, take, drop, set, replicate, length-replicate, length-append, length-drop, length-set, get_or-map}
use borrow.Rule.Slice.PartMut.{put_mid}
use lib.Seq.{sets, length-sets, drop-length, drop-cons, sets-eq, length-take-le, take_all, take_at, drop_at, set_out, get_or-set_same, get_or-set_other, drop-set-lt, set_comm, set-set, drop-drop, drop-append_seam, drop-append-add, get_or-drop}
use Rattle.base.specs.Lists.{sum, concat, all, bytes_at}

-- a run of stores, and then one that begins where it ends
pub sets-append : (l : List ℕ) (i j : ℕ) (xs ys : List ℕ) → i + length xs ≡ j → sets (sets l i xs) j ys ≡ sets l i (xs ++ ys)
sets-append l i j [] ys e = let k : j ≡ i = omega arith in rw k
sets-append l i j (x ∷ xs) ys e = sets-append (set l i x) (suc i) j xs ys (omega arith)

-- a store, and a run of stores, that come before a run that they do not meet, or after it
pub set_before : (l : List ℕ) (i j x : ℕ) (ys : List ℕ) → i < j → set (sets l j ys) i x ≡ sets (set l i x) j ys
set_before l i j x [] h = refl
set_before l i j x (y ∷ ys) h = set_before (set l j y) i (suc j) x ys (omega arith) ∙ rw (set_comm l i j x y (omega arith))

pub sets_swap : (l : List ℕ) (i j : ℕ) (xs ys : List ℕ) → i + length xs ≤ j → sets (sets l j ys) i xs ≡ sets (sets l i xs) j ys
sets_swap l i j [] ys h = refl
sets_swap l i j (x ∷ xs) ys h = rw (set_before l i j x ys (omega arith)) (sets_swap (set l i x) (suc i) j xs ys (omega arith))

-- a run of stores, and then one that ends where it begins
pub sets_before : (l : List ℕ) (i j : ℕ) (xs ys : List ℕ) → i + length xs ≡ j → sets (sets l j ys) i xs ≡ sets l i (xs ++ ys)
sets_before l i j [] ys e = let k : j ≡ i = omega arith in rw k
sets_before l i j (x ∷ xs) ys e = rw (set_before l i j x ys (omega arith)) (sets_before (set l i x) (suc i) j xs ys (omega arith))

-- a run of stores that begins beyond the end
pub sets_out : (l : List ℕ) (i : ℕ) (xs : List ℕ) → length l ≤ i → sets l i xs ≡ l
sets_out l i [] h = refl
sets_out l i (x ∷ xs) h = rw (set_out l i x h) (sets_out l (suc i) xs (omega arith))

-- a run of stores over an earlier one that is no longer
pub sets_cover : (l : List ℕ) (i : ℕ) (xs ys : List ℕ) → length xs ≤ length ys → sets (sets l i xs) i ys ≡ sets l i ys
sets_cover l i [] ys h = refl
sets_cover l i (x ∷ xs) [] h = absurd (omega arith)
sets_cover l i (x ∷ xs) (y ∷ ys) h = rw (set_before (set l i x) i (suc i) y xs (omega arith), set-set) (sets_cover (set l i y) (suc i) xs ys (omega arith))

-- a run of stores inside an earlier one
set_inside : (l : List ℕ) (i k y : ℕ) (xs : List ℕ) → k < length xs → set (sets l i xs) (i + k) y ≡ sets l i (set xs k y)
set_inside l i k y [] h = absurd (omega arith)
set_inside l i zero y (x ∷ xs) h = rw add-zero (set_before (set l i x) i (suc i) y xs (omega arith) ∙ rw (set-set l i x y))
set_inside l i (suc k) y (x ∷ xs) h = rw (add-suc, ← suc-add) (set_inside (set l i x) (suc i) k y xs (omega arith))

pub sets_inside : (l : List ℕ) (i k : ℕ) (xs ys : List ℕ) → k + length ys ≤ length xs → sets (sets l i xs) (i + k) ys ≡ sets l i (sets xs k ys)
sets_inside l i k xs [] h = refl
sets_inside l i k xs (y ∷ ys) h = rw (set_inside l i k y xs (omega arith), ← add-suc) (sets_inside l i (suc k) (set xs k y) ys (rw length-set (omega arith)))

pub length_bytes : (s : List ℕ) (k n : ℕ) → length (bytes_at s k n) ≡ n
length_bytes s k zero = refl
length_bytes s k (suc n) = ap suc (length_bytes s (suc k) n)

pub get_or_bytes : (s : List ℕ) (k n j : ℕ) → j < n → get_or (bytes_at s k n) j 0 ≡ get_or s (k + j) 0
get_or_bytes s k zero j h = absurd (omega arith)
get_or_bytes s k (suc n) zero h = rw add-zero
get_or_bytes s k (suc n) (suc j) h = get_or_bytes s (suc k) n j (omega arith) ∙ rw (suc-add, add-suc)

-- bytes that are the same one by one
pub bytes_same : (r s : List ℕ) (i n : ℕ) → ((j : ℕ) → i ≤ j → j < i + n → get_or s j 0 ≡ get_or r j 0) → bytes_at s i n ≡ bytes_at r i n
bytes_same r s i zero h = refl
bytes_same r s i (suc n) h = rw (h i (omega arith) (omega arith), bytes_same r s (suc i) n (λ j a b. h j (omega arith) (omega arith)))

-- where a list goes on with xs from place k on, those are its bytes there, and it goes on after them
pub drop_front : (s xs ys : List ℕ) (k : ℕ) → drop k s ≡ xs ++ ys → drop (k + length xs) s ≡ ys
drop_front s xs ys k e = sym (drop-drop (length xs) k s) ∙ rw e (drop-append_seam xs ys)

pub bytes_front : (s xs ys : List ℕ) (k : ℕ) → drop k s ≡ xs ++ ys → bytes_at s k (length xs) ≡ xs
bytes_front s [] ys k e = refl
bytes_front s (x ∷ xs) ys k e =
    let h : get_or s k 0 ≡ x = ap (λ (i : ℕ). get_or s i 0) (sym (add-zero k)) ∙ sym (get_or-drop k s 0 0) ∙ rw e in
    let t : drop (suc k) s ≡ xs ++ ys = ap (λ (i : ℕ). drop i s) (sym (add-one k)) ∙ drop_front s (x ∷ []) (xs ++ ys) k e in
    rw (h, bytes_front s xs ys (suc k) t)

pub bytes_all : (s : List ℕ) → bytes_at s 0 (length s) ≡ s
bytes_all s = bytes_front s s [] 0 (sym (append-nil s))

pub drop_bytes : (s : List ℕ) (k n : ℕ) → k + n ≤ length s → drop k s ≡ bytes_at s k n ++ drop (k + n) s
drop_bytes s k zero h = rw add-zero
drop_bytes s k (suc n) h = drop-cons s k 0 (omega arith) ∙ rw (add-suc, ← suc-add) (ap (λ (r : List ℕ). get_or s k 0 ∷ r) (drop_bytes s (suc k) n (omega arith)))

-- bytes one after the other
pub bytes_append : (s : List ℕ) (i a b : ℕ) → bytes_at s i (a + b) ≡ bytes_at s i a ++ bytes_at s (i + a) b
bytes_append s i zero b = rw (zero-add, add-zero)
bytes_append s i (suc a) b = rw (suc-add, bytes_append s (suc i) a b, suc-add, ← add-suc)

-- bytes stored up to the end or beyond: more of them change nothing
pub sets_bytes_cut : (l s : List ℕ) (i j k n : ℕ) → length l ≤ j + k → k ≤ n → sets l j (bytes_at s i k) ≡ sets l j (bytes_at s i n)
sets_bytes_cut l s i j k n h g =
    let whole : k + (n - k) ≡ n = omega arith in
    sym (sets_out (sets l j (bytes_at s i k)) (j + k) (bytes_at s (i + k) (n - k)) (rw length-sets h))
    ∙ sets-append l j (j + k) (bytes_at s i k) (bytes_at s (i + k) (n - k)) (rw length_bytes)
    ∙ rw (← bytes_append, whole)

-- a test that each of them passes
pub all_bytes : (f : ℕ → Bool) (s : List ℕ) (i n : ℕ) → ((j : ℕ) → j < n → f (get_or s (i + j) 0) ≡ true) → all f (bytes_at s i n) ≡ true
all_bytes f s i zero h = refl
all_bytes f s i (suc n) h =
    let first : f (get_or s i 0) ≡ true = rw add-zero at (h 0 (omega arith)) in
    rw (first, all_bytes f s (suc i) n (λ j l. rw (suc-add, ← (add-suc i j)) (h (suc j) (omega arith)))) refl

-- so many bytes taken from a place on
pub take_bytes : (s : List ℕ) (k n : ℕ) → k + n ≤ length s → take n (drop k s) ≡ bytes_at s k n
take_bytes s k n h = rw (drop_bytes s k n h) (take_at (bytes_at s k n) (drop (k + n) s) n (length_bytes s k n))

-- all that there are from a place on
pub take_rest : (s : List ℕ) (k : ℕ) → take (length s - k) (drop k s) ≡ drop k s
take_rest s k = take_all (length s - k) (drop k s) (rw length-drop (omega arith))

-- a run of stores that begins a list
pub sets_start : (l xs : List ℕ) → length xs ≤ length l → sets l 0 xs ≡ xs ++ drop (length xs) l
sets_start l xs h = rw zero-add at (sets-eq xs l 0 (rw zero-add h))

-- a part of a list overwritten with as many bytes as it had, n of them
pub part_stored : (l xs : List ℕ) (i n : ℕ) → length xs ≡ n → i + n ≤ length l → put_mid i (i + n - i) l xs ≡ sets l i xs
part_stored l xs i n e h =
    let k : i + n - i ≡ length xs = omega arith in
    rw (k, drop-drop) (sym (sets-eq xs l i (omega arith) ∙ append_assoc (take i l) xs (drop (i + length xs) l)))

pub part_copied : (l m s : List ℕ) (i k n : ℕ) → k + n ≤ length s → i + n ≤ length l → m ≡ take (k + n - k) (drop k s) → put_mid i (i + n - i) l m ≡ sets l i (bytes_at s k n)
part_copied l m s i k n r w e =
    let c : k + n - k ≡ n = omega arith in
    let b : m ≡ bytes_at s k n = e ∙ rw (c, take_bytes s k n r) in
    rw b (part_stored l (bytes_at s k n) i n (length_bytes s k n) w)

pub part_filled : (l m : List ℕ) (i n b : ℕ) → i + n ≤ length l → m ≡ replicate (length (take (i + n - i) (drop i l))) b → put_mid i (i + n - i) l m ≡ sets l i (replicate n b)
part_filled l m i n b w e =
    let c : length (take (i + n - i) (drop i l)) ≡ n = length-take-le (i + n - i) (drop i l) (rw length-drop (omega arith)) ∙ omega arith in
    let r : m ≡ replicate n b = e ∙ rw c in
    rw r (part_stored l (replicate n b) i n (length-replicate n b) w)

-- what a run of stores leaves alone, and what stands where it was
pub get_or-sets_out : (xs l : List ℕ) (i j : ℕ) → (j < i) ⊎ (i + length xs ≤ j) → get_or (sets l i xs) j 0 ≡ get_or l j 0
get_or-sets_out [] l i j h = refl
get_or-sets_out (x ∷ xs) l i j (inl h) = get_or-sets_out xs (set l i x) (suc i) j (inl (omega arith)) ∙ get_or-set_other l i j x 0 (λ e. omega (arith, e))
get_or-sets_out (x ∷ xs) l i j (inr h) = get_or-sets_out xs (set l i x) (suc i) j (inr (omega arith)) ∙ get_or-set_other l i j x 0 (λ e. omega (arith, e))

pub get_or-sets_in : (l : List ℕ) (i k : ℕ) (vs : List ℕ) → k < length vs → i + k < length l → get_or (sets l i vs) (i + k) 0 ≡ get_or vs k 0
get_or-sets_in l i k [] a b = absurd (omega arith)
get_or-sets_in l i zero (v ∷ vs) a b = rw add-zero (get_or-sets_out vs (set l i v) (suc i) i (inl (omega arith)) ∙ get_or-set_same l i v 0 (omega arith))
get_or-sets_in l i (suc k) (v ∷ vs) a b = rw (add-suc, ← suc-add) (get_or-sets_in (set l i v) (suc i) k vs (omega arith) (rw length-set (omega arith)))

-- what a run of stores left where it was, stored at no lower a place of a list that is no longer, is the whole run: what
-- the one has no room for, the other has none for either
pub sets_again : (l s : List ℕ) (i j : ℕ) (xs : List ℕ) → i ≤ j → length l ≤ length s → sets l j (bytes_at (sets s i xs) i (length xs)) ≡ sets l j xs
sets_again l s i j [] h k = refl
sets_again l s i j (x ∷ xs) h k =
    ap (λ (m : List ℕ). sets m (suc j) (bytes_at (sets (set s i x) (suc i) xs) (suc i) (length xs))) (first (dec_lt i (length s)))
    ∙ sets_again (set l j x) (set s i x) (suc i) (suc j) xs (omega arith) (simp length-set k)
  where
    first : Dec (i < length s) → set l j (get_or (sets (set s i x) (suc i) xs) i 0) ≡ set l j x
    first (yes p) = rw (get_or-sets_out xs (set s i x) (suc i) i (inl (omega arith)), get_or-set_same s i x 0 p)
    first (no q) =
        let out : length l ≤ j = omega (arith, q) in
        set_out l j (get_or (sets (set s i x) (suc i) xs) i 0) out ∙ sym (set_out l j x out)

pub bytes_sets_out : (xs l : List ℕ) (i j n : ℕ) → (j + n ≤ i) ⊎ (i + length xs ≤ j) → bytes_at (sets l i xs) j n ≡ bytes_at l j n
bytes_sets_out xs l i j zero h = refl
bytes_sets_out xs l i j (suc n) (inl h) = rw (get_or-sets_out xs l i j (inl (omega arith)), bytes_sets_out xs l i (suc j) n (inl (omega arith)))
bytes_sets_out xs l i j (suc n) (inr h) = rw (get_or-sets_out xs l i j (inr h), bytes_sets_out xs l i (suc j) n (inr (omega arith)))

pub drop-sets : (xs l : List ℕ) (i : ℕ) → i + length xs ≤ length l → drop i (sets l i xs) ≡ xs ++ drop (i + length xs) l
drop-sets xs l i h = rw (sets-eq xs l i h, append_assoc) (drop_at (take i l) (xs ++ drop (i + length xs) l) i (length-take-le i l (omega arith)))

pub drop-sets_out : (xs l : List ℕ) (i j : ℕ) → i + length xs ≤ j → drop j (sets l i xs) ≡ drop j l
drop-sets_out [] l i j h = refl
drop-sets_out (x ∷ xs) l i j h = drop-sets_out xs (set l i x) (suc i) j (omega arith) ∙ drop-set-lt j l i x (omega arith)

pub bytes_sets : (xs l : List ℕ) (i n : ℕ) → length xs ≡ n → i + n ≤ length l → bytes_at (sets l i xs) i n ≡ xs
bytes_sets xs l i n e h = rw (← e) (bytes_front (sets l i xs) xs (drop (i + length xs) l) i (drop-sets xs l i (rw e h)))

-- a run of stores over a list's beginning, as long as that
sets_over : (xs ys zs : List ℕ) → length ys ≡ length xs → sets (xs ++ zs) 0 ys ≡ ys ++ zs
sets_over xs ys zs e = sets_start (xs ++ zs) ys (rw (length-append, e) (omega arith)) ∙ rw (e, drop-append_seam)

-- a store, and a run of stores, past a list's beginning
set_past : (xs zs : List ℕ) (k y : ℕ) → set (xs ++ zs) (length xs + k) y ≡ xs ++ set zs k y
set_past [] zs k y = rw zero-add
set_past (x ∷ xs) zs k y = rw (suc-add, set_past xs zs k y)

pub sets_past : (xs zs : List ℕ) (k : ℕ) (ys : List ℕ) → sets (xs ++ zs) (length xs + k) ys ≡ xs ++ sets zs k ys
sets_past xs zs k [] = refl
sets_past xs zs k (y ∷ ys) = rw (set_past xs zs k y, ← add-suc) (sets_past xs (set zs k y) (suc k) ys)

drop_join_at : (ps : List (List ℕ)) (i : ℕ) → drop (sum (take i (map length ps))) (concat ps) ≡ concat (drop i ps)
drop_join_at ps zero = refl
drop_join_at [] (suc i) = refl
drop_join_at (p ∷ ps) (suc i) = drop-append-add p (concat ps) (sum (take i (map length ps))) ∙ drop_join_at ps i

join_at : (ps : List (List ℕ)) (i : ℕ) → concat (drop i ps) ≡ get_or ps i [] ++ concat (drop (suc i) ps)
join_at [] zero = refl
join_at [] (suc i) = refl
join_at (p ∷ ps) zero = refl
join_at (p ∷ ps) (suc i) = join_at ps i

sets_join_at : (ps : List (List ℕ)) (i : ℕ) (ys : List ℕ) → length ys ≡ get_or (map length ps) i 0 → sets (concat ps) (sum (take i (map length ps))) ys ≡ concat (set ps i ys)
sets_join_at [] i [] e = refl
sets_join_at [] i (y ∷ ys) e = absurd (omega arith)
sets_join_at (p ∷ ps) zero ys e = sets_over p ys (concat ps) e
sets_join_at (p ∷ ps) (suc i) ys e = sets_past p (concat ps) (sum (take i (map length ps))) ys ∙ rw (sets_join_at ps i ys e)

-- Lists one after the other, of known lengths: where list i begins, what is read and what is written there
module _ (ps : List (List ℕ)) (ws : List ℕ) (wide : map length ps ≡ ws) (i k : ℕ) (at : sum (take i ws) ≡ k) where
  pub drop_join : drop k (concat ps) ≡ concat (drop i ps)
  drop_join = rw (← at, ← wide) (drop_join_at ps i)

  pub sets_join : (ys : List ℕ) → length ys ≡ get_or ws i 0 → sets (concat ps) k ys ≡ concat (set ps i ys)
  sets_join ys e = rw (← at, ← wide) (sets_join_at ps i ys (rw wide e))

  pub bytes_join : (n : ℕ) → get_or ws i 0 ≡ n → bytes_at (concat ps) k n ≡ get_or ps i []
  bytes_join n e =
      let l : length (get_or ps i []) ≡ n = sym (get_or-map length ps i []) ∙ rw wide e in
      rw (← l) (bytes_front (concat ps) (get_or ps i []) (concat (drop (suc i) ps)) k (drop_join ∙ join_at ps i))

-- A loop that stores `turn p` at its turn p, from place to place: `rest p n` is what n turns from p on store.
module _ (turn : ℕ → List ℕ) (rest : ℕ → ℕ → List ℕ) (more : (p n : ℕ) → rest p (suc n) ≡ turn p ++ rest (suc p) n) where
  pub stores_step : (l m w : List ℕ) (i j p e : ℕ) → p < e → m ≡ sets l i (turn p) → i + length (turn p) ≡ j → sets l i (rest p (e - p)) ≡ w → sets m j (rest (p + 1) (e - (p + 1))) ≡ w
  stores_step l m w i j p e h t a inv =
      let k : e - p ≡ suc (e - (p + 1)) = omega arith in
      rw (t, add-one) (sets-append l i j (turn p) (rest (suc p) (e - suc p)) a ∙ rw (← (more p (e - suc p))) (rw (k, add-one) at inv))

  pub stores_end : (l w : List ℕ) (i p e : ℕ) → rest p 0 ≡ [] → e ≤ p → sets l i (rest p (e - p)) ≡ w → l ≡ w
  stores_end l w i p e none h inv =
      let k : e - p ≡ 0 = omega arith in
      rw (k, none) at inv

-- Bytes copied one by one: those from the j-th on, stored onto what is there now, give the whole
bytes_more : (s : List ℕ) (k j n : ℕ) → bytes_at s (k + j) (suc n) ≡ (get_or s (k + j) 0 ∷ []) ++ bytes_at s (k + suc j) n
bytes_more s k j n = rw (add-suc k j)

pub record Copying (s : List ℕ) (k : ℕ) (l₀ : List ℕ) (i n : ℕ) (l : List ℕ) (j : ℕ) : Type 0 where
  pub as_long : length l ≡ length l₀
  pub left : sets l (i + j) (bytes_at s (k + j) (n - j)) ≡ sets l₀ i (bytes_at s k n)

module _ (s : List ℕ) (k : ℕ) (l₀ : List ℕ) (i n : ℕ) where
  module _ (l : List ℕ) (j : ℕ) (copying : Copying s k l₀ i n l j) where
    pub copy_step : (m : List ℕ) (b : ℕ) → j < n → b ≡ get_or s (k + j) 0 → m ≡ set l (i + j) b → length m ≡ length l → Copying s k l₀ i n m (j + 1)
    copy_step m b h b-is m-is kept =
        record {
          as_long = kept ∙ copying.as_long;
          left = stores_step (λ x. get_or s (k + x) 0 ∷ []) (λ x y. bytes_at s (k + x) y) (bytes_more s k) l m _ (i + j) (i + (j + 1)) j n h (rw (m-is, b-is)) (omega arith) copying.left;
        }

-- A list stored over one that is as long is all that is left
pub copied_over : (s l₀ l : List ℕ) (j : ℕ) → Copying s 0 l₀ 0 (length s) l j → length s ≤ j → length s ≡ length l₀ → l ≡ s
copied_over s l₀ l j copying h e =
    stores_end (λ x. get_or s (0 + x) 0 ∷ []) (λ x y. bytes_at s (0 + x) y) (bytes_more s 0) l _ (0 + j) j (length s) refl h copying.left
    ∙ rw (bytes_all s) (sets_start l₀ s (omega (arith, e)) ∙ rw (e, drop-length) (append-nil _))
