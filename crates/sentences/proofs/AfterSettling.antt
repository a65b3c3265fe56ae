-- Which parts are marked after a settling: those that were marked and did not end, and those that were initialised.
use Prim.Native.Nat.{ℕ, zero, suc, ◌+◌, ◌-◌, ◌≤◌, ◌<◌}
use native.Mathlib.Nat.{zero-add, add-zero, eq-or-lt_of_le, eq-zero-or-pos, sub-zero}
use native.Mathlib.Omega.{arith}
use mathlib.Core.Path.{◌≡◌, refl, sym, ap, ◌∙◌, subst}
use mathlib.Core.Logic.{◌↔◌, ◌⊎◌, inl, inr, ⊎_map}
use mathlib.Core.Bool.{Bool, true, false, not, false≢true}
use mathlib.Core.List.{List, [], ◌∷◌}
use lib.Dec.{eqb}
use lib.ListN.{length, get_or, take, drop, length-drop}
use lib.Seq.{length-sets, get_or-take}
use borrow.Author.Tests.{eqb-true, eqb-false, eq-eqb}
use Rattle.base.proofs.Lists.{and_left, and_right}
use Rattle.base.proofs.Stores.{get_or-sets_in, get_or-sets_out}
use Rattle.meaning.specs.Sizes.{no_part}
use Rattle.meaning.specs.Tree.{Part, goal, start, wait, seq, par, maintain, choice, repeat}
use Rattle.meaning.specs.Program.{parts}
use Rattle.meaning.specs.Table.{end_at, parent_at, next_at, inside_of, is_table}
use Rattle.meaning.specs.Conditions.{Situation}
use Rattle.meaning.specs.Record.{is_mark, marked_children, children_allowed, part_allowed, parts_allowed}
use Rattle.meaning.specs.declared.Transition.{Transition}
use Rattle.meaning.specs.declared.Transition.TheVariants.{Stays, Ends, First, Second}
use Rattle.meaning.specs.Cycle.{initial_marks, initialised, settled_from}
use Rattle.sentences.specs.Marks.{Marked}
use Rattle.sentences.specs.Stepping.{BegunWith, StaysMarked, child_taken, Initialises, MarkedBy, MarkedInside}
use Rattle.meaning.proofs.Decisions.{decides}
use Rattle.meaning.proofs.Tables.{Later, LinksInside, inside}
use Rattle.meaning.proofs.Records.{length_initial, length_settled}
use Rattle.meaning.proofs.Lies.{Lies, own_kind, own_inside}
use Rattle.meaning.proofs.Nesting.{lower, at, root_next, inside_root, nested}
use Rattle.sentences.proofs.Followers.{Followed, next_nested}
use Rattle.sentences.proofs.Initialised.{begun_within, initialised_begun}
use Rattle.sentences.proofs.Settlings.{later, inside_before, inside_after, transition_at, ends_at, Undeciding, marked_length, any_at, any_found, after_part, inside_marked, ends_marked, empty_deciding, composite_ends, decides_deciding, deciding_stays, unmarked_unjudged, end_no_next, end_next, deciding_takes, stays, takes_inside, kept_own}

-- marks from part p on in which part x is initialised: of part n
module _ (t l : List ℕ) (p x n : ℕ) (a : p ≤ n) (b : p ≤ x) (c : x < end_at t x) where
  begun_in : x ≤ n → n < end_at t x → n - p < length l → get_or (initialised t p x l) (n - p) 0 ≡ get_or (initial_marks t x) (n - x) 0
  begun_in d e f =
      let k : x - p + (n - x) ≡ n - p = omega arith in
      rw (← k) (get_or-sets_in l (x - p) (n - x) (initial_marks t x) (omega (arith, length_initial t x)) (omega arith))

  begun_out : (x ≤ n → n < end_at t x → ⊥) → get_or (initialised t p x l) (n - p) 0 ≡ get_or l (n - p) 0
  begun_out d = go (lower n x)
    where
      go : (n < x) ⊎ (x ≤ n) → get_or (initialised t p x l) (n - p) 0 ≡ get_or l (n - p) 0
      go (inl e) = get_or-sets_out (initial_marks t x) l (x - p) (n - p) (inl (omega arith))
      go (inr e) = beyond (lower n (end_at t x))
        where
          beyond : (n < end_at t x) ⊎ (end_at t x ≤ n) → get_or (initialised t p x l) (n - p) 0 ≡ get_or l (n - p) 0
          beyond (inl g) = absurd (d e g)
          beyond (inr g) = get_or-sets_out (initial_marks t x) l (x - p) (n - p) (inr (omega (arith, length_initial t x)))

  begun_marked : Marked (initialised t p x l) (n - p) → ((x ≤ n) × (n < end_at t x) × Marked (initial_marks t x) (n - x)) ⊎ Marked l (n - p)
  begun_marked m = go (lower n x) (lower n (end_at t x))
    where
      go : (n < x) ⊎ (x ≤ n) → (n < end_at t x) ⊎ (end_at t x ≤ n) → ((x ≤ n) × (n < end_at t x) × Marked (initial_marks t x) (n - x)) ⊎ Marked l (n - p)
      go (inl e) g = inr (rw (begun_out (λ u v. omega arith)) at m)
      go (inr e) (inl g) =
          let f : n - p < length l = rw length-sets at (marked_length (initialised t p x l) (n - p) m) in
          inl (e, g, rw (begun_in e g f) at m)
      go (inr e) (inr g) = inr (rw (begun_out (λ u v. omega arith)) at m)

-- a mark among marks that follow one
cons_marked : (m : ℕ) (l : List ℕ) (p n : ℕ) → p ≤ n → Marked (m ∷ l) (n - p) → ((p ≡ n) × (is_mark m ≡ true)) ⊎ ((p < n) × Marked l (n - suc p))
cons_marked m l p n a h = go (eq-or-lt_of_le a)
  where
    go : (p ≡ n) ⊎ (p < n) → ((p ≡ n) × (is_mark m ≡ true)) ⊎ ((p < n) × Marked l (n - suc p))
    go (inl e) =
        let z : n - p ≡ 0 = omega arith in
        inl (e, rw z at h)
    go (inr b) =
        let z : n - p ≡ suc (n - suc p) = omega arith in
        inr (b, rw z at h)

marked_cons : (m : ℕ) (l : List ℕ) (p n : ℕ) → p < n → Marked l (n - suc p) → Marked (m ∷ l) (n - p)
marked_cons m l p n a h =
    let z : n - p ≡ suc (n - suc p) = omega arith in
    rw z h

-- among the marks of parts from q on, children of part u
module _ (t : List ℕ) (u : ℕ) where
  one_child : (l : List ℕ) (q i : ℕ) → Marked l i → parent_at t (q + i) ≡ u → 1 ≤ marked_children t u q l
  unfolding marked_children
  one_child [] q i m e = absurd (false≢true m)
  one_child (x ∷ l) q zero m e = rw (m, eq-eqb (parent_at t q) u (rw add-zero at e)) (omega arith)
  one_child (x ∷ l) q (suc i) m e =
      let k : suc q + i ≡ q + suc i = omega arith in
      omega (arith, one_child l (suc q) i m (rw k e))

  two_children : (l : List ℕ) (q i j : ℕ) → i < j → Marked l i → parent_at t (q + i) ≡ u → Marked l j → parent_at t (q + j) ≡ u → 2 ≤ marked_children t u q l
  unfolding marked_children
  two_children [] q i j a m e n d = absurd (false≢true m)
  two_children (x ∷ l) q i zero a m e n d = absurd (omega arith)
  two_children (x ∷ l) q zero (suc j) a m e n d =
      let k : suc q + j ≡ q + suc j = omega arith in
      rw (m, eq-eqb (parent_at t q) u (rw add-zero at e)) (omega (arith, one_child l (suc q) j n (rw k d)))
  two_children (x ∷ l) q (suc i) (suc j) a m e n d =
      let c : suc q + i ≡ q + suc i = omega arith in
      let k : suc q + j ≡ q + suc j = omega arith in
      omega (arith, two_children l (suc q) i j (omega arith) m (rw c e) n (rw k d))

-- each part of allowed marks is allowed
allowed_at_lem : (t : List ℕ) (phase : ℕ) (ms : List ℕ) (a p : ℕ) → parts_allowed t phase a ms ≡ true → p < length ms → part_allowed t phase (a + p) (get_or ms p 0) (drop (suc p) ms) ≡ true
unfolding parts_allowed
allowed_at_lem t phase [] a p h l = absurd (omega arith)
allowed_at_lem t phase (m ∷ ms) a zero h l = rw add-zero (and_left (part_allowed t phase a m ms) (parts_allowed t phase (suc a) ms) h)
allowed_at_lem t phase (m ∷ ms) a (suc p) h l =
    let k : suc a + p ≡ a + suc p = omega arith in
    rw k at (allowed_at_lem t phase ms (suc a) p (and_right (part_allowed t phase a m ms) (parts_allowed t phase (suc a) ms) h) (omega arith))

-- two marked children of part u
two_inside : (t ms : List ℕ) (u p x : ℕ) → u < p → p < x → x < end_at t u → Marked ms p → parent_at t p ≡ u → Marked ms x → parent_at t x ≡ u → 2 ≤ marked_children t u (suc u) (take (inside_of t u) (drop (suc u) ms))
two_inside t ms u p x a b c m e n d =
    let i : suc u + (p - suc u) ≡ p = omega arith in
    let j : suc u + (x - suc u) ≡ x = omega arith in
    two_children t u (take (inside_of t u) (drop (suc u) ms)) (suc u) (p - suc u) (x - suc u) (omega arith) (taken p a (omega arith) m) (rw i e) (taken x (omega arith) c n) (rw j d)
  where
    taken : (q : ℕ) → u < q → q < end_at t u → Marked ms q → Marked (take (inside_of t u) (drop (suc u) ms)) (q - suc u)
    taken q f g k = rw (get_or-take (inside_of t u) (drop (suc u) ms) (q - suc u) 0 (omega arith)) (after_part ms u q f k)

module _ (t : List ℕ) (h : is_table t ≡ true) (sit : Situation) (ms : List ℕ) (long : length ms ≡ parts t) where
  abbrev ends : ℕ → Bool
  ends = ends_at t sit ms

  pub number_fits : (p : ℕ) → Marked ms p → p < parts t
  number_fits p m = rw long at (marked_length ms p m)

  -- a part that initialises another was marked
  pub by_marked : (q x : ℕ) → Initialises t sit ms ends q x → Marked ms q
  by_marked q x (inl i) = ends_marked t sit ms q i.0
  by_marked q x (inr i) = i.0.0

  -- where a part that is initialised stands: from the part on that initialises it, and up to any end that holds both it and its next
  reaches : (q x hi : ℕ) → Initialises t sit ms ends q x → end_at t q ≤ hi → (q < next_at t q → (next_at t q ≡ no_part → ⊥) → end_at t (next_at t q) ≤ hi) → (q ≤ x) × (x < end_at t x) × (end_at t x ≤ hi)
  reaches q x hi (inl i) e g = subst (λ y. (q ≤ y) × (y < end_at t y) × (end_at t y ≤ hi)) i.1 (go own.next_is)
    where
      own : LinksInside t q
      own = inside t h q (number_fits q (ends_marked t sit ms q i.0))

      go : (next_at t q ≡ no_part) ⊎ ((next_at t q ≡ q) ⊎ Later t q) → (q ≤ next_at t q) × (next_at t q < end_at t (next_at t q)) × (end_at t (next_at t q) ≤ hi)
      go (inl z) = absurd (i.2 (sym i.1 ∙ z))
      go (inr (inl z)) = rw z (omega (arith, own.end_after))
      go (inr (inr l)) = (omega (arith, l.after), (inside t h (next_at t q) l.before_end).end_after, g l.after (λ z. i.2 (sym i.1 ∙ z)))
  reaches q x hi (inr i) e g = rw (← i.1) (omega (arith, takes_inside t h sit ms q (number_fits q i.0.0) i.0))

  -- inside the table, and inside every part around
  reaches_parts : (q x : ℕ) → Initialises t sit ms ends q x → (q ≤ x) × (x < end_at t x) × (end_at t x ≤ parts t)
  reaches_parts q x i =
      let l = number_fits q (by_marked q x i) in
      reaches q x (parts t) i (inside t h q l).end_within_lem (λ a d. later_within a d (inside t h q l).next_is)
    where
      later_within : q < next_at t q → (next_at t q ≡ no_part → ⊥) → (next_at t q ≡ no_part) ⊎ ((next_at t q ≡ q) ⊎ Later t q) → end_at t (next_at t q) ≤ parts t
      later_within a d (inl z) = absurd (d z)
      later_within a d (inr (inl z)) = absurd (omega arith)
      later_within a d (inr (inr l)) = (inside t h (next_at t q) l.before_end).end_within_lem

  reaches_inside : (n q x : ℕ) → Initialises t sit ms ends q x → n < q → q < end_at t n → n < parts t → end_at t x ≤ end_at t n
  reaches_inside n q x i a b c =
      (reaches q x (end_at t n) i (nested t h n q (a, b)) (λ l d.
      let f = next_nested t h n q (a, b) l d in
      omega (arith, f.next_within, f.parent_end))).2

  -- where the parts stand that it marks
  pub spread : (q x n : ℕ) → Initialises t sit ms ends q x → BegunWith t x n → (q ≤ x) × (x ≤ n) × (n < end_at t x) × (end_at t x ≤ parts t)
  spread q x n i b =
      let r = reaches_parts q x i in
      let w = begun_within t h x r.1 b in
      (r.0, w.0, w.1, r.2)

  -- where a part ends nothing is marked inside it any more
  ended_empty : (q : ℕ) → ends q ≡ true → Undeciding t ms q → inside_after t sit ms q ≡ false
  ended_empty q e u = go (inside_after t sit ms q) (sym (composite_ends t sit ms q (ends_marked t sit ms q e) u) ∙ e)
    where
      go : (b : Bool) → not b ≡ true → b ≡ false
      go true d = absurd (false≢true d)
      go false d = refl

  ends_empty : (p : Part) {q u x : ℕ} → Lies t p q u x → ends q ≡ true → inside_after t sit ms q ≡ false
  ends_empty (goal o) l e = rw (own_inside l)
  ends_empty (start o) l e = rw (own_inside l)
  ends_empty (wait o) l e = rw (own_inside l)
  ends_empty (seq ps) {q} l e = ended_empty q e (inl (own_kind l))
  ends_empty (par ps) {q} l e = ended_empty q e (inr (inl (own_kind l)))
  ends_empty (maintain o p) {q} l e = ended_empty q e (inr (inr (inl (own_kind l))))
  ends_empty (choice o a b) {q} l e = go (inside_before t ms q) refl
    where
      go : (c : Bool) → inside_before t ms q ≡ c → inside_after t sit ms q ≡ false
      go true k = ended_empty q e (inr (inr (inr (inr (own_kind l, k)))))
      go false k = absurd (false≢true (sym (deciding_stays t sit ms q (empty_deciding t ms q (ends_marked t sit ms q e) (own_kind l) k)) ∙ e))
  ends_empty (repeat p) {q} l e = ended_empty q e (inr (inr (inr (inl (own_kind l)))))

  -- the marks from part p on after the settling, where it initialises a part and where it does not
  turn_initialises : (p x : ℕ) → Initialises t sit ms ends p x → (m : ℕ) × (is_mark m ≡ true → StaysMarked ms ends p) × (settled_from t sit p (drop p ms) ≡ initialised t p x (m ∷ later t sit ms p))
  turn_initialises p x (inl i) =
      (0, λ z. absurd (false≢true z), subst (λ y. settled_from t sit p (drop p ms) ≡ initialised t p y (0 ∷ later t sit ms p)) i.1 (end_next t sit ms p i.0 (λ z. i.2 (sym i.1 ∙ z))))
  turn_initialises p x (inr i) =
      (1, λ z. (i.0.0, deciding_stays t sit ms p i.0), subst (λ y. settled_from t sit p (drop p ms) ≡ initialised t p y (1 ∷ later t sit ms p)) i.1 (deciding_takes t sit ms p i.0))

  abbrev Turn : ℕ → Type 0
  Turn p = ((x : ℕ) × Initialises t sit ms ends p x) ⊎ ((m : ℕ) × (is_mark m ≡ true → StaysMarked ms ends p) × (settled_from t sit p (drop p ms) ≡ m ∷ later t sit ms p))

  turn : (p : ℕ) → p < length ms → Turn p
  turn p l = judged (is_mark (get_or ms p 0)) refl
    where
      ended : ends p ≡ true → (b : Bool) → eqb (next_at t p) no_part ≡ b → Turn p
      ended e true n = inr (0, λ z. absurd (false≢true z), end_no_next t sit ms p e (eqb-true (next_at t p) no_part n))
      ended e false n = inl (next_at t p, inl (e, refl, eqb-false (next_at t p) no_part n))

      met : Marked ms p → (f : Transition) → transition_at t sit ms p ≡ f → Turn p
      met m Stays e = inr (1, λ z. (m, rw (m, e)), stays t sit ms p m e)
      met m Ends e = ended (rw (m, e)) (eqb (next_at t p) no_part) refl
      met m First e = inl (child_taken t sit p, inr (decides_deciding t sit ms p m (ap decides e), refl))
      met m Second e = inl (child_taken t sit p, inr (decides_deciding t sit ms p m (ap decides e), refl))

      judged : (b : Bool) → is_mark (get_or ms p 0) ≡ b → Turn p
      judged true m = met m (transition_at t sit ms p) refl
      judged false m = inr (0, λ z. absurd (false≢true z), unmarked_unjudged t sit ms p l m)

  -- a part marked once the parts from p on are settled
  abbrev pub After : ℕ → ℕ → Type 0
  After p n = StaysMarked ms ends n ⊎ ((q : ℕ) × (p ≤ q) × MarkedBy t sit ms ends q n)

  before_that : (p n : ℕ) → After (suc p) n → After p n
  before_that p n (inl k) = inl k
  before_that p n (inr (q, l, k)) = inr (q, omega arith, k)

  after_turn : (p n : ℕ) → p ≤ n → p < length ms → (p < n → Marked (later t sit ms p) (n - suc p) → After (suc p) n) → Marked (settled_from t sit p (drop p ms)) (n - p) → After p n
  after_turn p n a l ih d = go (turn p l)
    where
      own : (m : ℕ) → (is_mark m ≡ true → StaysMarked ms ends p) → ((p ≡ n) × (is_mark m ≡ true)) ⊎ ((p < n) × Marked (later t sit ms p) (n - suc p)) → After p n
      own m k (inl e) = inl (subst (StaysMarked ms ends) e.0 (k e.1))
      own m k (inr e) = before_that p n (ih e.0 e.1)

      begins : (m x : ℕ) → Initialises t sit ms ends p x → x < end_at t x → (is_mark m ≡ true → StaysMarked ms ends p) → ((x ≤ n) × (n < end_at t x) × Marked (initial_marks t x) (n - x)) ⊎ Marked (m ∷ later t sit ms p) (n - p) → After p n
      begins m x i b k (inl e) = inr (p, omega arith, (x, i, (initialised_begun t h x b n e.0 e.1).0 e.2))
      begins m x i b k (inr e) = own m k (cons_marked m (later t sit ms p) p n a e)

      go : Turn p → After p n
      go (inl i) =
          let r = turn_initialises p i.0 i.1 in
          let b = reaches_parts p i.0 i.1 in
          begins r.0 i.0 i.1 b.1 r.1 (begun_marked t (r.0 ∷ later t sit ms p) p i.0 n a b.0 b.1 (rw r.2 at d))
      go (inr r) = own r.0 r.1 (cons_marked r.0 (later t sit ms p) p n a (rw r.2 at d))

  after_from : (k p : ℕ) → p + k ≡ length ms → (n : ℕ) → p ≤ n → Marked (settled_from t sit p (drop p ms)) (n - p) → After p n
  after_from zero p e n a m = absurd (omega (arith, marked_length (settled_from t sit p (drop p ms)) (n - p) m, length_settled t sit p (drop p ms), length-drop p ms))
  after_from (suc k) p e n a m = after_turn p n a (omega arith) (λ b. after_from k (suc p) (omega arith) n b) m

  module _ (phase : ℕ) (allowed : parts_allowed t phase 0 ms ≡ true) where
    part_allowed_lem : (p : ℕ) → p < parts t → part_allowed t phase p (get_or ms p 0) (drop (suc p) ms) ≡ true
    part_allowed_lem p l = rw zero-add at (allowed_at_lem t phase ms 0 p allowed (rw long l))

    -- "nothing is marked inside an unmarked part"
    around_marked : (u n : ℕ) → u < parts t → u < n → n < end_at t u → Marked ms n → Marked ms u
    around_marked u n l a b m = go (is_mark (get_or ms u 0)) refl
      where
        go : (c : Bool) → is_mark (get_or ms u 0) ≡ c → Marked ms u
        go true e = e
        go false e = absurd (false≢true (rw (e, inside_marked t ms u n (a, b) m) at (part_allowed_lem u l)))

    -- "a marked SEQ [..] has exactly one marked child": nothing is marked in the next of a marked child
    next_unmarked : {n e p : ℕ} → Followed t n e p → p < parts t → Marked ms p → (y : ℕ) → next_at t p ≤ y → y < end_at t (next_at t p) → Marked ms y → ⊥
    unfolding children_allowed
    next_unmarked {p = p} f l m y a b d =
        let u : ℕ = f.parent in
        let x : ℕ = next_at t p in
        let fits : u < parts t = omega (arith, f.parent_before) in
        let in_table : end_at t u ≤ parts t = (inside t h u fits).end_within_lem in
        let own : p < x = omega (arith, f.next_is, (inside t h p l).end_after) in
        let marks : List ℕ = take (inside_of t u) (drop (suc u) ms) in
        let sibling : Marked ms x = start_marked (eq-or-lt_of_le a) (omega (arith, f.next_before, f.next_within)) in
        let parent-marked : Marked ms u = around_marked u p fits f.parent_before (omega (arith, f.next_before, f.next_within)) m in
        let one : marked_children t u (suc u) marks ≡ 1 = eqb-true (marked_children t u (suc u) marks) 1 (rw (parent-marked, f.in_seq) at (part_allowed_lem u fits)) in
        omega (arith, one, two_inside t ms u p x f.parent_before own (omega (arith, f.next_before, f.next_within)) m f.own_parent sibling f.next_parent)
      where
        start_marked : (next_at t p ≡ y) ⊎ (next_at t p < y) → next_at t p < parts t → Marked ms (next_at t p)
        start_marked (inl e) c = rw e d
        start_marked (inr g) c = around_marked (next_at t p) y c g b d

    -- in a part x that holds no mark before, and into which no part between p and x initialises, nothing is marked by the settling of the parts after p
    none_there : (p x n : ℕ) → ((y : ℕ) → x ≤ y → y < end_at t x → Marked ms y → ⊥) → ((q y : ℕ) → p < q → q < x → Initialises t sit ms ends q y → end_at t y ≤ x) → After (suc p) n → x ≤ n → n < end_at t x → ⊥
    none_there p x n none low (inl k) b c = none n b c k.0
    none_there p x n none low (inr (q, l, (y, i, g))) b c = go (lower q x)
      where
        go : (q < x) ⊎ (x ≤ q) → ⊥
        go (inl d) = omega (arith, low q y l d i, spread q y n i g)
        go (inr d) = none q d (omega (arith, spread q y n i g)) (by_marked q y i)

    -- such is a part that part p initialises: its marks go over no other
    untouched : (p x n : ℕ) → Initialises t sit ms ends p x → p < n → After (suc p) n → Marked (later t sit ms p) (n - suc p) → x ≤ n → n < end_at t x → ⊥
    untouched p x n (inl i) a k m b c = next (inside t h p l).next_is
      where
        own : Marked ms p
        own = ends_marked t sit ms p i.0

        l : p < parts t
        l = number_fits p own

        not_root : (p ≡ 0) ⊎ (0 < p) → 0 < p
        not_root (inl e) = absurd (i.2 (sym i.1 ∙ rw e (root_next t h)))
        not_root (inr g) = g

        next : (next_at t p ≡ no_part) ⊎ ((next_at t p ≡ p) ⊎ Later t p) → ⊥
        next (inl z) = i.2 (sym i.1 ∙ z)
        next (inr (inl z)) =
            let y = at t h p l in
            let e : p ≡ x = sym z ∙ i.1 in
            let d : n < end_at t p = rw e c in
            false≢true (sym (ends_empty y.part y.lies i.0) ∙ any_at (later t sit ms p) (inside_of t p) (n - suc p) (omega arith) m)
        next (inr (inr z)) =
            let f = next_nested t h 0 p (inside_root t h p (not_root (eq-zero-or-pos p)) l) z.after (λ d. i.2 (sym i.1 ∙ d)) in
            none_there p x n
            (rw (← i.1) (next_unmarked f l own))
            (λ q y u v j. rw (← i.1, z.next_end_lem) (reaches_inside p q y j u (rw (← i.1, z.next_end_lem) at v) l))
            k b c
    untouched p x n (inr i) a k m b c =
        let r : (p < x) × (x < end_at t x) × (end_at t x ≤ end_at t p) = rw i.1 at (takes_inside t h sit ms p (number_fits p i.0.0) i.0) in
        none_there p x n
        (λ y u v d. i.0.2 y (omega (arith, r)) d)
        (λ q y u v j. absurd (i.0.2 q (omega (arith, r)) (by_marked q y j)))
        k b c

    -- a mark set by the settling of the parts after part p stays
    stays_marked : (p n : ℕ) → p < length ms → p < n → After (suc p) n → Marked (later t sit ms p) (n - suc p) → Marked (settled_from t sit p (drop p ms)) (n - p)
    stays_marked p n l a k m = go (turn p l)
      where
        go : Turn p → Marked (settled_from t sit p (drop p ms)) (n - p)
        go (inl i) =
            let r = turn_initialises p i.0 i.1 in
            let b = reaches_parts p i.0 i.1 in
            rw (r.2, begun_out t (r.0 ∷ later t sit ms p) p i.0 n (omega arith) b.0 b.1 (untouched p i.0 n i.1 a k m)) (marked_cons r.0 (later t sit ms p) p n a m)
        go (inr r) = rw r.2 (marked_cons r.0 (later t sit ms p) p n a m)

    marked_turn : (p n : ℕ) → p < length ms → p ≤ n → (p < n → After (suc p) n → Marked (later t sit ms p) (n - suc p)) → After p n → Marked (settled_from t sit p (drop p ms)) (n - p)
    marked_turn p n l a ih (inl k) = go (eq-or-lt_of_le a)
      where
        go : (p ≡ n) ⊎ (p < n) → Marked (settled_from t sit p (drop p ms)) (n - p)
        go (inl e) =
            let z : n - p ≡ 0 = omega arith in
            let own : StaysMarked ms ends p = rw e k in
            rw z (kept_own t h sit ms p (rw long at l) own.0 own.1)
        go (inr b) = stays_marked p n l b (inl k) (ih b (inl k))
    marked_turn p n l a ih (inr (q, c, (x, i, g))) = go (eq-or-lt_of_le c)
      where
        own : Initialises t sit ms ends p x → Marked (settled_from t sit p (drop p ms)) (n - p)
        own j =
            let r = turn_initialises p x j in
            let b = reaches_parts p x j in
            let w = begun_within t h x b.1 g in
            let d : n - p < suc (length (later t sit ms p)) = omega (arith, length_settled t sit (suc p) (drop (suc p) ms), length-drop (suc p) ms, w, b) in
            rw (r.2, begun_in t (r.0 ∷ later t sit ms p) p x n a b.0 b.1 w.0 w.1 d) ((initialised_begun t h x b.1 n w.0 w.1).1 g)

        go : (p ≡ q) ⊎ (p < q) → Marked (settled_from t sit p (drop p ms)) (n - p)
        go (inl e) = own (subst (λ u. Initialises t sit ms ends u x) (sym e) i)
        go (inr b) =
            let d : p < n = omega (arith, spread q x n i g) in
            stays_marked p n l d (inr (q, b, (x, i, g))) (ih d (inr (q, b, (x, i, g))))

    marked_from : (k p : ℕ) → p + k ≡ length ms → (n : ℕ) → p ≤ n → After p n → Marked (settled_from t sit p (drop p ms)) (n - p)
    marked_from zero p e n a (inl k) = absurd (omega (arith, marked_length ms n k.0))
    marked_from zero p e n a (inr (q, c, (x, i, g))) = absurd (omega (arith, marked_length ms q (by_marked q x i)))
    marked_from (suc k) p e n a c = marked_turn p n (omega arith) a (λ b. marked_from k (suc p) (omega arith) n b) c

    -- the parts marked after a settling are those that were marked and did not end, and those that were initialised
    pub settled_marks_lem : (n : ℕ) → Marked (settled_from t sit 0 ms) n ↔ (StaysMarked ms ends n ⊎ ((q : ℕ) × MarkedBy t sit ms ends q n))
    settled_marks_lem n = (
      λ m. ⊎_map (λ k. k) (λ k. (k.0, k.2)) (after_from (length ms) 0 (omega arith) n (omega arith) (rw sub-zero m)),
      λ k. rw sub-zero at (marked_from (length ms) 0 (omega arith) n (omega arith) (⊎_map (λ i. i) (λ i. (i.0, omega arith, i.1)) k)),
    )

    -- the marks of the parts after part p once these are settled
    later_marked : (p n : ℕ) → p < parts t → p < n → (Marked (later t sit ms p) (n - suc p) ↔ After (suc p) n)
    later_marked p n l a =
        let k : suc p + (parts t - suc p) ≡ length ms = omega arith in
        (after_from (parts t - suc p) (suc p) k n a, marked_from (parts t - suc p) (suc p) k n a)

    -- a part into which part p initialises is not marked by the settling of the parts after p
    pub initialised_apart : (p x n : ℕ) → Initialises t sit ms ends p x → p < n → After (suc p) n → x ≤ n → n < end_at t x → ⊥
    initialised_apart p x n i a k = untouched p x n i a k ((later_marked p n (number_fits p (by_marked p x i)) a).1 k)

    -- "marked inside after this"
    pub inside_after_lem : (p : ℕ) → p < parts t → inside_after t sit ms p ≡ true → (n : ℕ) × MarkedInside t sit ms ends p n
    inside_after_lem p l e =
        let (i, a, m) = any_found (later t sit ms p) (inside_of t p) e in
        let n : ℕ = suc p + i in
        let k : i ≡ n - suc p = omega arith in
        (n, by n (omega arith) (omega arith) ((later_marked p n l (omega arith)).0 (rw k at m)))
      where
        by : (n : ℕ) → p < n → n < end_at t p → After (suc p) n → MarkedInside t sit ms ends p n
        by n a b (inl k) = ((omega arith, omega arith), inl k)
        by n a b (inr (q, c, (x, i, g))) = ((omega arith, omega arith), inr (q, (omega arith, omega (arith, spread q x n i g)), (x, i, g)))

    pub after_inside : (p n : ℕ) → p < parts t → MarkedInside t sit ms ends p n → inside_after t sit ms p ≡ true
    after_inside p n l k = any_at (later t sit ms p) (inside_of t p) (n - suc p) (omega (arith, k.0)) ((later_marked p n l k.0.0).1 (by k))
      where
        by : MarkedInside t sit ms ends p n → After (suc p) n
        by (i, inl c) = inl c
        by (i, inr (q, j, g)) = inr (q, j.0, g)
