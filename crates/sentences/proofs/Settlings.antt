-- The sentences of document 01 about a settling over the table, part by part.
use Prim.Native.Nat.{ℕ, zero, suc, ◌+◌, ◌-◌, ◌≤◌, ◌<◌}
use native.Mathlib.Omega.{arith}
use mathlib.Core.Path.{◌≡◌, refl, sym, ap, ◌∙◌}
use mathlib.Core.Logic.{◌⊎◌, inl, inr}
use mathlib.Core.Bool.{Bool, true, false, cond, not, ◌&&◌, ◌||◌, or-true, false≢true}
use mathlib.Core.List.{List, [], ◌∷◌}
use lib.ListN.{length, get_or, take, drop, get_or-eq_default}
use lib.Seq.{drop-cons, get_or-drop}
use borrow.Author.Tests.{eq-eqb, ne_eqb}
use Rattle.base.specs.Lists.{any}
use Rattle.base.proofs.Lists.{and_left, and_right, both_true}
use Rattle.base.proofs.Stores.{get_or-sets_out}
use Rattle.meaning.specs.Sizes.{no_part}
use Rattle.meaning.specs.declared.kinds.Kind.TheVariants.{Goal as GOAL, Start as START, Wait as WAIT, Seq as SEQ, Par as PAR, Maintain as MAINTAIN, Choice as CHOICE, Repeat as REPEAT}
use Rattle.meaning.specs.Program.{parts}
use Rattle.meaning.specs.Table.{kind_at, operand_of, end_at, next_at, Inside, inside_of, is_table}
use Rattle.meaning.specs.Conditions.{Situation, reached, satisfied}
use Rattle.meaning.specs.Record.{is_mark}
use Rattle.meaning.specs.declared.Transition.{Transition}
use Rattle.meaning.specs.declared.Transition.TheVariants.{Stays, Ends, First, Second}
use Rattle.meaning.specs.Cycle.{ends_if, transition, initial_marks, initialised, applied, settled_part, settled_from, root_ended}
use Rattle.sentences.specs.Marks.{Marked, Deciding}
use Rattle.sentences.specs.Stepping.{child_taken}
use Rattle.meaning.proofs.Decisions.{decides, decides_kind}
use Rattle.meaning.proofs.Tables.{root_there}
use Rattle.meaning.proofs.Nesting.{lower, root_next}
use Rattle.sentences.proofs.Followers.{Branches, choice_branches}

-- "after this": the marks of the parts after part p once these are settled
abbrev pub later : List ℕ → Situation → List ℕ → ℕ → List ℕ
later t sit ms p = settled_from t sit (suc p) (drop (suc p) ms)

-- something is marked inside part p before the settling, and after that of what is inside it
abbrev pub inside_before : List ℕ → List ℕ → ℕ → Bool
inside_before t ms p = any is_mark (take (inside_of t p) (drop (suc p) ms))

abbrev pub inside_after : List ℕ → Situation → List ℕ → ℕ → Bool
inside_after t sit ms p = any is_mark (take (inside_of t p) (later t sit ms p))

-- what becomes of part p where it is marked
abbrev pub transition_at : List ℕ → Situation → List ℕ → ℕ → Transition
transition_at t sit ms p = transition sit (kind_at t p) (operand_of t p) (inside_before t ms p) (inside_after t sit ms p)

abbrev is_ends : Transition → Bool
is_ends Stays = false
is_ends Ends = true
is_ends First = false
is_ends Second = false

-- whether part p ends
abbrev pub ends_at : List ℕ → Situation → List ℕ → ℕ → Bool
ends_at t sit ms p = is_mark (get_or ms p 0) && is_ends (transition_at t sit ms p)

-- a composite other than a deciding CHOICE
abbrev pub Undeciding : List ℕ → List ℕ → ℕ → Type 0
Undeciding t ms p = (kind_at t p ≡ SEQ) ⊎ (kind_at t p ≡ PAR) ⊎ (kind_at t p ≡ MAINTAIN) ⊎ (kind_at t p ≡ REPEAT) ⊎ ((kind_at t p ≡ CHOICE) × (inside_before t ms p ≡ true))

-- a part that is marked has a mark
pub marked_length : (ms : List ℕ) (p : ℕ) → Marked ms p → p < length ms
marked_length ms p m = go (lower p (length ms))
  where
    go : (p < length ms) ⊎ (length ms ≤ p) → p < length ms
    go (inl l) = l
    go (inr l) = absurd (false≢true (rw (get_or-eq_default ms 0 l) at m))

-- something is marked among the first of some marks
pub any_at : (l : List ℕ) (k i : ℕ) → i < k → Marked l i → any is_mark (take k l) ≡ true
any_at [] k i a m = absurd (false≢true m)
any_at (x ∷ l) zero i a m = absurd (omega arith)
any_at (x ∷ l) (suc k) zero a m = rw m
any_at (x ∷ l) (suc k) (suc i) a m = rw (any_at l k i (omega arith) m) (or-true (is_mark x))

pub any_found : (l : List ℕ) (k : ℕ) → any is_mark (take k l) ≡ true → (i : ℕ) × (i < k) × Marked l i
any_found [] k m = absurd (false≢true (empty k m))
  where
    empty : (k : ℕ) → any is_mark (take k []) ≡ true → false ≡ true
    empty zero e = e
    empty (suc k) e = e
any_found (x ∷ l) zero m = absurd (false≢true m)
any_found (x ∷ l) (suc k) m = go (is_mark x) refl m (any_found l k)
  where
    go : (b : Bool) → is_mark x ≡ b → (b || any is_mark (take k l)) ≡ true → (any is_mark (take k l) ≡ true → (i : ℕ) × (i < k) × Marked l i) → (i : ℕ) × (i < suc k) × Marked (x ∷ l) i
    go true e n ih = (0, omega arith, e)
    go false e n ih = let (i, a, d) = ih n in (suc i, omega arith, d)

-- a mark after part p, as one of the marks after it
pub after_part : (ms : List ℕ) (p n : ℕ) → p < n → Marked ms n → Marked (drop (suc p) ms) (n - suc p)
after_part ms p n a m =
    let e : suc p + (n - suc p) ≡ n = omega arith in
    rw (get_or-drop (suc p) ms (n - suc p) 0, e) m

-- a mark inside part p
pub inside_marked : (t ms : List ℕ) (p n : ℕ) → Inside t p n → Marked ms n → inside_before t ms p ≡ true
inside_marked t ms p n i m = any_at (drop (suc p) ms) (inside_of t p) (n - suc p) (omega (arith, i)) (after_part ms p n i.0 m)

inside_found : (t ms : List ℕ) (p : ℕ) → inside_before t ms p ≡ true → (n : ℕ) × Inside t p n × Marked ms n
inside_found t ms p h =
    let (i, a, m) = any_found (drop (suc p) ms) (inside_of t p) h in
    (suc p + i, (omega arith, omega arith), rw (get_or-drop (suc p) ms i 0) at m)

-- a deciding CHOICE has nothing marked inside
module _ (t ms : List ℕ) (p : ℕ) where
  pub deciding_empty : Deciding t ms p → inside_before t ms p ≡ false
  deciding_empty d = both_true (inside_before t ms p) false (λ e. let (n, i, m) = inside_found t ms p e in absurd (d.2 n i m)) (λ e. absurd (false≢true e))

  pub empty_deciding : Marked ms p → kind_at t p ≡ CHOICE → inside_before t ms p ≡ false → Deciding t ms p
  empty_deciding m k b = (m, k, λ n i d. false≢true (sym b ∙ inside_marked t ms p n i d))

-- to end, as a test says
ends_if_lem : (b : Bool) → is_ends (ends_if b) ≡ b
ends_if_lem true = refl
ends_if_lem false = refl

module _ (t : List ℕ) (sit : Situation) (ms : List ℕ) (p : ℕ) where
  -- a part that ends was marked
  pub ends_marked : ends_at t sit ms p ≡ true → Marked ms p
  ends_marked e = and_left (is_mark (get_or ms p 0)) (is_ends (transition_at t sit ms p)) e

  module _ (m : Marked ms p) where
    -- "A marked GOAL ends when its variable has its value"
    pub goal_ends : kind_at t p ≡ GOAL → ends_at t sit ms p ≡ reached sit (operand_of t p)
    unfolding transition
    goal_ends k = rw (m, k) (ends_if_lem (reached sit (operand_of t p)))

    -- "a WAIT when satisfied"
    pub wait_ends : kind_at t p ≡ WAIT → ends_at t sit ms p ≡ satisfied sit (operand_of t p)
    unfolding transition
    wait_ends k = rw (m, k) (ends_if_lem (satisfied sit (operand_of t p)))

    -- "a START always"
    pub start_ends : kind_at t p ≡ START → ends_at t sit ms p ≡ true
    unfolding transition
    start_ends k = rw (m, k)

    -- "Any other marked composite with nothing marked inside after this ends too, a CHOICE whose branch has just ended included"
    pub composite_ends : Undeciding t ms p → ends_at t sit ms p ≡ not (inside_after t sit ms p)
    unfolding transition
    composite_ends (inl k) = rw (m, k) (ends_if_lem (not (inside_after t sit ms p)))
    composite_ends (inr (inl k)) = rw (m, k) (ends_if_lem (not (inside_after t sit ms p)))
    composite_ends (inr (inr (inl k))) = rw (m, k) (ends_if_lem (not (inside_after t sit ms p)))
    composite_ends (inr (inr (inr (inl k)))) = rw (m, k) (ends_if_lem (not (inside_after t sit ms p)))
    composite_ends (inr (inr (inr (inr k)))) = rw (m, k.0, k.1) (ends_if_lem (not (inside_after t sit ms p)))

    -- a part that decides is a deciding CHOICE
    pub decides_deciding : decides (transition_at t sit ms p) ≡ true → Deciding t ms p
    decides_deciding e =
        let d = decides_kind sit (kind_at t p) (operand_of t p) (inside_before t ms p) (inside_after t sit ms p) e in
        empty_deciding t ms p m d.0 d.1

  -- "one deciding before it has its first child initialised if satisfied, else its second"
  deciding_decides : Deciding t ms p → transition_at t sit ms p ≡ cond (satisfied sit (operand_of t p)) First Second
  unfolding transition
  deciding_decides d = rw (d.1, deciding_empty t ms p d)

  -- and it does not end
  pub deciding_stays : Deciding t ms p → ends_at t sit ms p ≡ false
  deciding_stays d = rw (d.0, deciding_decides d) (neither (satisfied sit (operand_of t p)))
    where
      neither : (b : Bool) → is_ends (cond b First Second) ≡ false
      neither true = refl
      neither false = refl

  -- the marks from part p on after a settling, from those after it
  settled_at : p < length ms → settled_from t sit p (drop p ms) ≡ settled_part t sit p (get_or ms p 0) (drop (suc p) ms) (later t sit ms p)
  unfolding settled_from
  settled_at l = rw (drop-cons ms p 0 l)

  -- a marked part, by its transition
  settled_by : (f : Transition) → Marked ms p → transition_at t sit ms p ≡ f → settled_from t sit p (drop p ms) ≡ applied t p f (later t sit ms p)
  settled_by f m e = settled_at (marked_length ms p m) ∙ rw (m, e)

  -- a part that is not marked before is not judged: "Newly marked parts are not judged, do not end"
  pub unmarked_unjudged : p < length ms → is_mark (get_or ms p 0) ≡ false → settled_from t sit p (drop p ms) ≡ 0 ∷ later t sit ms p
  unmarked_unjudged l m = settled_at l ∙ rw m

  -- "A part that ends loses its mark and then initialises its next, if it has one"
  settled_end : ends_at t sit ms p ≡ true → settled_from t sit p (drop p ms) ≡ applied t p Ends (later t sit ms p)
  settled_end e = settled_by Ends (ends_marked e) (is_ends_lem (transition_at t sit ms p) (and_right (is_mark (get_or ms p 0)) (is_ends (transition_at t sit ms p)) e))
    where
      is_ends_lem : (f : Transition) → is_ends f ≡ true → f ≡ Ends
      is_ends_lem Stays d = absurd (false≢true d)
      is_ends_lem Ends d = refl
      is_ends_lem First d = absurd (false≢true d)
      is_ends_lem Second d = absurd (false≢true d)

  pub end_no_next : ends_at t sit ms p ≡ true → next_at t p ≡ no_part → settled_from t sit p (drop p ms) ≡ 0 ∷ later t sit ms p
  unfolding applied
  end_no_next e n = settled_end e ∙ rw (eq-eqb (next_at t p) no_part n)

  pub end_next : ends_at t sit ms p ≡ true → (next_at t p ≡ no_part → ⊥) → settled_from t sit p (drop p ms) ≡ initialised t p (next_at t p) (0 ∷ later t sit ms p)
  unfolding applied
  end_next e n = settled_end e ∙ rw (ne_eqb (next_at t p) no_part n)

  -- a deciding CHOICE keeps its mark, and has the child initialised that it takes
  pub deciding_takes : Deciding t ms p → settled_from t sit p (drop p ms) ≡ initialised t p (child_taken t sit p) (1 ∷ later t sit ms p)
  unfolding applied
  deciding_takes d = settled_by (cond (satisfied sit (operand_of t p)) First Second) d.0 (deciding_decides d) ∙ go (satisfied sit (operand_of t p))
    where
      go : (b : Bool) → applied t p (cond b First Second) (later t sit ms p) ≡ initialised t p (cond b (suc p) (end_at t (suc p))) (1 ∷ later t sit ms p)
      go true = refl
      go false = refl

  -- a part that neither ends nor decides keeps its mark
  pub stays : Marked ms p → transition_at t sit ms p ≡ Stays → settled_from t sit p (drop p ms) ≡ 1 ∷ later t sit ms p
  unfolding applied
  stays m e = settled_by Stays m e

module _ (t : List ℕ) (h : is_table t ≡ true) (sit : Situation) (ms : List ℕ) where
  -- the child that a deciding CHOICE takes stands inside it
  pub takes_inside : (p : ℕ) → p < parts t → Deciding t ms p → (p < child_taken t sit p) × (child_taken t sit p < end_at t (child_taken t sit p)) × (end_at t (child_taken t sit p) ≤ end_at t p)
  takes_inside p l d =
      let b = choice_branches t h p l d.1 in
      go (satisfied sit (operand_of t p)) b
    where
      go : (b : Bool) → Branches t p → (p < cond b (suc p) (end_at t (suc p))) × (cond b (suc p) (end_at t (suc p)) < end_at t (cond b (suc p) (end_at t (suc p)))) × (end_at t (cond b (suc p) (end_at t (suc p))) ≤ end_at t p)
      go true b = omega (arith, b)
      go false b = omega (arith, b)

  -- a part that does not end keeps its mark
  pub kept_own : (p : ℕ) → p < parts t → Marked ms p → ends_at t sit ms p ≡ false → Marked (settled_from t sit p (drop p ms)) 0
  kept_own p l m d = go (transition_at t sit ms p) refl
    where
      decided : Deciding t ms p → Marked (settled_from t sit p (drop p ms)) 0
      decided c = rw (deciding_takes t sit ms p c, get_or-sets_out (initial_marks t (child_taken t sit p)) (1 ∷ later t sit ms p) (child_taken t sit p - p) 0 (inl (omega (arith, takes_inside p l c))))

      go : (f : Transition) → transition_at t sit ms p ≡ f → Marked (settled_from t sit p (drop p ms)) 0
      go Stays e = rw (stays t sit ms p m e)
      go Ends e = absurd (false≢true (sym d ∙ rw (m, e)))
      go First e = decided (decides_deciding t sit ms p m (ap decides e))
      go Second e = decided (decides_deciding t sit ms p m (ap decides e))

  -- "If the root ends, phase is 2": the root is found ended exactly where it ends
  pub root_ends : Marked ms 0 → root_ended (settled_from t sit 0 ms) ≡ ends_at t sit ms 0
  root_ends m = go (ends_at t sit ms 0) refl
    where
      go : (b : Bool) → ends_at t sit ms 0 ≡ b → root_ended (settled_from t sit 0 ms) ≡ b
      go true e = rw (end_no_next t sit ms 0 e (root_next t h))
      go false e = rw (kept_own 0 (root_there t h) m e)
