-- Settling all parts from the last one down: what each turn stores in the marks of all parts is what the definition makes of the marks from that part on.
use Prim.Native.Nat.{ℕ, zero, suc, ◌+◌, ◌-◌, ◌≤◌, ◌<◌, min}
use native.Mathlib.Nat.{zero-add, suc-add}
use native.Mathlib.Omega.{arith}
use mathlib.Core.Path.{◌≡◌, refl, sym, ap, ◌∙◌}
use mathlib.Core.Logic.{◌⊎◌, inl, inr}
use mathlib.Core.Bool.{Bool, true, false, cond}
use mathlib.Core.List.{List, [], ◌∷◌}
use lib.Dec.{eqb, ltb}
use lib.ListN.{length, get_or, drop, set, length-drop, drop_of_length-le}
use lib.Seq.{sets, drop-cons}
use borrow.Author.Tests.{ne_eqb}
use Rattle.std.specs.Prelude.{Option, None, Some, IfSome}
use Rattle.base.proofs.Stores.{sets_before, sets_past, sets_inside, length_bytes, get_or_bytes}
use Rattle.meaning.specs.declared.Operand.{Operand}
use Rattle.meaning.specs.declared.Entry.{Entry}
use Rattle.meaning.specs.declared.Form.TheVariants.{Table}
use Rattle.meaning.specs.declared.Transition.{Transition}
use Rattle.meaning.specs.declared.Transition.TheVariants.{Stays, Ends, First, Second}
use Rattle.meaning.specs.Sizes.{no_part, max_parts}
use Rattle.meaning.specs.Kinds.{kind_of}
use Rattle.meaning.specs.Program.{parts, entry_at}
use Rattle.meaning.specs.Table.{kind_at, operand_of, end_at, next_at, inside_of, is_table}
use Rattle.meaning.specs.Record.{marks_place, last_time, marks_in, is_mark}
use Rattle.meaning.specs.Conditions.{Situation}
use Rattle.meaning.specs.Cycle.{initial_marks_from, initial_marks, transition, initialised, applied, settled_from, situation}
use Rattle.meaning.proofs.Decisions.{decides, decides_kind}
use Rattle.meaning.proofs.Tables.{Later, inside, choice_inside}
use Rattle.meaning.proofs.Records.{length_initial, length_settled}
use Rattle.program_part.proofs.Places.{parts_fit}
use Rattle.run_marks.specs.declared.settled.Lowest.{Lowest}
use Rattle.run_marks.specs.Lowest.{lowest}
use Rattle.run_marks.specs.Settling.{mark_after, named, follower, PossibleTransition, mark_stored, lowest_with, part_transition, part_marks, part_lowest}
use Rattle.run_marks.proofs.Lowest.{lowest_next, lowest_from, marked_inside}

-- part q stands from part p on, and ends among the first n parts
record EndsBefore (t : List ℕ) (p q n : ℕ) : Type 0 where
  from : p ≤ q
  before : q < end_at t q
  within : end_at t q ≤ n

-- the part that is initialised by a transition stands so, if there is one
abbrev Fits : List ℕ → ℕ → ℕ → Transition → Type 0
Fits t p n f = IfSome (follower t p f) (λ q. EndsBefore t p q n)

module _ (t : List ℕ) (p n : ℕ) where
  is_part : n ≤ max_parts → (q : ℕ) → EndsBefore t p q n → eqb q no_part ≡ false
  is_part small q s = ne_eqb q no_part (λ e. omega (arith, e, s.before, s.within))

  ends_there : (q : Option ℕ) → IfSome q (λ q. EndsBefore t p q n) → IfSome q (λ q. q < n)
  ends_there None h = tt
  ends_there (Some q) h = omega (arith, h.before, h.within)

module _ (t : List ℕ) (table : is_table t ≡ true) where
  stands : (p q : ℕ) → p ≤ q → q < parts t → EndsBefore t p q (parts t)
  stands p q a b =
      let i = inside t table q b in
      record { from = a; before = i.end_after; within = i.end_within_lem }

  named_stands : (p q : ℕ) → p ≤ q → q < parts t → IfSome (named q) (λ q. EndsBefore t p q (parts t))
  named_stands p q a b = let s : EndsBefore t p q (parts t) = stands p q a b in rw (is_part t p (parts t) (parts_fit t table) q s) s

  -- what a transition initialises stands in the table
  transition_fits : (sit : Situation) (p : ℕ) (o : Operand) (b a : Bool) (f : Transition) → p < parts t → f ≡ transition sit (kind_at t p) o b a → Fits t p (parts t) f
  transition_fits sit p o b a Stays l e = tt
  transition_fits sit p o b a Ends l e = go (inside t table p l).next_is
    where
      go : (next_at t p ≡ no_part) ⊎ ((next_at t p ≡ p) ⊎ Later t p) → IfSome (named (next_at t p)) (λ q. EndsBefore t p q (parts t))
      go (inl e) = rw e tt
      go (inr (inl e)) = named_stands p (next_at t p) (omega arith) (omega arith)
      go (inr (inr f)) = named_stands p (next_at t p) (omega (arith, f.after)) f.before_end
  transition_fits sit p o b a First l e =
      let c = choice_inside t table p l (decides_kind sit (kind_at t p) o b a (ap decides (sym e))).0 in
      stands p (suc p) (omega arith) c.0
  transition_fits sit p o b a Second l e =
      let c = choice_inside t table p l (decides_kind sit (kind_at t p) o b a (ap decides (sym e))).0 in
      stands p (end_at t (suc p)) (omega (arith, (inside t table (suc p) c.0).end_after)) c.1

  module _ (r est : List ℕ) (p : ℕ) (low : Lowest) (f : Transition) (here : p < parts t) (f-is : f ≡ part_transition t r est p low) where
    -- what a part's transition initialises stands in the table
    pub transition_possible : PossibleTransition t p f
    unfolding part_transition
    transition_possible =
        let sit : Situation = situation t r est (last_time r) in
        record {
          second = λ e. (choice_inside t table p here (decides_kind sit (kind_at t p) (operand_of t p) _ _ (ap decides (sym f-is ∙ e))).0).0;
          follows = ends_there t p (parts t) (follower t p f) (transition_fits sit p (operand_of t p) _ _ f here f-is);
        }

    -- as what the code takes for it does
    pub follower_there : (q : Option ℕ) → q ≡ follower t p f → IfSome q (λ q. q < parts t)
    follower_there q q-is = rw q-is transition_possible.follows

-- the marks from part p on once it has mark x and part q, if there is one, is initialised
abbrev placed : List ℕ → ℕ → ℕ → Option ℕ → List ℕ → List ℕ
placed t p x None rest = x ∷ rest
placed t p x (Some q) rest = initialised t p q (x ∷ rest)

-- a transition changes the marks as its mark and its follower say
applied_is : (t : List ℕ) (p : ℕ) (f : Transition) (rest : List ℕ) → applied t p f rest ≡ placed t p (mark_after f) (follower t p f) rest
unfolding applied
applied_is t p Stays rest = refl
applied_is t p First rest = refl
applied_is t p Second rest = refl
applied_is t p Ends rest = go (eqb (next_at t p) no_part)
  where
    go : (b : Bool) → cond b (0 ∷ rest) (initialised t p (next_at t p) (0 ∷ rest)) ≡ placed t p 0 (cond b None (Some (next_at t p))) rest
    go true = refl
    go false = refl

-- stored in the marks of all parts, where those from part suc p on are stored already
marked_from : (t : List ℕ) (p n x : ℕ) (q : Option ℕ) (rest m₀ : List ℕ) → suc p + length rest ≡ n → IfSome q (λ q. EndsBefore t p q n) → mark_stored t p x q (sets m₀ (suc p) rest) ≡ sets m₀ p (placed t p x q rest)
marked_from t p n x None rest m₀ all-marks h = sets_before m₀ p (suc p) (x ∷ []) rest (omega arith)
marked_from t p n x (Some q) rest m₀ all-marks s =
    let k : p + (q - p) ≡ q = omega (arith, s.from) in
    rw (sets_before m₀ p (suc p) (x ∷ []) rest (omega arith))
    (rw k at (sets_inside m₀ p (q - p) (x ∷ rest) (initial_marks t q) (rw (length_initial t q) (omega (arith, s.from, s.before, s.within)))))

-- the lowest marked part, where one more is marked and what follows it is stored anew
low_of_two : (p q low : ℕ) (b : Bool) → p ≤ q → min q (cond b p low) ≡ cond b p (min q low)
low_of_two p q low true h = omega arith
low_of_two p q low false h = refl

lowest_put : (p k : ℕ) (xs ys : List ℕ) → k < length xs → lowest p (sets xs k (1 ∷ ys)) ≡ min (p + k) (lowest p xs)
unfolding lowest
lowest_put p k [] ys h = absurd (omega arith)
lowest_put p zero (x ∷ xs) ys h =
    let e : sets (1 ∷ xs) 1 ys ≡ 1 ∷ sets xs 0 ys = sets_past (1 ∷ []) xs 0 ys in
    rw e (omega (arith, lowest_from p (x ∷ xs)))
lowest_put p (suc k) (x ∷ xs) ys h =
    let e : sets (x ∷ xs) (suc k) (1 ∷ ys) ≡ x ∷ sets xs k (1 ∷ ys) = rw (suc-add, zero-add) at (sets_past (x ∷ []) xs k (1 ∷ ys)) in
    let i : lowest (suc p) (sets xs k (1 ∷ ys)) ≡ min (suc p + k) (lowest (suc p) xs) = lowest_put (suc p) k xs ys (omega arith) in
    let s : p + suc k ≡ suc p + k = omega arith in
    rw (e, i, s) (sym (low_of_two p (suc p + k) (lowest (suc p) xs) (is_mark x) (omega arith)))

-- the lowest marked part from part p on, once it has mark x and part q is initialised
lowest_placed : (t : List ℕ) (p n x : ℕ) (q : Option ℕ) (rest : List ℕ) → suc p + length rest ≡ n → IfSome q (λ q. EndsBefore t p q n) → lowest p (placed t p x q rest) ≡ lowest_with p x q (lowest (suc p) rest)
unfolding lowest_with initial_marks
lowest_placed t p n x None rest all-marks h = lowest_next p x rest
lowest_placed t p n x (Some q) rest all-marks s =
    let k : p + (q - p) ≡ q = omega (arith, s.from) in
    (rw k at (lowest_put p (q - p) (x ∷ rest) (initial_marks_from t (suc q) (inside_of t q) 0) (omega (arith, s.from, s.before, s.within))))
    ∙ rw (lowest_next p x rest) (low_of_two p q (lowest (suc p) rest) (is_mark x) s.from)

-- The marks and the lowest marked parts once the parts from p on are settled
pub record Standing (t r est m₀ : List ℕ) (p : ℕ) (m : List ℕ) (low : Lowest) : Type 0 where
  pub marks_are : m ≡ sets m₀ p (settled_from t (situation t r est (last_time r)) p (drop p (marks_in t r)))
  pub old_is : low.old ≡ lowest p (drop p (marks_in t r))
  pub new_is : low.new ≡ lowest p (settled_from t (situation t r est (last_time r)) p (drop p (marks_in t r)))

module _ (t r est m₀ : List ℕ) (table : is_table t ≡ true) (p : ℕ) (here : p < parts t) (m : List ℕ) (low : Lowest) (standing : Standing t r est m₀ (suc p) m low) where
  abbrev situated : Situation
  situated = situation t r est (last_time r)

  abbrev later : List ℕ
  later = drop (suc p) (marks_in t r)

  abbrev rest : List ℕ
  rest = settled_from t situated (suc p) later

  marks_next : drop p (marks_in t r) ≡ get_or r (marks_place + p) 0 ∷ later
  marks_next = drop-cons (marks_in t r) p 0 (rw (length_bytes r marks_place (parts t)) here) ∙ rw (get_or_bytes r marks_place (parts t) p here)

  later_length : suc p + length later ≡ parts t
  later_length = rw (length-drop, length_bytes r marks_place (parts t)) (omega arith)

  rest_length : suc p + length rest ≡ parts t
  rest_length = rw (length_settled t situated (suc p) later) later_length

  -- part p, once what is inside is known by the lowest marked parts
  turned : settled_from t situated p (drop p (marks_in t r)) ≡ cond (is_mark (get_or r (marks_place + p) 0)) (applied t p (part_transition t r est p low) rest) (0 ∷ rest)
  unfolding settled_from part_transition
  turned =
      let e : end_at t p ≤ parts t = (inside t table p here).end_within_lem in
      rw (
        marks_next,
        marked_inside t p later (rw later_length e),
        marked_inside t p rest (rw rest_length e),
        standing.old_is,
        standing.new_is,
      )

  fits : Fits t p (parts t) (part_transition t r est p low)
  unfolding part_transition
  fits = transition_fits t table situated p (operand_of t p) (ltb low.old (end_at t p)) (ltb low.new (end_at t p)) (part_transition t r est p low) here refl

  part_marks_lem : (b : Bool) → is_mark (get_or r (marks_place + p) 0) ≡ b → part_marks t r est p low m ≡ sets m₀ p (settled_from t situated p (drop p (marks_in t r)))
  unfolding part_marks
  part_marks_lem true b =
      let f : Transition = part_transition t r est p low in
      rw (turned, b, standing.marks_are, applied_is t p f rest) (marked_from t p (parts t) (mark_after f) (follower t p f) rest m₀ rest_length fits)
  part_marks_lem false b = rw (turned, b, standing.marks_are) (sets_before m₀ p (suc p) (0 ∷ []) rest (omega arith))

  part_lowest_lem : (b : Bool) → is_mark (get_or r (marks_place + p) 0) ≡ b
      → ((part_lowest t r est p low).old ≡ lowest p (drop p (marks_in t r))) × ((part_lowest t r est p low).new ≡ lowest p (settled_from t situated p (drop p (marks_in t r))))
  unfolding part_lowest
  part_lowest_lem true b =
      let f : Transition = part_transition t r est p low in (
        rw (marks_next, lowest_next p (get_or r (marks_place + p) 0) later, b),
        rw (turned, b, applied_is t p f rest) (ap (lowest_with p (mark_after f) (follower t p f)) standing.new_is ∙ sym (lowest_placed t p (parts t) (mark_after f) (follower t p f) rest rest_length fits)),
      )
  part_lowest_lem false b = (
    rw (marks_next, lowest_next p (get_or r (marks_place + p) 0) later, b) standing.old_is,
    rw (turned, b, lowest_next p 0 rest) standing.new_is,
  )

  part_settled : Standing t r est m₀ p (part_marks t r est p low m) (part_lowest t r est p low)
  part_settled =
      let l = part_lowest_lem (is_mark (get_or r (marks_place + p) 0)) refl in
      record { marks_are = part_marks_lem (is_mark (get_or r (marks_place + p) 0)) refl; old_is = l.0; new_is = l.1 }

-- the loop over all parts: before its first turn, at a turn, and after its last
module _ (t r est m₀ : List ℕ) where
  pub settle_starts : (n : ℕ) → n ≡ parts t → Standing t r est m₀ n m₀ (record { old = n; new = n })
  unfolding settled_from lowest
  settle_starts n n-is =
      let e : drop n (marks_in t r) ≡ [] = drop_of_length-le (marks_in t r) {i = n} (omega (arith, length_bytes r marks_place (parts t))) in
      record { marks_are = rw e; old_is = rw e; new_is = rw e }

  pub settle_step : (m m₁ : List ℕ) (p : ℕ) (low low₁ : Lowest) → is_table t ≡ true → 0 < p → p ≤ parts t → Standing t r est m₀ p m low → low₁ ≡ part_lowest t r est (p - 1) low → m₁ ≡ part_marks t r est (p - 1) low m → Standing t r est m₀ (p - 1) m₁ low₁
  settle_step m m₁ p low low₁ table more here standing low-is m-is =
      let k : p ≡ suc (p - 1) = omega arith in
      rw (low-is, m-is) (part_settled t r est m₀ table (p - 1) (omega arith) m low (rw k at standing))

-- what one turn stores, and the lowest marked parts that it gives
module _ (t r est : List ℕ) (p : ℕ) (low : Lowest) (b : Bool) (b-is : b ≡ is_mark (get_or r (marks_place + p) 0)) where
  pub unmarked_lowest : b ≡ false → low ≡ part_lowest t r est p low
  unfolding part_lowest
  unmarked_lowest h = rw (← b-is, h)

  pub unmarked_marks : (m m₁ : List ℕ) (i : ℕ) → b ≡ false → i ≡ p → m₁ ≡ set m i 0 → m₁ ≡ part_marks t r est p low m
  unfolding part_marks
  unmarked_marks m m₁ i h i-is m-is = rw (← b-is, h, m-is, i-is)

  module _ (f : Transition) (x : ℕ) (q : Option ℕ) (h : b ≡ true) (f-is : f ≡ part_transition t r est p low) (x-is : x ≡ mark_after f) (q-is : q ≡ follower t p f) where
    pub marked_lowest : (l : ℕ) → l ≡ lowest_with p x q low.new → ◌≡◌ {A = Lowest} (record { old = p; new = l }) (part_lowest t r est p low)
    unfolding part_lowest
    marked_lowest l l-is = rw (← b-is, h, ← f-is, l-is, x-is, q-is)

    pub marked_marks : (m m₁ : List ℕ) → m₁ ≡ mark_stored t p x q m → m₁ ≡ part_marks t r est p low m
    unfolding part_marks
    marked_marks m m₁ m-is = rw (← b-is, h, ← f-is, m-is, x-is, q-is)

-- the parts of a turn
pub transition_found : (t r est : List ℕ) (p e time : ℕ) (low : Lowest) (part : Entry) (f : Transition) → e ≡ end_at t p → part ≡ entry_at Table t p → time ≡ last_time r → f ≡ transition (situation t r est time) (kind_of part.kind) part.operand (ltb low.old e) (ltb low.new e) → f ≡ part_transition t r est p low
unfolding part_transition
transition_found t r est p e time low part f e-is part_is time_is f-is = rw (f-is, e-is, part_is, time_is)
