-- Which records are allowed, sentence by sentence: exactly those of which each sentence of document 01 holds, by index and by part number.
use Prim.Native.Nat.{ℕ, zero, suc, ◌+◌, ◌-◌, ◌*◌, ◌≤◌, ◌<◌, min}
use native.Mathlib.Nat.{zero-add, add-zero, not-suc-le-zero, le_of_suc-le-suc, eq-or-lt_of_le, eq-zero-or-pos}
use native.Mathlib.Omega.{arith}
use mathlib.Core.Path.{◌≡◌, refl, sym, ◌∙◌, subst}
use mathlib.Core.Logic.Iff
use mathlib.Core.Logic.{◌↔◌, ◌≢◌, ◌⊎◌, inl, inr}
use mathlib.Core.Bool.{Bool, true, false, cond, not, ◌&&◌, ◌||◌, and-eq-true_iff, false≢true}
use mathlib.Core.List.{List, [], ◌∷◌, map}
use lib.Dec.{eqb, leb}
use lib.ListN.{length, get_or, take, drop, length-take, length-drop}
use lib.Seq.{get_or-take, get_or-drop}
use borrow.Author.Tests.{leb-true, leb-false, ne_eqb}
use Rattle.base.specs.Lists.{sum, all, any, flag, bytes_at}
use Rattle.base.proofs.Facts.{both, either, at_most, equal, by_number, unless, all_facts, all_below, get_or_inside}
use Rattle.base.proofs.Lists.{and_left, and_right}
use Rattle.base.proofs.Stores.{length_bytes, get_or_bytes}
use Rattle.meaning.specs.Sizes.{max_parts, max_variables, max_clocks, max_value, unknown_value, time_width, no_part}
use Rattle.meaning.specs.declared.kinds.Kind.{Kind}
use Rattle.meaning.specs.declared.kinds.Kind.TheVariants.{Unknown as UNKNOWN, Goal as GOAL, Start as START, Wait as WAIT, Seq as SEQ, Par as PAR, Maintain as MAINTAIN, Choice as CHOICE, Repeat as REPEAT}
use Rattle.meaning.specs.Program.{parts, variables, clocks}
use Rattle.meaning.specs.Table.{kind_at, parent_at, end_at, inside_of, is_table}
use Rattle.meaning.specs.Record.{estimate_place, started_place, starts_place, marks_place, record_length, phase_of, last_time, estimate_in, started_in, starts_in, marks_in, offered, finished, is_mark, is_zero, rest_zero, estimate_byte_allowed, values_allowed, clock_allowed, clocks_allowed, marked_children, children_allowed, part_allowed, parts_allowed, root_allowed, record_allowed}
use Rattle.meaning.specs.Tree.{Part, goal, start, wait, seq, par, maintain, choice, repeat, kind, children, size}
use Rattle.sentences.specs.Allowed.{PartMarked, PartUnmarked, Child, MarkedChild, SomeChild, NoTwoChildren, OneChild, EstimateByte, AllowedRecord}
use Rattle.meaning.proofs.Trees.{All, part_ind, size_law}
use Rattle.meaning.proofs.Tables.{table_held}
use Rattle.meaning.proofs.Lies.{Lies, LieIn, own_row, own_kind, children_lie, first_lies, others_lie, root_lies}

-- a byte is one of an estimate where it is a value or unknown
pub estimate_byte : (x : ℕ) → (estimate_byte_allowed x ≡ true) ↔ EstimateByte x
unfolding estimate_byte_allowed
estimate_byte x = either (leb x max_value) (eqb x unknown_value) (at_most max_value x) (equal unknown_value x)

-- a number is a mark where it is not 0
more_than_zero : (x : ℕ) → is_zero (suc x) ≡ false
more_than_zero x = ne_eqb (suc x) 0 (λ e. omega arith)

pub is_mark_lem : (x : ℕ) → (is_mark x ≡ true) ↔ (0 < x)
is_mark_lem zero = (λ h. absurd (false≢true h), λ l. absurd (omega arith))
is_mark_lem (suc x) = (λ h. omega arith, λ l. rw (more_than_zero x))

-- one test where a number is 0, another where it is not
by_zero : (x : ℕ) (a b : Bool) → (cond (is_zero x) a b ≡ true) ↔ ((x ≡ 0 → a ≡ true) × (0 < x → b ≡ true))
by_zero zero a b = (λ h. (λ e. h, λ l. absurd (omega arith)), λ h. h.0 refl)
by_zero (suc x) a b = rw (more_than_zero x) (λ h. (λ e. absurd (omega arith), λ l. h), λ h. h.1 (omega arith))

by_mark : (x : ℕ) (a b : Bool) → (cond (is_mark x) a b ≡ true) ↔ ((0 < x → a ≡ true) × (x ≡ 0 → b ≡ true))
by_mark zero a b = (λ h. (λ l. absurd (omega arith), λ e. h), λ h. h.1 refl)
by_mark (suc x) a b = rw (more_than_zero x) (λ h. (λ l. h, λ e. absurd (omega arith)), λ h. h.0 (omega arith))

-- nothing is marked where all marks are 0
none_marked : (ms : List ℕ) → not (any is_mark ms) ≡ all is_zero ms
none_marked [] = refl
none_marked (m ∷ ms) = go (is_zero m) (none_marked ms)
  where
    go : (z : Bool) → not (any is_mark ms) ≡ all is_zero ms → not (not z || any is_mark ms) ≡ (z && all is_zero ms)
    go true h = h
    go false h = refl

-- the entries from v on, of m that stand from place k on, are 0
rest_at : (r : List ℕ) (k v m n : ℕ) → n ≡ m - v → (all is_zero (bytes_at r (k + v) n) ≡ true) ↔ ((i : ℕ) → v ≤ i → i < m → get_or r (k + i) 0 ≡ 0)
rest_at r k v m n e = (to, from)
  where
    facts : (all is_zero (bytes_at r (k + v) n) ≡ true) ↔ ((i : ℕ) → i < n → get_or (bytes_at r (k + v) n) i 0 ≡ 0)
    facts = all_facts is_zero (λ x. x ≡ 0) (equal 0) (bytes_at r (k + v) n) n (length_bytes r (k + v) n)

    to : all is_zero (bytes_at r (k + v) n) ≡ true → (i : ℕ) → v ≤ i → i < m → get_or r (k + i) 0 ≡ 0
    to h i a b =
        let l : i - v < n = omega arith in
        let j : k + i ≡ k + v + (i - v) = omega arith in
        rw j (sym (get_or_bytes r (k + v) n (i - v) l) ∙ facts.0 h (i - v) l)

    from : ((i : ℕ) → v ≤ i → i < m → get_or r (k + i) 0 ≡ 0) → all is_zero (bytes_at r (k + v) n) ≡ true
    from h =
        facts.1 (λ j l.
        let s : k + v + j ≡ k + (v + j) = omega arith in
        get_or_bytes r (k + v) n j l ∙ rw s (h (v + j) (omega arith) (omega arith)))

-- How many of n numbers from a on pass a test
abbrev count : (ℕ → Bool) → ℕ → ℕ → ℕ
count f a zero = 0
count f a (suc n) = flag (f a) + count f (suc a) n

-- one of them that does
record Passes (f : ℕ → Bool) (a n i : ℕ) : Type 0 where
  from_first : a ≤ i
  before_last : i < a + n
  passes : f i ≡ true

module _ (f : ℕ → Bool) where
  next_passes : (a n i : ℕ) → Passes f (suc a) n i → Passes f a (suc n) i
  next_passes a n i h = record { from_first = omega arith; before_last = omega arith; passes = h.passes }

  first_or_next : (a n i : ℕ) → Passes f a (suc n) i → (i ≡ a) ⊎ Passes f (suc a) n i
  first_or_next a n i h = go (eq-or-lt_of_le h.from_first)
    where
      go : (a ≡ i) ⊎ (a < i) → (i ≡ a) ⊎ Passes f (suc a) n i
      go (inl e) = inl (sym e)
      go (inr l) = inr (record { from_first = l; before_last = omega arith; passes = h.passes })

  -- some passes exactly where their number is at least 1
  some_pass : (n a : ℕ) → 1 ≤ count f a n → (i : ℕ) × Passes f a n i
  some_pass zero a h = absurd (omega arith)
  some_pass (suc n) a h = go (f a) refl (some_pass n (suc a)) h
    where
      go : (b : Bool) → f a ≡ b → (1 ≤ count f (suc a) n → (i : ℕ) × Passes f (suc a) n i) → 1 ≤ flag b + count f (suc a) n → (i : ℕ) × Passes f a (suc n) i
      go true e ih l = (a, record { from_first = omega arith; before_last = omega arith; passes = e })
      go false e ih l =
          let x = ih (omega arith) in
          (x.0, next_passes a n x.0 x.1)

  pass_some : (n a i : ℕ) → Passes f a n i → 1 ≤ count f a n
  pass_some zero a i h = absurd (omega arith)
  pass_some (suc n) a i h = go (first_or_next a n i h) (pass_some n (suc a) i)
    where
      go : (i ≡ a) ⊎ Passes f (suc a) n i → (Passes f (suc a) n i → 1 ≤ count f (suc a) n) → 1 ≤ flag (f a) + count f (suc a) n
      go (inl e) ih =
          let k : f a ≡ true = rw e at h.passes in
          rw k (omega arith)
      go (inr k) ih = omega (arith, ih k)

  -- any two that pass are the same exactly where their number is at most 1
  most_pass : (n a : ℕ) → count f a n ≤ 1 → (i j : ℕ) → Passes f a n i → Passes f a n j → i ≡ j
  most_pass zero a h i j x y = absurd (omega arith)
  most_pass (suc n) a h i j x y = go (first_or_next a n i x) (first_or_next a n j y) (λ l u v. most_pass n (suc a) l i j u v)
    where
      alone : (u v : ℕ) → Passes f a (suc n) u → u ≡ a → Passes f (suc a) n v → ⊥
      alone u v x e y =
          let k : f a ≡ true = rw e at x.passes in
          let l : flag true + count f (suc a) n ≤ 1 = rw k at h in
          omega (arith, pass_some n (suc a) v y)

      go : (i ≡ a) ⊎ Passes f (suc a) n i → (j ≡ a) ⊎ Passes f (suc a) n j → (count f (suc a) n ≤ 1 → Passes f (suc a) n i → Passes f (suc a) n j → i ≡ j) → i ≡ j
      go (inl d) (inl e) ih = omega arith
      go (inl d) (inr v) ih = absurd (alone i j x d v)
      go (inr u) (inl e) ih = absurd (alone j i y e u)
      go (inr u) (inr v) ih = ih (omega arith) u v

  pass_most : (n a : ℕ) → ((i j : ℕ) → Passes f a n i → Passes f a n j → i ≡ j) → count f a n ≤ 1
  pass_most zero a h = omega arith
  pass_most (suc n) a h = go (f a) refl (eq-zero-or-pos (count f (suc a) n)) (pass_most n (suc a) (λ i j u v. h i j (next_passes a n i u) (next_passes a n j v)))
    where
      go : (b : Bool) → f a ≡ b → (count f (suc a) n ≡ 0) ⊎ (0 < count f (suc a) n) → count f (suc a) n ≤ 1 → flag b + count f (suc a) n ≤ 1
      go false e c l = omega arith
      go true e (inl z) l = omega arith
      go true e (inr m) l =
          let x = some_pass n (suc a) m in
          let same : a ≡ x.0 = h a x.0 (record { from_first = omega arith; before_last = omega arith; passes = e }) (next_passes a n x.0 x.1) in
          absurd (omega (arith, x.1.from_first))

-- how many children of part p are marked
abbrev pub child_count : List ℕ → List ℕ → ℕ → ℕ
child_count t r p = marked_children t p (suc p) (take (inside_of t p) (drop (suc p) (marks_in t r)))

module _ (t r : List ℕ) where
  length_marks : length (marks_in t r) ≡ parts t
  length_marks = length_bytes r marks_place (parts t)

  -- a part that is marked is a part of the program
  pub marked_part : (q : ℕ) → PartMarked t r q → q < parts t
  marked_part q h = omega (arith, get_or_inside (marks_in t r) q h, length_marks)

  module _ (p : ℕ) where
    inner : List ℕ
    inner = take (inside_of t p) (drop (suc p) (marks_in t r))

    length_inner : length inner ≡ min (inside_of t p) (parts t - suc p)
    unfolding inner
    length_inner = rw (length-take, length-drop, length_marks)

    inner_mark : (i : ℕ) → i < length inner → get_or inner i 0 ≡ get_or (marks_in t r) (suc p + i) 0
    unfolding inner
    inner_mark i l = get_or-take (inside_of t p) (drop (suc p) (marks_in t r)) i 0 (omega (arith, length_inner)) ∙ get_or-drop (suc p) (marks_in t r) i 0

    is_child : ℕ → Bool
    is_child q = is_mark (get_or (marks_in t r) q 0) && eqb (parent_at t q) p

    counted : (ms : List ℕ) (a : ℕ) → ((i : ℕ) → i < length ms → get_or ms i 0 ≡ get_or (marks_in t r) (a + i) 0) → marked_children t p a ms ≡ count is_child a (length ms)
    unfolding marked_children is_child
    counted [] a h = refl
    counted (m ∷ ms) a h =
        let first : m ≡ get_or (marks_in t r) a 0 = rw add-zero at (h 0 (omega arith)) in
        rw (
          first,
          counted ms (suc a) (λ i l.
              let e : suc a + i ≡ a + suc i = omega arith in
              rw e (h (suc i) (omega arith))),
        )

    child_passes : (q : ℕ) → MarkedChild t r p q ↔ Passes is_child (suc p) (length inner) q
    unfolding is_child
    child_passes q = (
      λ h.
          record {
            from_first = h.child.after;
            before_last = omega (arith, length_inner, marked_part q h.marked, h.child.before_end);
            passes = test.1 (h.marked, h.child.parent_is);
          },
      λ h.
          let x = test.0 h.passes in
          record { child = record { after = h.from_first; before_end = omega (arith, length_inner, h.before_last); parent_is = x.1 }; marked = x.0 },
    )
      where
        test : (is_child q ≡ true) ↔ (PartMarked t r q × (parent_at t q ≡ p))
        test = both (is_mark (get_or (marks_in t r) q 0)) (eqb (parent_at t q) p) (is_mark_lem (get_or (marks_in t r) q 0)) (equal p (parent_at t q))

    count_is : child_count t r p ≡ count is_child (suc p) (length inner)
    unfolding inner
    count_is = counted inner (suc p) inner_mark

    -- their number is at least 1 exactly where there is one
    pub some_child : (1 ≤ child_count t r p) ↔ SomeChild t r p
    some_child = (
      λ h.
          let x = some_pass is_child (length inner) (suc p) (rw count_is at h) in
          (x.0, (child_passes x.0).1 x.1),
      λ h. rw count_is (pass_some is_child (length inner) (suc p) h.0 ((child_passes h.0).0 h.1)),
    )

    -- at most 1 exactly where any two are the same
    pub no_two_children : (child_count t r p ≤ 1) ↔ NoTwoChildren t r p
    no_two_children = (
      λ h q u x y. most_pass is_child (length inner) (suc p) (rw count_is at h) q u ((child_passes q).0 x) ((child_passes u).0 y),
      λ h. rw count_is (pass_most is_child (length inner) (suc p) (λ i j x y. h i j ((child_passes i).1 x) ((child_passes j).1 y))),
    )

    -- 1 exactly where there is exactly one
    pub one_child : (child_count t r p ≡ 1) ↔ OneChild t r p
    one_child = (
      λ h. (some_child.0 (omega arith), no_two_children.0 (omega arith)),
      λ h. omega (arith, some_child.1 h.0, no_two_children.1 h.1),
    )

module _ (t r : List ℕ) where
  -- the parts one by one
  parts_index : (phase p : ℕ) (ms : List ℕ) → (parts_allowed t phase p ms ≡ true) ↔ ((i : ℕ) → i < length ms → part_allowed t phase (p + i) (get_or ms i 0) (drop (suc i) ms) ≡ true)
  unfolding parts_allowed
  parts_index phase p ms = (to p ms, from p ms)
    where
      to : (p : ℕ) (ms : List ℕ) → parts_allowed t phase p ms ≡ true → (i : ℕ) → i < length ms → part_allowed t phase (p + i) (get_or ms i 0) (drop (suc i) ms) ≡ true
      to p [] h i l = absurd (not-suc-le-zero l)
      to p (m ∷ ms) h zero l = rw (add-zero p) (and_left (part_allowed t phase p m ms) (parts_allowed t phase (suc p) ms) h)
      to p (m ∷ ms) h (suc i) l =
          let e : p + suc i ≡ suc p + i = omega arith in
          rw e (to (suc p) ms (and_right (part_allowed t phase p m ms) (parts_allowed t phase (suc p) ms) h) i (le_of_suc-le-suc l))

      from : (p : ℕ) (ms : List ℕ) → ((i : ℕ) → i < length ms → part_allowed t phase (p + i) (get_or ms i 0) (drop (suc i) ms) ≡ true) → parts_allowed t phase p ms ≡ true
      from p [] h = refl
      from p (m ∷ ms) h =
          (and-eq-true_iff (part_allowed t phase p m ms) (parts_allowed t phase (suc p) ms)).1 (
            rw (add-zero p) at (h 0 (omega arith)),
            from (suc p) ms (λ i l.
                let e : suc p + i ≡ p + suc i = omega arith in
                rw e (h (suc i) (omega arith))),
          )

  module _ (p : ℕ) where
    -- "nothing is marked inside an unmarked part", of one part
    blank_inside : (not (any is_mark (inner t r p)) ≡ true) ↔ ((q : ℕ) → p < q → q < end_at t p → PartUnmarked t r q)
    blank_inside = rw (none_marked (inner t r p)) (Iff.trans (all_facts is_zero (λ x. x ≡ 0) (equal 0) (inner t r p) (length (inner t r p)) refl) (to, from))
      where
        to : ((i : ℕ) → i < length (inner t r p) → get_or (inner t r p) i 0 ≡ 0) → (q : ℕ) → p < q → q < end_at t p → PartUnmarked t r q
        to h q a b = go (eq-zero-or-pos (get_or (marks_in t r) q 0))
          where
            go : PartUnmarked t r q ⊎ PartMarked t r q → PartUnmarked t r q
            go (inl e) = e
            go (inr m) =
                let l : q - suc p < length (inner t r p) = omega (arith, length_inner t r p, marked_part t r q m) in
                let e : q ≡ suc p + (q - suc p) = omega arith in
                rw e (sym (inner_mark t r p (q - suc p) l) ∙ h (q - suc p) l)

        from : ((q : ℕ) → p < q → q < end_at t p → PartUnmarked t r q) → (i : ℕ) → i < length (inner t r p) → get_or (inner t r p) i 0 ≡ 0
        from h i l = inner_mark t r p i l ∙ h (suc p + i) (omega arith) (omega (arith, length_inner t r p))

    -- what document 01 asks of the children of a marked part, kind by kind
    abbrev pub Children : Kind → Type 0
    Children UNKNOWN = Unit {0}
    Children GOAL = Unit {0}
    Children START = Unit {0}
    Children WAIT = Unit {0}
    Children SEQ = OneChild t r p
    Children PAR = SomeChild t r p
    Children MAINTAIN = phase_of r ≢ offered → OneChild t r p
    Children CHOICE = NoTwoChildren t r p
    Children REPEAT = OneChild t r p

    pub children_right : (k : Kind) → (children_allowed (phase_of r) k (child_count t r p) ≡ true) ↔ Children k
    unfolding children_allowed
    children_right UNKNOWN = (λ h. tt, λ h. refl)
    children_right GOAL = (λ h. tt, λ h. refl)
    children_right START = (λ h. tt, λ h. refl)
    children_right WAIT = (λ h. tt, λ h. refl)
    children_right SEQ = Iff.trans (equal 1 (child_count t r p)) (one_child t r p)
    children_right PAR = Iff.trans (at_most (child_count t r p) 1) (some_child t r p)
    children_right MAINTAIN = unless (eqb (child_count t r p) 1) (phase_of r) offered (Iff.trans (equal 1 (child_count t r p)) (one_child t r p))
    children_right CHOICE = Iff.trans (at_most 1 (child_count t r p)) (no_two_children t r p)
    children_right REPEAT = Iff.trans (equal 1 (child_count t r p)) (one_child t r p)

    part_right : (part_allowed t (phase_of r) p (get_or (marks_in t r) p 0) (drop (suc p) (marks_in t r)) ≡ true)
        ↔ ((PartMarked t r p → Children (kind_at t p)) × (PartUnmarked t r p → (q : ℕ) → p < q → q < end_at t p → PartUnmarked t r q))
    unfolding inner
    part_right =
        Iff.trans
        (by_mark (get_or (marks_in t r) p 0) (children_allowed (phase_of r) (kind_at t p) (child_count t r p)) (not (any is_mark (inner t r p))))
        (λ h. (λ m. (children_right (kind_at t p)).0 (h.0 m), λ e. blank_inside.0 (h.1 e)), λ h. (λ m. (children_right (kind_at t p)).1 (h.0 m), λ e. blank_inside.1 (h.1 e)))

  pub parts_right : (parts_allowed t (phase_of r) 0 (marks_in t r) ≡ true)
      ↔ ((p : ℕ) → p < parts t → (PartMarked t r p → Children p (kind_at t p)) × (PartUnmarked t r p → (q : ℕ) → p < q → q < end_at t p → PartUnmarked t r q))
  parts_right =
      Iff.trans (parts_index (phase_of r) 0 (marks_in t r)) (
        λ h p l. (part_right p).0 (rw zero-add at (h p (omega (arith, length_marks t r)))),
        λ h p l. rw zero-add ((part_right p).1 (h p (omega (arith, length_marks t r)))),
      )

  root_right : (root_allowed (phase_of r) (marks_in t r) ≡ true) ↔ ((phase_of r ≡ finished → (p : ℕ) → p < parts t → PartUnmarked t r p) × (phase_of r ≢ finished → PartMarked t r 0))
  unfolding root_allowed
  root_right =
      Iff.trans
      (by_number (phase_of r) finished (not (any is_mark (marks_in t r))) (is_mark (get_or (marks_in t r) 0 0)))
      (λ h. (λ e. blank.0 (h.0 e), λ n. (is_mark_lem (get_or (marks_in t r) 0 0)).0 (h.1 n)), λ h. (λ e. blank.1 (h.0 e), λ n. (is_mark_lem (get_or (marks_in t r) 0 0)).1 (h.1 n)))
    where
      blank : (not (any is_mark (marks_in t r)) ≡ true) ↔ ((p : ℕ) → p < parts t → PartUnmarked t r p)
      blank = rw (none_marked (marks_in t r)) (all_facts is_zero (λ x. x ≡ 0) (equal 0) (marks_in t r) (parts t) (length_marks t r))

  clocks_right : (clocks_allowed t r ≡ true)
      ↔ ((c : ℕ) → c < clocks t → (get_or (started_in t r) c 0 ≡ 0 → get_or (starts_in t r) c 0 ≡ 0) × (0 < get_or (started_in t r) c 0 → get_or (starts_in t r) c 0 ≤ last_time r))
  unfolding clocks_allowed clock_allowed
  clocks_right =
      Iff.trans (all_below (λ c. clock_allowed (last_time r) (get_or (started_in t r) c 0) (get_or (starts_in t r) c 0)) (clocks t))
      (λ h c l. (each c).0 (h c l), λ h c l. (each c).1 (h c l))
    where
      each : (c : ℕ) → (clock_allowed (last_time r) (get_or (started_in t r) c 0) (get_or (starts_in t r) c 0) ≡ true)
          ↔ ((get_or (started_in t r) c 0 ≡ 0 → get_or (starts_in t r) c 0 ≡ 0) × (0 < get_or (started_in t r) c 0 → get_or (starts_in t r) c 0 ≤ last_time r))
      each c =
          let x : ℕ = get_or (starts_in t r) c 0 in
          Iff.trans
          (by_zero (get_or (started_in t r) c 0) (is_zero x) (leb x (last_time r)))
          (λ h. (λ e. (equal 0 x).0 (h.0 e), λ l. (at_most (last_time r) x).0 (h.1 l)), λ h. (λ e. (equal 0 x).1 (h.0 e), λ l. (at_most (last_time r) x).1 (h.1 l)))

  values_right : (values_allowed t r ≡ true)
      ↔ ((phase_of r ≤ finished)
      × (((c : ℕ) → c < clocks t → get_or (started_in t r) c 0 ≤ 1) × (((p : ℕ) → p < parts t → get_or (marks_in t r) p 0 ≤ 1) × ((v : ℕ) → v < variables t → EstimateByte (get_or (estimate_in t r) v 0)))))
  unfolding values_allowed
  values_right =
      both (leb (phase_of r) finished) _ (at_most finished (phase_of r))
      (both (all (λ b. leb b 1) (started_in t r)) _ (flags started_place (clocks t))
      (both (all (λ b. leb b 1) (marks_in t r)) _ (flags marks_place (parts t)) (all_facts estimate_byte_allowed EstimateByte estimate_byte (estimate_in t r) (variables t) (length_bytes r estimate_place (variables t)))))
    where
      flags : (k n : ℕ) → (all (λ b. leb b 1) (bytes_at r k n) ≡ true) ↔ ((i : ℕ) → i < n → get_or (bytes_at r k n) i 0 ≤ 1)
      flags k n = all_facts (λ b. leb b 1) (λ x. x ≤ 1) (at_most 1) (bytes_at r k n) n (length_bytes r k n)

  pub rest_right : (rest_zero t r ≡ true)
      ↔ (((i : ℕ) → variables t ≤ i → i < max_variables → get_or r (estimate_place + i) 0 ≡ 0)
      × (((i : ℕ) → clocks t ≤ i → i < max_clocks → get_or r (started_place + i) 0 ≡ 0)
      × (((i : ℕ) → time_width * clocks t ≤ i → i < time_width * max_clocks → get_or r (starts_place + i) 0 ≡ 0) × ((i : ℕ) → parts t ≤ i → i < max_parts → get_or r (marks_place + i) 0 ≡ 0))))
  unfolding rest_zero
  rest_right =
      both (all is_zero (bytes_at r (estimate_place + variables t) (max_variables - variables t))) _ (rest_at r estimate_place (variables t) max_variables (max_variables - variables t) refl)
      (both (all is_zero (bytes_at r (started_place + clocks t) (max_clocks - clocks t))) _ (rest_at r started_place (clocks t) max_clocks (max_clocks - clocks t) refl)
      (both (all is_zero (bytes_at r (starts_place + time_width * clocks t) (time_width * (max_clocks - clocks t)))) _
      (rest_at r starts_place (time_width * clocks t) (time_width * max_clocks) (time_width * (max_clocks - clocks t)) (omega arith)) (rest_at r marks_place (parts t) max_parts (max_parts - parts t) refl)))

  -- what the fields of an allowed record ask of the children of a marked part
  children_by : AllowedRecord t r → (p : ℕ) → p < parts t → PartMarked t r p → (k : Kind) → kind_at t p ≡ k → Children p k
  children_by a p l m UNKNOWN e = tt
  children_by a p l m GOAL e = tt
  children_by a p l m START e = tt
  children_by a p l m WAIT e = tt
  children_by a p l m SEQ e = a.seq_one p l m e
  children_by a p l m PAR e = a.par_some p l m e
  children_by a p l m MAINTAIN e = a.maintain_marked p l m e
  children_by a p l m CHOICE e = a.choice_at_most_one p l m e
  children_by a p l m REPEAT e = a.repeat_one p l m e

  -- the allowed records are exactly those
  pub exactly_allowed : (record_allowed t r ≡ true) ↔ AllowedRecord t r
  unfolding record_allowed
  exactly_allowed =
      let tests =
      both (leb record_length (length r)) _ (at_most (length r) record_length)
      (both (rest_zero t r) _ rest_right
      (both (values_allowed t r) _ values_right
      (both (clocks_allowed t r) _ clocks_right (both (root_allowed (phase_of r) (marks_in t r)) (parts_allowed t (phase_of r) 0 (marks_in t r)) root_right parts_right)))) in (
        λ h.
            let x = tests.0 h in
            let rest = x.1.0 in
            let values = x.1.1.0 in
            let clock = x.1.1.1.0 in
            let root = x.1.1.1.1.0 in
            let part = x.1.1.1.1.1 in
            record {
              long_enough = x.0;
              phase_named = values.0;
              flags_named = values.1.0;
              marks_named = values.1.1.0;
              beyond_variables = rest.0;
              beyond_clock_flags = rest.1.0;
              beyond_clock_starts = rest.1.1.0;
              beyond_parts = rest.1.1.1;
              estimate_bytes = values.1.1.1;
              unstarted_zero = λ c l. (clock c l).0;
              started_before = λ c l. (clock c l).1;
              finished_blank = root.0;
              root_marked = root.1;
              nothing_inside = λ p q l u. (part p l).1 u q;
              seq_one = λ p l m e. rw e at ((part p l).0 m);
              repeat_one = λ p l m e. rw e at ((part p l).0 m);
              par_some = λ p l m e. rw e at ((part p l).0 m);
              choice_at_most_one = λ p l m e. rw e at ((part p l).0 m);
              maintain_marked = λ p l m e. rw e at ((part p l).0 m);
            },
        λ a.
            tests.1 (
              a.long_enough,
              (
                (a.beyond_variables, (a.beyond_clock_flags, (a.beyond_clock_starts, a.beyond_parts))),
                (
                  (a.phase_named, (a.flags_named, (a.marks_named, a.estimate_bytes))),
                  (
                    λ c l. (a.unstarted_zero c l, a.started_before c l),
                    ((a.finished_blank, a.root_marked), λ p l. (λ m. children_by a p l m (kind_at t p) refl, λ u q. a.nothing_inside p q l u)),
                  ),
                ),
              ),
            ),
      )

-- the last of the tests
pub parts_allowed_lem : (t r : List ℕ) → record_allowed t r ≡ true → parts_allowed t (phase_of r) 0 (marks_in t r) ≡ true
unfolding record_allowed
parts_allowed_lem t r h =
    let last : Bool = parts_allowed t (phase_of r) 0 (marks_in t r) in
    let fourth : Bool = root_allowed (phase_of r) (marks_in t r) && last in
    let third : Bool = clocks_allowed t r && fourth in
    let second : Bool = values_allowed t r && third in
    let b = and_right (rest_zero t r) second (and_right (leb record_length (length r)) (rest_zero t r && second) h) in
    and_right (root_allowed (phase_of r) (marks_in t r)) last (and_right (clocks_allowed t r) fourth (and_right (values_allowed t r) third b))

-- each part of a table lies there
abbrev Lying : List ℕ → ℕ → Type 0
Lying t n = (p : Part) × (q : ℕ) × (x : ℕ) × Lies t p n q x

module _ (t : List ℕ) where
  AllLying : Part → Type 0
  AllLying p = (n q x : ℕ) → Lies t p n q x → (i : ℕ) → n ≤ i → i < n + size p → Lying t i

  lying_among : (ps : List Part) → All AllLying ps → (k : Kind) (q n : ℕ) → LieIn t k q n ps → (i : ℕ) → n ≤ i → i < n + sum (map size ps) → Lying t i
  unfolding AllLying
  lying_among [] h k q n l i a b = absurd (omega arith)
  lying_among (p ∷ ps) h k q n l i a b = go (leb (n + size p) i) refl (λ c. lying_among ps h.1 k q (n + size p) (others_lie l) i c (omega arith))
    where
      go : (later : Bool) → leb (n + size p) i ≡ later → (n + size p ≤ i → Lying t i) → Lying t i
      go true e ih = ih (leb-true (n + size p) i e)
      go false e ih = h.0 n q _ (first_lies l) i a (leb-false (n + size p) i e)

  all_lying : (p : Part) → AllLying p
  unfolding AllLying
  all_lying = part_ind AllLying (λ p h n q x l i a b. go p h n q x l i b (eq-or-lt_of_le a))
    where
      go : (p : Part) → All AllLying (children p) → (n q x : ℕ) → Lies t p n q x → (i : ℕ) → i < n + size p → (n ≡ i) ⊎ (n < i) → Lying t i
      go p h n q x l i b (inl e) = rw (← e) (p, q, x, l)
      go p h n q x l i b (inr c) = lying_among (children p) h (kind p) n (suc n) (children_lie l) i c (omega (arith, size_law p))

  -- part p is a MAINTAIN: the part after it is its child and has all that stands inside it
  module _ (table : is_table t ≡ true) (p : ℕ) (l : p < parts t) (e : kind_at t p ≡ MAINTAIN) where
    lies_at : Lying t p
    unfolding AllLying
    lies_at =
        let x = table_held t table in
        let root = subst (λ s. Lies s x.0 0 no_part no_part) (sym x.2) (root_lies (variables t) (clocks t) x.0 x.1.within) in
        all_lying x.0 0 no_part no_part root p (omega arith) (omega (arith, x.1.parts_are))

    maintain_child : Child t p (suc p) × (end_at t (suc p) ≡ end_at t p)
    maintain_child = go lies_at.0 lies_at.1 lies_at.2 lies_at.3 (sym (own_kind lies_at.3) ∙ e)
      where
        go : (y : Part) (q x : ℕ) → Lies t y p q x → kind y ≡ MAINTAIN → Child t p (suc p) × (end_at t (suc p) ≡ end_at t p)
        go (goal o) q x h k = absurd (false≢true cc)
        go (start o) q x h k = absurd (false≢true cc)
        go (wait o) q x h k = absurd (false≢true cc)
        go (seq ps) q x h k = absurd (false≢true cc)
        go (par ps) q x h k = absurd (false≢true cc)
        go (choice o y z) q x h k = absurd (false≢true cc)
        go (repeat y) q x h k = absurd (false≢true cc)
        go (maintain o y) q x h k =
            let own = own_row h in
            let its = own_row (first_lies (children_lie h)) in
            let n = size_law (maintain o y) in
            let m = size_law y in
            (record { after = omega arith; before_end = omega (arith, own.end_is, n, m); parent_is = its.parent_is }, omega (arith, own.end_is, its.end_is, n))

    -- "MAINTAIN's child is marked, or in phase 1 may be unmarked", by the child's number
    pub maintain_child_marked : (r : List ℕ) → AllowedRecord t r → PartMarked t r p → phase_of r ≢ offered → PartMarked t r (suc p)
    maintain_child_marked r a m f =
        let x = (a.maintain_marked p l m e f).0 in
        go x.0 x.1 (eq-or-lt_of_le x.1.child.after) (eq-zero-or-pos (get_or (marks_in t r) (suc p) 0))
      where
        go : (q : ℕ) → MarkedChild t r p q → (suc p ≡ q) ⊎ (suc p < q) → PartUnmarked t r (suc p) ⊎ PartMarked t r (suc p) → PartMarked t r (suc p)
        go q x c (inr k) = k
        go q x (inl c) (inl z) = rw c x.marked
        go q x (inr c) (inl z) =
            let d = maintain_child in
            absurd (omega (arith, x.marked, a.nothing_inside (suc p) q (omega (arith, marked_part t r q x.marked)) z c (omega (arith, d.1, x.child.before_end))))
