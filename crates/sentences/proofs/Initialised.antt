-- Initialising, part by part, and the record at the beginning of a run.
use Prim.Native.Nat.{ℕ, zero, suc, ◌+◌, ◌-◌, ◌≤◌, ◌<◌}
use native.Mathlib.Nat.{add-zero, add-suc, suc-add, sub_self, le_of_suc-le-suc, eq-or-lt_of_le}
use native.Mathlib.Omega.{arith}
use mathlib.Core.Path.{◌≡◌, refl, sym, ap, subst, ◌∙◌}
use mathlib.Core.Bool.{Bool, true, false, cond, ◌&&◌, and-true, and-false, false≢true}
use mathlib.Core.Logic.{◌↔◌, ◌⊎◌, inl, inr}
use mathlib.Core.List.{List, ◌++◌}
use lib.ListN.{length, get_or, drop, replicate}
use lib.Seq.{drop-append_seam}
use borrow.Author.Tests.{eqb-true, eq-eqb}
use Rattle.base.specs.Lists.{flag}
use Rattle.base.proofs.Lists.{and_left, and_right}
use Rattle.meaning.specs.declared.kinds.Kind.{Kind}
use Rattle.meaning.specs.declared.kinds.Kind.TheVariants.{Unknown as UNKNOWN, Goal as GOAL, Start as START, Wait as WAIT, Seq as SEQ, Par as PAR, Maintain as MAINTAIN, Choice as CHOICE, Repeat as REPEAT}
use Rattle.meaning.specs.Program.{parts, clocks}
use Rattle.meaning.specs.Table.{kind_at, end_at, parent_at, Inside, inside_of, is_table}
use Rattle.meaning.specs.Record.{record_length, waiting, is_mark, record_bytes}
use Rattle.meaning.specs.Cycle.{begins_in, begins, initial_marks_from, initial_marks, begin_refusal, begun_into}
use Rattle.meaning.proofs.Tables.{inside as within}
use Rattle.meaning.proofs.Records.{Fits, length_record, phase_read, time_read, estimate_read, started_read, starts_read, marks_read, length_initial, length_root, begin_tests_lem, begun_fits, begun_bytes}
use Rattle.sentences.specs.Fields.{Fields}
use Rattle.sentences.specs.Allowed.{Child}
use Rattle.sentences.specs.Stepping.{BegunWith, itself, seq_first, par_all, maintain_child, repeat_child}
use Rattle.meaning.proofs.Nesting.{nested, parent_inside, inside_parent, Closed, closed_inside, closed_none, closed_rest}

-- part q's marks once it is initialised, by the numbers of the parts
module _ (t : List ℕ) (table : is_table t ≡ true) (q : ℕ) (marked : ℕ → ℕ) where
  -- Before part n, where the first `skip` parts from it on stand in a part that is not initialised:
  -- of the parents before n, those of these parts are not initialised, and those of the others are
  record Open (n skip : ℕ) : Type 0 where
    after : q < n
    closed : Closed t table n skip
    idle : (p : ℕ) → n ≤ p → p < n + skip → Inside t q p → parent_at t p < n → marked (parent_at t p) ≡ 0
    begun : (p : ℕ) → n + skip ≤ p → Inside t q p → parent_at t p < n → marked (parent_at t p) ≡ 1

  -- part p's parent is part n, which ends after it, or stands before n
  abbrev By : ℕ → ℕ → Type 0
  By n p = ((parent_at t p ≡ n) × (p < end_at t n)) ⊎ (parent_at t p < n)

  parent_before : (n p : ℕ) → Inside t q p → parent_at t p < suc n → By n p
  parent_before n p i h = go (eq-or-lt_of_le (le_of_suc-le-suc h))
    where
      go : (parent_at t p ≡ n) ⊎ (parent_at t p < n) → By n p
      go (inl e) = inl (e, rw e at (inside_parent t table q p i).1)
      go (inr l) = inr l

  -- the same after part n, where it is initialised
  open_begun : (n : ℕ) → Open n 0 → marked n ≡ 1 → Open (suc n) 0
  open_begun n o m =
      record { after = omega (arith, o.after); closed = closed_none t table (suc n); idle = λ p h k i l. absurd (omega arith); begun = λ p h i l. go p (omega arith) i (parent_before n p i l) }
    where
      go : (p : ℕ) → n < p → Inside t q p → By n p → marked (parent_at t p) ≡ 1
      go p h i (inl e) = rw e.0 m
      go p h i (inr l) = o.begun p (omega arith) i l

  -- where it is not
  open_idle : (n : ℕ) → Open n 0 → marked n ≡ 0 → Open (suc n) (inside_of t n)
  open_idle n o m =
      record {
        after = omega (arith, o.after);
        closed = closed_inside t table n;
        idle = λ p h k i l. inner p (parent_inside t table n p (h, omega arith)) l;
        begun = λ p h i l. outer p h i (parent_before n p i l);
      }
    where
      inner : (p : ℕ) → (parent_at t p ≡ n) ⊎ Inside t n (parent_at t p) → parent_at t p < suc n → marked (parent_at t p) ≡ 0
      inner p (inl e) l = rw e m
      inner p (inr i) l = absurd (omega (arith, i.0))

      outer : (p : ℕ) → suc n + inside_of t n ≤ p → Inside t q p → By n p → marked (parent_at t p) ≡ 1
      outer p h i (inl e) = absurd (omega (arith, e.1))
      outer p h i (inr l) = o.begun p (omega arith) i l

  -- where it is skipped
  open_skipped : (n skip : ℕ) → Open n (suc skip) → marked n ≡ 0 → Open (suc n) skip
  open_skipped n skip o m =
      record {
        after = omega (arith, o.after);
        closed = closed_rest t table n skip o.closed;
        idle = λ p h k i l. inner p h k i (parent_before n p i l);
        begun = λ p h i l. outer p h i (parent_before n p i l);
      }
    where
      inner : (p : ℕ) → suc n ≤ p → p < suc n + skip → Inside t q p → By n p → marked (parent_at t p) ≡ 0
      inner p h k i (inl e) = rw e.0 m
      inner p h k i (inr l) = o.idle p (omega arith) (omega arith) i l

      outer : (p : ℕ) → suc n + skip ≤ p → Inside t q p → By n p → marked (parent_at t p) ≡ 1
      outer p h i (inl e) = absurd (omega (arith, e.1, o.closed n (omega arith) (omega arith)))
      outer p h i (inr l) = o.begun p (omega arith) i l

  -- where it stands in an initialised part, and begins with it or does not
  open_next : (n : ℕ) → Open n 0 → (b : Bool) → marked n ≡ flag b → Open (suc n) (cond b 0 (inside_of t n))
  open_next n o true m = open_begun n o m
  open_next n o false m = open_idle n o m

  -- a part is initialised where its parent is and begins it
  abbrev Begun : ℕ → Type 0
  Begun p = marked p ≡ flag (begins t p && is_mark (marked (parent_at t p)))

  -- the first of some parts, or one after it
  first_or : (n p : ℕ) → n ≤ p → Begun n → (n < p → Begun p) → Begun p
  first_or n p h first later = go (eq-or-lt_of_le h)
    where
      go : (n ≡ p) ⊎ (n < p) → Begun p
      go (inl e) = rw (← e) first
      go (inr l) = later l

  -- so are all parts from n on
  initialised_from : (k n skip : ℕ) → n + k ≡ end_at t q → Open n skip → ((i : ℕ) → i < k → marked (n + i) ≡ get_or (initial_marks_from t n k skip) i 0) → (p : ℕ) → Inside t q p → n ≤ p → Begun p
  unfolding initial_marks_from
  initialised_from zero n skip e o f p i h = absurd (omega arith)
  initialised_from (suc k) n zero e o f p i h =
      let m : marked n ≡ flag (begins t n) = rw add-zero at (f 0 (omega arith)) in
      let own : Inside t q n = (o.after, omega arith) in
      first_or n p h (rw (o.begun n (omega arith) own (inside_parent t table q n own).0, and-true) m)
      (initialised_from k (suc n) (cond (begins t n) 0 (inside_of t n)) (omega arith) (open_next n o (begins t n) m) (λ j l. rw (suc-add n j, ← add-suc n j) (f (suc j) (omega arith))) p i)
  initialised_from (suc k) n (suc skip) e o f p i h =
      let m : marked n ≡ 0 = rw add-zero at (f 0 (omega arith)) in
      let own : Inside t q n = (o.after, omega arith) in
      first_or n p h (rw (o.idle n (omega arith) (omega arith) own (inside_parent t table q n own).0, and-false) m)
      (initialised_from k (suc n) skip (omega arith) (open_skipped n skip o m) (λ j l. rw (suc-add n j, ← add-suc n j) (f (suc j) (omega arith))) p i)

-- "SEQ's first child, all of PAR's, MAINTAIN's and REPEAT's child, and none of CHOICE's", kind by kind and in one
module _ (t : List ℕ) (q : ℕ) where
  pub begun_ind : (P : ℕ → Type 0) → P q → ((u p : ℕ) → P u → Child t u p → begins_in (kind_at t u) u p ≡ true → P p) → {p : ℕ} → BegunWith t q p → P p
  unfolding begins_in
  begun_ind P own step itself = own
  begun_ind P own step (seq_first u b k c) = step u (suc u) (begun_ind P own step b) c (rw k (eq-eqb (suc u) (suc u) refl))
  begun_ind P own step (par_all u p b k c) = step u p (begun_ind P own step b) c (rw k)
  begun_ind P own step (maintain_child u p b k c) = step u p (begun_ind P own step b) c (rw k)
  begun_ind P own step (repeat_child u p b k c) = step u p (begun_ind P own step b) c (rw k)

  begun_child : (u p : ℕ) → BegunWith t q u → Child t u p → (k : Kind) → kind_at t u ≡ k → begins_in k u p ≡ true → BegunWith t q p
  unfolding begins_in
  begun_child u p b c UNKNOWN k e = absurd (false≢true e)
  begun_child u p b c GOAL k e = absurd (false≢true e)
  begun_child u p b c START k e = absurd (false≢true e)
  begun_child u p b c WAIT k e = absurd (false≢true e)
  begun_child u p b c SEQ k e =
      let first : suc u ≡ p = sym (eqb-true p (suc u) e) in
      subst (BegunWith t q) first (seq_first u b k (rw first c))
  begun_child u p b c PAR k e = par_all u p b k c
  begun_child u p b c MAINTAIN k e = maintain_child u p b k c
  begun_child u p b c CHOICE k e = absurd (false≢true e)
  begun_child u p b c REPEAT k e = repeat_child u p b k c

flag_true : (b : Bool) → is_mark (flag b) ≡ true → b ≡ true
flag_true true e = refl
flag_true false e = e

-- "To initialise is to mark the part"
pub initialised_itself : (t : List ℕ) (q : ℕ) → get_or (initial_marks t q) 0 0 ≡ 1
unfolding initial_marks
initialised_itself t q = refl

module _ (t : List ℕ) (table : is_table t ≡ true) (q : ℕ) where
  -- there is a mark for each part from the initialised one to its end
  pub initialised_length : q < parts t → length (initial_marks t q) ≡ end_at t q - q
  initialised_length h = omega (arith, length_initial t q, (within t table q h).end_after)

  -- the mark of a part, by its number
  abbrev mark_of : ℕ → ℕ
  mark_of p = get_or (initial_marks t q) (p - q) 0

  -- the parts inside the initialised one, before the first of them
  open_self : Open t table q mark_of (suc q) 0
  open_self =
      record { after = omega arith; closed = closed_none t table (suc q); idle = λ p h k i l. absurd (omega arith); begun = λ p h i l. own p (parent_inside t table q p i) l }
    where
      own : (p : ℕ) → (parent_at t p ≡ q) ⊎ Inside t q (parent_at t p) → parent_at t p < suc q → mark_of (parent_at t p) ≡ 1
      own p (inl e) l = rw (e, sub_self) (initialised_itself t q)
      own p (inr i) l = absurd (omega (arith, i.0))

  -- "and initialise SEQ's first child, all of PAR's, MAINTAIN's and REPEAT's child, and none of CHOICE's":
  -- a part inside is initialised exactly where its parent is and the parent's kind begins it
  pub initialised_inside : (p : ℕ) → Inside t q p → get_or (initial_marks t q) (p - q) 0 ≡ flag (begins t p && is_mark (get_or (initial_marks t q) (parent_at t p - q) 0))
  unfolding initial_marks
  initialised_inside p i =
      initialised_from t table q mark_of (inside_of t q) (suc q) 0 (omega arith) open_self (λ j l. later j) p i i.0
    where
      later : (j : ℕ) → mark_of (suc q + j) ≡ get_or (initial_marks_from t (suc q) (inside_of t q) 0) j 0
      later j =
          let e : suc q + j - q ≡ suc j = omega arith in
          rw e

  -- a child of part q, or of a part inside it, stands inside it
  child_within : (u p : ℕ) → (q ≤ u) × (u < end_at t q) → Child t u p → Inside t q p
  child_within u p i c = go (eq-or-lt_of_le i.0)
    where
      go : (q ≡ u) ⊎ (q < u) → Inside t q p
      go (inl f) = rw f (c.after, c.before_end)
      go (inr f) = omega (arith, c.after, c.before_end, nested t table q u (f, i.1))

  -- so a part that is marked where part q is initialised is q or stands inside it
  pub begun_within : q < end_at t q → {p : ℕ} → BegunWith t q p → (q ≤ p) × (p < end_at t q)
  begun_within a = begun_ind t q (λ p. (q ≤ p) × (p < end_at t q)) (omega arith) (λ u p i c e. omega (arith, child_within u p i c))

  -- and so does the parent of a part inside it, or it is q
  parent_within : (p u : ℕ) → Inside t q p → parent_at t p ≡ u → (q ≤ u) × (u < end_at t q)
  parent_within p u i e = go (parent_inside t table q p i)
    where
      go : (parent_at t p ≡ q) ⊎ Inside t q (parent_at t p) → (q ≤ u) × (u < end_at t q)
      go (inl f) = omega (arith, i.0, i.1)
      go (inr f) = omega (arith, f.0, f.1)

  -- the same as the marks say it
  begun_marked : q < end_at t q → {p : ℕ} → BegunWith t q p → is_mark (mark_of p) ≡ true
  begun_marked a b = (begun_ind t q (λ p. (q ≤ p) × (p < end_at t q) × (is_mark (mark_of p) ≡ true)) (omega arith, a, rw (sub_self, initialised_itself t q)) step b).2
    where
      step : (u p : ℕ) → (q ≤ u) × (u < end_at t q) × (is_mark (mark_of u) ≡ true) → Child t u p → begins_in (kind_at t u) u p ≡ true → (q ≤ p) × (p < end_at t q) × (is_mark (mark_of p) ≡ true)
      step u p i c e =
          let j = child_within u p (i.0, i.1) c in
          (omega (arith, j), j.1, rw (initialised_inside p j, c.parent_is, e, i.2))

  begun_step : q < end_at t q → (p : ℕ) → q ≤ p → p < end_at t q → is_mark (mark_of p) ≡ true → ((u : ℕ) → u < p → q ≤ u → u < end_at t q → is_mark (mark_of u) ≡ true → BegunWith t q u) → BegunWith t q p
  begun_step a p from before m outer = go (eq-or-lt_of_le from)
    where
      go : (q ≡ p) ⊎ (q < p) → BegunWith t q p
      go (inl e) = subst (λ y. BegunWith t q y) e itself
      go (inr l) =
          let u : ℕ = parent_at t p in
          let i : Inside t q p = (l, before) in
          let b = flag_true (begins t p && is_mark (mark_of u)) (rw (initialised_inside p i) at m) in
          let its = inside_parent t table q p i in
          let above = parent_within p u i refl in
          begun_child t q u p (outer u its.0 above.0 above.1 (and_right (begins t p) (is_mark (mark_of u)) b)) (record { after = its.0; before_end = its.1; parent_is = refl }) (kind_at t u) refl (and_left (begins t p) (is_mark (mark_of u)) b)

  marked_begun : q < end_at t q → (k p : ℕ) → p < k → q ≤ p → p < end_at t q → is_mark (mark_of p) ≡ true → BegunWith t q p
  marked_begun a zero p l from before m = absurd (omega arith)
  marked_begun a (suc k) p l from before m = begun_step a p from before m (λ u b. marked_begun a k u (omega arith))

  pub initialised_begun : q < end_at t q → (p : ℕ) → q ≤ p → p < end_at t q → (is_mark (get_or (initial_marks t q) (p - q) 0) ≡ true) ↔ BegunWith t q p
  initialised_begun a p from before = (marked_begun a (suc p) p (omega arith) from before, begun_marked a)

module _ (t est r : List ℕ) where
  -- "Beginning a run: phase 0, last time 0, no clock started, the estimate stored, the root initialised"; "A longer buffer's further bytes are untouched"
  pub begun_record : begin_refusal t est (length r) ≡ 0
      → Fields t (begun_into t est r) waiting 0 est (replicate (clocks t) 0) (replicate (clocks t) 0) (initial_marks t 0) (drop record_length r)
  begun_record h =
      let table : is_table t ≡ true = (begin_tests_lem t est (length r) h).0 in
      let whole : length (initial_marks t 0) ≡ parts t = length_root t table in
      let fits : Fits t 0 est (replicate (clocks t) 0) (replicate (clocks t) 0) (initial_marks t 0) = begun_fits t est (length r) h whole in
      let more : List ℕ = drop record_length r in
      let bytes : List ℕ = record_bytes waiting 0 est (replicate (clocks t) 0) (replicate (clocks t) 0) (initial_marks t 0) in
      subst (λ (b : List ℕ). Fields t b waiting 0 est (replicate (clocks t) 0) (replicate (clocks t) 0) (initial_marks t 0) more) (sym (begun_bytes t est r h whole))
      (record {
        phase_is = phase_read fits waiting more;
        time_is = time_read fits waiting more;
        estimate_is = estimate_read fits waiting more;
        started_is = started_read fits waiting more;
        starts_are = starts_read fits waiting more;
        marks_are = marks_read fits waiting more;
        more_is = ap (λ (n : ℕ). drop n (bytes ++ more)) (sym (length_record fits.shape waiting 0)) ∙ drop-append_seam bytes more;
      })
