-- The passes over a table do with the marks of what remains of a part what the unfolding does with what remains.
use Prim.Native.Nat.{ℕ, zero, suc, ◌+◌, ◌<◌}
use native.Mathlib.Nat.{add-zero, add-suc, suc-add}
use native.Mathlib.Omega.{arith}
use mathlib.Core.Path.{◌≡◌, refl, sym, ap, ap₂, ◌∙◌}
use mathlib.Core.Logic.{inl, inr}
use mathlib.Core.Bool.{Bool, true, false, cond, ◌&&◌}
use mathlib.Core.List.{List, [], ◌∷◌, ◌++◌, append-nil}
use lib.ListN.{length, drop, length-replicate}
use borrow.Author.Tests.{eq-eqb, ne_eqb}
use Rattle.meaning.specs.declared.Entry.{Entry}
use Rattle.meaning.specs.declared.Operand.{Operand}
use Rattle.meaning.specs.declared.kinds.Kind.{Kind}
use Rattle.meaning.specs.declared.kinds.Kind.TheVariants.{Seq as SEQ, Par as PAR, Maintain as MAINTAIN}
use Rattle.meaning.specs.Kinds.{number_of}
use Rattle.meaning.specs.Tree.{Part, Parts, goal, start, wait, seq, par, maintain, choice, repeat, one, more, list_of, operand, size}
use Rattle.meaning.specs.Table.{kind_at, inside_of}
use Rattle.meaning.specs.Conditions.{Situation, violated}
use Rattle.meaning.specs.Cycle.{begins_in, begins, initial_marks_from, initial_marks, is_kind, is_leaf, checked_from, leaves_from}
use Rattle.meaning.proofs.Trees.{entry_of, sizes, inner, size_inner}
use Rattle.meaning.proofs.Lies.{Lies, LieIn, own_row, own_inside, children_lie, first_lies, others_lie}
use Rattle.agreement.specs.Unfolding.{Rest, Current, Running, this, that, both, broken, holding, undecided, first, second, afresh, afresh_first, afresh_all, check, check_current, check_running, working, working_current, working_running}
use Rattle.agreement.proofs.Marks.{blank, marks_of, marks_current, marks_running}
use Rattle.agreement.proofs.Shapes.{marks_front, length_marks, length_inner, blank_both}
use Rattle.agreement.proofs.Over.{Over, over_none, over_all, over_both, over_part, over_blank}

-- Marked leaves
module _ (t : List ℕ) where
  -- blanks hold no leaf
  pub leaves_blank : (k : ℕ) {n : ℕ} → Over (leaves_from t) n k (blank k) []
  unfolding leaves_from
  leaves_blank = over_blank [] (λ k. []) refl (λ k. refl) (λ n ms. refl)

  leaves_before : {n a : ℕ} {xs : List ℕ} {ys : List Entry} → Over (leaves_from t) n a xs ys → (b : ℕ) → Over (leaves_from t) n (a + b) (xs ++ blank b) ys
  leaves_before h b = rw append-nil at (over_both h (leaves_blank b))

  -- a marked part is a leaf by its own entry
  leaves_part : {p : Part} {n q x : ℕ} → Lies t p n q x → {xs : List ℕ} {ys : List Entry} → Over (leaves_from t) (suc n) (inner p) xs ys → Over (leaves_from t) n (size p) (1 ∷ xs) (cond (is_leaf (entry_of p)) (entry_of p ∷ []) [] ++ ys)
  unfolding leaves_from
  leaves_part {p} {n} l h = over_part p (cond (is_leaf (entry_of p)) (entry_of p ∷ []) []) (λ ms. ap (λ (e : Entry). cond (is_leaf e) (e ∷ []) [] ++ leaves_from t (suc n) ms) (own_row l).entry_is) h

  mutual
    unfolding number_of marks_of marks_current marks_running working working_current working_running

    -- the marked leaves are those at work
    pub leaves_lies : (p : Part) {n q x : ℕ} → Lies t p n q x → (r : Rest p) → Over (leaves_from t) n (size p) (marks_of p r) (working p r)
    leaves_lies (goal o) l r = leaves_part l over_none
    leaves_lies (start o) l r = leaves_part l over_none
    leaves_lies (wait o) l r = leaves_part l over_none
    leaves_lies (seq ps) l r = leaves_part l (leaves_current ps (children_lie l) r)
    leaves_lies (par ps) l r = leaves_part l (leaves_running ps (children_lie l) r)
    leaves_lies (maintain o p) l broken = leaves_part l (leaves_blank (size p))
    leaves_lies (maintain o p) l (holding r) = leaves_part l (leaves_lies p (first_lies (children_lie l)) r)
    leaves_lies (choice o p q) l undecided = leaves_part l (leaves_before (leaves_blank (size p)) (size q))
    leaves_lies (choice o p q) l (first r) = leaves_part l (leaves_before (leaves_lies p (first_lies (children_lie l)) r) (size q))
    leaves_lies (choice o p q) l (second r) = leaves_part l (over_both (leaves_blank (size p)) (leaves_lies q (first_lies (others_lie (children_lie l))) r))
    leaves_lies (repeat p) l r = leaves_part l (leaves_lies p (first_lies (children_lie l)) r)

    leaves_current : (ps : Parts) {k : Kind} {q n : ℕ} → LieIn t k q n (list_of ps) → (c : Current ps) → Over (leaves_from t) n (sizes ps) (marks_current ps c) (working_current ps c)
    leaves_current (one p) l r = leaves_lies p (first_lies l) r
    leaves_current (more p ps) l (inl r) = leaves_before (leaves_lies p (first_lies l) r) (sizes ps)
    leaves_current (more p ps) l (inr c) = over_both (leaves_blank (size p)) (leaves_current ps (others_lie l) c)

    leaves_running : (ps : Parts) {k : Kind} {q n : ℕ} → LieIn t k q n (list_of ps) → (c : Running ps) → Over (leaves_from t) n (sizes ps) (marks_running ps c) (working_running ps c)
    leaves_running (one p) l r = leaves_lies p (first_lies l) r
    leaves_running (more p ps) l (this r) = leaves_before (leaves_lies p (first_lies l) r) (sizes ps)
    leaves_running (more p ps) l (that c) = over_both (leaves_blank (size p)) (leaves_running ps (others_lie l) c)
    leaves_running (more p ps) l (both r c) = over_both (leaves_lies p (first_lies l) r) (leaves_running ps (others_lie l) c)

  -- the same where nothing follows
  pub leaves_whole : (p : Part) {n q x : ℕ} → Lies t p n q x → (r : Rest p) → leaves_from t n (marks_of p r) ≡ working p r
  unfolding leaves_from
  leaves_whole p l r = over_all (λ m. refl) (leaves_lies p l r)

-- The offer's check, where nothing is to be skipped
abbrev pub checking : List ℕ → Situation → ℕ → List ℕ → List ℕ
checking t sit n ms = checked_from t sit n ms 0

-- the marks inside a MAINTAIN found violated or not
kept_marks : (o : Operand) (p : Part) (r : Rest p) (b : Bool) → 1 ∷ cond b (blank (size p)) (marks_of p r) ≡ marks_of (maintain o p) (cond b broken (holding r))
unfolding marks_of
kept_marks o p r true = refl
kept_marks o p r false = refl

-- a mark lost either way
either_way : (b : Bool) (xs : List ℕ) → cond b xs xs ≡ xs
either_way true xs = refl
either_way false xs = refl

module _ (t : List ℕ) (sit : Situation) where
  -- blanks stay blanks
  pub check_blank : (k : ℕ) {n : ℕ} → Over (checking t sit) n k (blank k) (blank k)
  unfolding checked_from
  check_blank = over_blank (0 ∷ []) blank refl (λ k. refl) (λ n ms. refl)

  -- marks that are skipped are lost
  pub check_skip : (xs ms : List ℕ) (n : ℕ) → checked_from t sit n (xs ++ ms) (length xs) ≡ blank (length xs) ++ checked_from t sit (n + length xs) ms 0
  unfolding checked_from
  check_skip [] ms n = rw add-zero
  check_skip (x ∷ xs) ms n = rw (check_skip xs ms (suc n), add-suc n, suc-add n)

  module _ {p : Part} {n q x : ℕ} (l : Lies t p n q x) where
    -- a marked part is violated by its own kind and operand
    check_step : (ms : List ℕ) → checked_from t sit n (1 ∷ ms) 0 ≡ 1 ∷ checked_from t sit (suc n) ms (cond (is_kind MAINTAIN (entry_of p) && violated sit (operand p)) (inner p) 0)
    unfolding checked_from
    check_step ms = ap₂ (λ (e : Entry) (i : ℕ). 1 ∷ checked_from t sit (suc n) ms (cond (is_kind MAINTAIN e && violated sit e.operand) i 0)) (own_row l).entry_is (own_inside l)

    check_part : {xs ys : List ℕ} → is_kind MAINTAIN (entry_of p) ≡ false → Over (checking t sit) (suc n) (inner p) xs ys → Over (checking t sit) n (size p) (1 ∷ xs) (1 ∷ ys)
    check_part k h = over_part p (1 ∷ []) (λ ms. check_step ms ∙ rw k) h

  -- a marked MAINTAIN loses what is inside it, or keeps what its check leaves
  check_maintain : {o : Operand} {p : Part} {n q x : ℕ} → Lies t (maintain o p) n q x → {xs ys : List ℕ} → length xs ≡ size p → Over (checking t sit) (suc n) (size p) xs ys → (b : Bool) → violated sit o ≡ b → Over (checking t sit) n (size (maintain o p)) (1 ∷ xs) (1 ∷ cond b (blank (size p)) ys)
  unfolding number_of
  check_maintain {o} {p} {n} l {xs} e h true v =
      record { over = λ ms. check_step l (xs ++ ms) ∙ rw (v, size_inner (maintain o p), add-suc n, ← suc-add n, ← e) (ap (λ m. 1 ∷ m) (check_skip xs ms (suc n))) }
  check_maintain {o} {p} l e h false v = over_part (maintain o p) (1 ∷ []) (λ ms. check_step l ms ∙ rw v) h

  mutual
    unfolding number_of marks_of marks_current marks_running check check_current check_running

    -- an offer's check of the marks is the check of what remains
    pub check_lies : (p : Part) {n q x : ℕ} → Lies t p n q x → (r : Rest p) → Over (checking t sit) n (size p) (marks_of p r) (marks_of p (check sit p r))
    check_lies (goal o) l r = check_part l refl over_none
    check_lies (start o) l r = check_part l refl over_none
    check_lies (wait o) l r = check_part l refl over_none
    check_lies (seq ps) l r = check_part l refl (check_current_lem ps (children_lie l) r)
    check_lies (par ps) l r = check_part l refl (check_running_lem ps (children_lie l) r)
    check_lies (maintain o p) l broken = rw (either_way (violated sit o)) at (check_maintain l (length-replicate (size p) 0) (check_blank (size p)) (violated sit o) refl)
    check_lies (maintain o p) l (holding r) = rw (kept_marks o p (check sit p r) (violated sit o)) at (check_maintain l (length_marks p r) (check_lies p (first_lies (children_lie l)) r) (violated sit o) refl)
    check_lies (choice o p q) l undecided = check_part l refl (over_both (check_blank (size p)) (check_blank (size q)))
    check_lies (choice o p q) l (first r) = check_part l refl (over_both (check_lies p (first_lies (children_lie l)) r) (check_blank (size q)))
    check_lies (choice o p q) l (second r) = check_part l refl (over_both (check_blank (size p)) (check_lies q (first_lies (others_lie (children_lie l))) r))
    check_lies (repeat p) l r = check_part l refl (check_lies p (first_lies (children_lie l)) r)

    check_current_lem : (ps : Parts) {k : Kind} {q n : ℕ} → LieIn t k q n (list_of ps) → (c : Current ps) → Over (checking t sit) n (sizes ps) (marks_current ps c) (marks_current ps (check_current sit ps c))
    check_current_lem (one p) l r = check_lies p (first_lies l) r
    check_current_lem (more p ps) l (inl r) = over_both (check_lies p (first_lies l) r) (check_blank (sizes ps))
    check_current_lem (more p ps) l (inr c) = over_both (check_blank (size p)) (check_current_lem ps (others_lie l) c)

    check_running_lem : (ps : Parts) {k : Kind} {q n : ℕ} → LieIn t k q n (list_of ps) → (c : Running ps) → Over (checking t sit) n (sizes ps) (marks_running ps c) (marks_running ps (check_running sit ps c))
    check_running_lem (one p) l r = check_lies p (first_lies l) r
    check_running_lem (more p ps) l (this r) = over_both (check_lies p (first_lies l) r) (check_blank (sizes ps))
    check_running_lem (more p ps) l (that c) = over_both (check_blank (size p)) (check_running_lem ps (others_lie l) c)
    check_running_lem (more p ps) l (both r c) = over_both (check_lies p (first_lies l) r) (check_running_lem ps (others_lie l) c)

  -- the same where nothing follows
  pub check_whole : (p : Part) {n q x : ℕ} → Lies t p n q x → (r : Rest p) → checked_from t sit n (marks_of p r) 0 ≡ marks_of p (check sit p r)
  unfolding checked_from
  check_whole p l r = over_all (λ m. refl) (check_lies p l r)

-- Initialising: the marks of the parts at the places of any marks
abbrev pub initialising : List ℕ → ℕ → List ℕ → List ℕ
initialising t n ms = initial_marks_from t n (length ms) 0

module _ (t : List ℕ) where
  -- parts that are skipped are not initialised
  initial_skip : (k : ℕ) (ms : List ℕ) (n : ℕ) → initial_marks_from t n (length (blank k ++ ms)) k ≡ blank k ++ initial_marks_from t (n + k) (length ms) 0
  unfolding initial_marks_from
  initial_skip zero ms n = rw add-zero
  initial_skip (suc k) ms n = rw (initial_skip k ms (suc n), add-suc n, suc-add n)

  module _ {k : Kind} {q n : ℕ} {p : Part} {ps : List Part} (l : LieIn t k q n (p ∷ ps)) where
    -- a child begins with its parent by the parent's kind
    begins_child : begins t n ≡ begins_in k q n
    begins_child = ap (λ (m : ℕ). begins_in (kind_at t m) m n) (own_row (first_lies l)).parent_is ∙ ap (λ (j : Kind). begins_in j q n) l.kind_is

    -- a child that does not begin with its parent
    initial_idle : begins_in k q n ≡ false → Over (initialising t) n (size p) (blank (size p)) (blank (size p))
    unfolding initial_marks_from
    initial_idle e = rw (size_inner p) (record { over = λ ms. rw (begins_child, e, own_inside (first_lies l), initial_skip (inner p) ms (suc n), add-suc n, suc-add n) })

    -- a child that does
    initial_child : begins_in k q n ≡ true → Over (initialising t) (suc n) (inner p) (drop 1 (marks_of p (afresh p))) (drop 1 (marks_of p (afresh p))) → Over (initialising t) n (size p) (marks_of p (afresh p)) (marks_of p (afresh p))
    unfolding initial_marks_from
    initial_child e h = rw (marks_front p (afresh p)) (over_part p (1 ∷ []) (λ ms. rw (begins_child, e)) h)

  -- the later children of a SEQ
  initial_later : (ps : Parts) {q n : ℕ} → LieIn t SEQ q n (list_of ps) → suc q < n → Over (initialising t) n (sizes ps) (blank (sizes ps)) (blank (sizes ps))
  unfolding begins_in
  initial_later (one p) {q} {n} l h = initial_idle l (ne_eqb n (suc q) (λ e. omega arith))
  initial_later (more p ps) {q} {n} l h =
      rw blank_both at (over_both (initial_idle l (ne_eqb n (suc q) (λ e. omega arith))) (initial_later ps (others_lie l) (omega arith)))

  mutual
    unfolding begins_in marks_of marks_current marks_running afresh afresh_first afresh_all

    -- what is initialised inside a part is what it has inside it afresh
    pub initial_inside : (p : Part) {n q x : ℕ} → Lies t p n q x → Over (initialising t) (suc n) (inner p) (drop 1 (marks_of p (afresh p))) (drop 1 (marks_of p (afresh p)))
    initial_inside (goal o) l = over_none
    initial_inside (start o) l = over_none
    initial_inside (wait o) l = over_none
    initial_inside (seq ps) l = initial_first ps (children_lie l)
    initial_inside (par ps) l = initial_all ps (children_lie l)
    initial_inside (maintain o p) l = initial_child (children_lie l) refl (initial_inside p (first_lies (children_lie l)))
    initial_inside (choice o p q) l = over_both (initial_idle (children_lie l) refl) (initial_idle (others_lie (children_lie l)) refl)
    initial_inside (repeat p) l = initial_child (children_lie l) refl (initial_inside p (first_lies (children_lie l)))

    initial_first : (ps : Parts) {q : ℕ} → LieIn t SEQ q (suc q) (list_of ps) → Over (initialising t) (suc q) (sizes ps) (marks_current ps (afresh_first ps)) (marks_current ps (afresh_first ps))
    initial_first (one p) {q} l = initial_child l (eq-eqb (suc q) (suc q) refl) (initial_inside p (first_lies l))
    initial_first (more p ps) {q} l = over_both (initial_child l (eq-eqb (suc q) (suc q) refl) (initial_inside p (first_lies l))) (initial_later ps (others_lie l) (omega (arith, size_inner p)))

    initial_all : (ps : Parts) {q n : ℕ} → LieIn t PAR q n (list_of ps) → Over (initialising t) n (sizes ps) (marks_running ps (afresh_all ps)) (marks_running ps (afresh_all ps))
    initial_all (one p) l = initial_child l refl (initial_inside p (first_lies l))
    initial_all (more p ps) l = over_both (initial_child l refl (initial_inside p (first_lies l))) (initial_all ps (others_lie l))

  -- a part initialised is that part afresh
  pub initial_lies : (p : Part) {n q x : ℕ} → Lies t p n q x → initial_marks t n ≡ marks_of p (afresh p)
  unfolding initial_marks initial_marks_from
  initial_lies p {n} l =
      let e : length (drop 1 (marks_of p (afresh p)) ++ []) ≡ inside_of t n = rw append-nil (length_inner p (afresh p) ∙ sym (own_inside l)) in
      rw (← e, (initial_inside p l).over [], append-nil) (sym (marks_front p (afresh p)))
