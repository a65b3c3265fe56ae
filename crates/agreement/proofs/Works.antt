-- After a settling no MAINTAIN is broken, and then a run never stalls: a leaf or a deciding CHOICE is marked, or the root has ended.
use Prim.Native.Nat.{ℕ, zero, suc, ◌+◌}
use native.Mathlib.Nat.{add-zero, add-suc, suc-add}
use mathlib.Core.Path.{◌≡◌, refl, ap₂, ◌∙◌}
use mathlib.Core.Logic.{inl, inr}
use mathlib.Core.Bool.{Bool, true, false, cond, not, ◌&&◌, ◌||◌, or-true}
use mathlib.Core.Option.{Option, none, some, map}
use mathlib.Core.List.{List, [], ◌∷◌, ◌++◌, append_assoc, append-nil}
use lib.ListN.{take, length-replicate}
use lib.Seq.{take_at}
use Rattle.base.specs.Lists.{any}
use Rattle.meaning.specs.declared.Entry.{Entry}
use Rattle.meaning.specs.declared.Operand.{Operand}
use Rattle.meaning.specs.Sizes.{no_part}
use Rattle.meaning.specs.declared.kinds.Kind.{Kind}
use Rattle.meaning.specs.declared.kinds.Kind.TheVariants.{Choice as CHOICE}
use Rattle.meaning.specs.Kinds.{number_of}
use Rattle.meaning.specs.Tree.{Part, Parts, goal, start, wait, seq, par, maintain, choice, repeat, one, more, list_of, size}
use Rattle.meaning.specs.Conditions.{Situation, reached, satisfied}
use Rattle.meaning.specs.Record.{is_mark}
use Rattle.meaning.specs.Cycle.{is_kind, is_leaf, settled_from, root_ended, works_from}
use Rattle.meaning.proofs.Trees.{entry_of, sizes, inner}
use Rattle.meaning.proofs.Lies.{Lies, LieIn, own_row, own_inside, children_lie, first_lies, others_lie}
use Rattle.agreement.specs.Unfolding.{Rest, Current, Running, this, that, both, broken, holding, undecided, first, second, afresh, afresh_first, afresh_all, onward, rest_of_both, settle, settle_current, settle_running}
use Rattle.agreement.proofs.Marks.{blank, marks_of, marks_current, marks_running}
use Rattle.agreement.proofs.Shapes.{blank_both, any_blank}
use Rattle.agreement.proofs.Settles.{marks_left, settle_root, root_ended_lem}

-- no MAINTAIN in what remains is broken
abbrev mutual
  pub Holding : (p : Part) → Rest p → Type 0
  Holding (goal o) r = Unit {0}
  Holding (start o) r = Unit {0}
  Holding (wait o) r = Unit {0}
  Holding (seq ps) r = HoldingCurrent ps r
  Holding (par ps) r = HoldingRunning ps r
  Holding (maintain o p) broken = ⊥
  Holding (maintain o p) (holding r) = Holding p r
  Holding (choice o p q) undecided = Unit {0}
  Holding (choice o p q) (first r) = Holding p r
  Holding (choice o p q) (second r) = Holding q r
  Holding (repeat p) r = Holding p r

  pub HoldingCurrent : (ps : Parts) → Current ps → Type 0
  HoldingCurrent (one p) r = Holding p r
  HoldingCurrent (more p ps) (inl r) = Holding p r
  HoldingCurrent (more p ps) (inr c) = HoldingCurrent ps c

  pub HoldingRunning : (ps : Parts) → Running ps → Type 0
  HoldingRunning (one p) r = Holding p r
  HoldingRunning (more p ps) (this r) = Holding p r
  HoldingRunning (more p ps) (that c) = HoldingRunning ps c
  HoldingRunning (more p ps) (both r c) = Holding p r × HoldingRunning ps c

mutual
  unfolding afresh afresh_first afresh_all

  -- afresh nothing is broken
  pub afresh_holding : (p : Part) → Holding p (afresh p)
  afresh_holding (goal o) = tt
  afresh_holding (start o) = tt
  afresh_holding (wait o) = tt
  afresh_holding (seq ps) = afresh_first_holding ps
  afresh_holding (par ps) = afresh_all_holding ps
  afresh_holding (maintain o p) = afresh_holding p
  afresh_holding (choice o p q) = tt
  afresh_holding (repeat p) = afresh_holding p

  afresh_first_holding : (ps : Parts) → HoldingCurrent ps (afresh_first ps)
  afresh_first_holding (one p) = afresh_holding p
  afresh_first_holding (more p ps) = afresh_holding p

  afresh_all_holding : (ps : Parts) → HoldingRunning ps (afresh_all ps)
  afresh_all_holding (one p) = afresh_holding p
  afresh_all_holding (more p ps) = (afresh_holding p, afresh_all_holding ps)

-- what holds of what remains, where something does
abbrev pub Remains : {A : Type 0} → (A → Type 0) → Option A → Type 0
Remains P none = Unit {0}
Remains P (some a) = P a

module _ {A B : Type 0} (P : A → Type 0) (Q : B → Type 0) (f : A → B) (h : (a : A) → P a → Q (f a)) where
  remains_map : (o : Option A) → Remains P o → Remains Q (map f o)
  remains_map none k = tt
  remains_map (some a) k = h a k

  remains_onward : (b : B) → Q b → (o : Option A) → Remains P o → Q (onward b f o)
  remains_onward b e none k = e
  remains_onward b e (some a) k = h a k

-- what holds of a child and of the others of a PAR holds of those that are left
remains_both : (p : Part) (ps : Parts) (o : Option (Rest p)) (u : Option (Running ps)) → Remains (Holding p) o → Remains (HoldingRunning ps) u → Remains (HoldingRunning (more p ps)) (rest_of_both o u)
remains_both p ps none none h k = tt
remains_both p ps none (some c) h k = k
remains_both p ps (some r) none h k = h
remains_both p ps (some r) (some c) h k = (h, k)

-- a leaf holds
remains_leaf : (b : Bool) → Remains (λ (r : Unit {0}). Unit {0}) (cond b none (some tt))
remains_leaf true = tt
remains_leaf false = tt

-- a CHOICE holds once it is decided
decided_holding : (o : Operand) (p q : Part) (b : Bool) → Holding (choice o p q) (cond b (first (afresh p)) (second (afresh q)))
decided_holding o p q true = afresh_holding p
decided_holding o p q false = afresh_holding q

module _ (sit : Situation) where
  mutual
    unfolding settle settle_current settle_running

    -- after a settling nothing is broken, whatever was before
    pub settle_holding : (p : Part) (r : Rest p) → Remains (Holding p) (settle sit p r)
    settle_holding (goal o) r = remains_leaf (reached sit o)
    settle_holding (start o) r = tt
    settle_holding (wait o) r = remains_leaf (satisfied sit o)
    settle_holding (seq ps) r = current_holding ps r
    settle_holding (par ps) r = running_holding ps r
    settle_holding (maintain o p) broken = tt
    settle_holding (maintain o p) (holding r) = remains_map (Holding p) (Holding (maintain o p)) holding (λ a h. h) (settle sit p r) (settle_holding p r)
    settle_holding (choice o p q) undecided = decided_holding o p q (satisfied sit o)
    settle_holding (choice o p q) (first r) = remains_map (Holding p) (Holding (choice o p q)) first (λ a h. h) (settle sit p r) (settle_holding p r)
    settle_holding (choice o p q) (second r) = remains_map (Holding q) (Holding (choice o p q)) second (λ a h. h) (settle sit q r) (settle_holding q r)
    settle_holding (repeat p) r = remains_onward (Holding p) (Holding p) (λ a. a) (λ a h. h) (afresh p) (afresh_holding p) (settle sit p r) (settle_holding p r)

    current_holding : (ps : Parts) (c : Current ps) → Remains (HoldingCurrent ps) (settle_current sit ps c)
    current_holding (one p) r = settle_holding p r
    current_holding (more p ps) (inl r) =
        remains_onward (Holding p) (HoldingCurrent (more p ps)) inl (λ a h. h) (inr (afresh_first ps)) (afresh_first_holding ps) (settle sit p r) (settle_holding p r)
    current_holding (more p ps) (inr c) = remains_map (HoldingCurrent ps) (HoldingCurrent (more p ps)) inr (λ a h. h) (settle_current sit ps c) (current_holding ps c)

    running_holding : (ps : Parts) (c : Running ps) → Remains (HoldingRunning ps) (settle_running sit ps c)
    running_holding (one p) r = settle_holding p r
    running_holding (more p ps) (this r) = remains_map (Holding p) (HoldingRunning (more p ps)) this (λ a h. h) (settle sit p r) (settle_holding p r)
    running_holding (more p ps) (that c) = remains_map (HoldingRunning ps) (HoldingRunning (more p ps)) that (λ a h. h) (settle_running sit ps c) (running_holding ps c)
    running_holding (more p ps) (both r c) = remains_both p ps (settle sit p r) (settle_running sit ps c) (settle_holding p r) (running_holding ps c)

-- a leaf or a deciding CHOICE is marked in the marks xs from number n on, whatever follows
pub record Works (t : List ℕ) (n : ℕ) (xs : List ℕ) : Type 0 where
  pub works : (ms : List ℕ) → works_from t n (xs ++ ms) ≡ true

module _ (t : List ℕ) where
  -- what works stands behind blanks, or at the front
  pub works_blank : (k n : ℕ) (ms : List ℕ) → works_from t n (blank k ++ ms) ≡ works_from t (n + k) ms
  unfolding works_from
  works_blank zero n ms = rw add-zero
  works_blank (suc k) n ms = rw (works_blank k (suc n) ms, add-suc n, suc-add n)

  works_later : (k : ℕ) {n : ℕ} {ys : List ℕ} → Works t (n + k) ys → Works t n (blank k ++ ys)
  works_later k {n} {ys} h = record { works = λ ms. rw (append_assoc (blank k)) (works_blank k n (ys ++ ms) ∙ h.works ms) }

  works_first : {n : ℕ} {xs : List ℕ} → Works t n xs → (ys : List ℕ) → Works t n (xs ++ ys)
  works_first {n} {xs} h ys = record { works = λ ms. rw (append_assoc xs) (h.works (ys ++ ms)) }

  module _ {p : Part} {n q x : ℕ} (l : Lies t p n q x) where
    -- a marked part works by its own entry or by what follows it
    works_step : (ms : List ℕ) → works_from t n (1 ∷ ms) ≡ (is_leaf (entry_of p) || (is_kind CHOICE (entry_of p) && not (any is_mark (take (inner p) ms))) || works_from t (suc n) ms)
    unfolding works_from
    works_step ms = ap₂ (λ (e : Entry) (i : ℕ). is_leaf e || (is_kind CHOICE e && not (any is_mark (take i ms))) || works_from t (suc n) ms) (own_row l).entry_is (own_inside l)

    works_inside : {xs : List ℕ} → Works t (suc n) xs → Works t n (1 ∷ xs)
    works_inside {xs} h = record { works = λ ms. works_step (xs ++ ms) ∙ rw (h.works ms, or-true) }

    works_leaf : is_leaf (entry_of p) ≡ true → Works t n (1 ∷ [])
    works_leaf e = record { works = λ ms. works_step ms ∙ rw e }

    works_deciding : (xs : List ℕ) → is_kind CHOICE (entry_of p) ≡ true → xs ≡ blank (inner p) → Works t n (1 ∷ xs)
    works_deciding xs k e = record { works = λ ms. works_step (xs ++ ms) ∙ rw (k, e, take_at (blank (inner p)) ms (inner p) (length-replicate (inner p) 0), any_blank (inner p), or-true) }

  mutual
    unfolding number_of marks_of marks_current marks_running

    -- what remains works, where nothing in it is broken
    pub works_lies : (p : Part) {n q x : ℕ} → Lies t p n q x → (r : Rest p) → Holding p r → Works t n (marks_of p r)
    works_lies (goal o) l r h = works_leaf l refl
    works_lies (start o) l r h = works_leaf l refl
    works_lies (wait o) l r h = works_leaf l refl
    works_lies (seq ps) l r h = works_inside l (works_current ps (children_lie l) r h)
    works_lies (par ps) l r h = works_inside l (works_running ps (children_lie l) r h)
    works_lies (maintain o p) l broken h = absurd h
    works_lies (maintain o p) l (holding r) h = works_inside l (works_lies p (first_lies (children_lie l)) r h)
    works_lies (choice o p q) l undecided h = works_deciding l (blank (size p) ++ blank (size q)) refl (blank_both (size p) (size q))
    works_lies (choice o p q) l (first r) h = works_inside l (works_first (works_lies p (first_lies (children_lie l)) r h) (blank (size q)))
    works_lies (choice o p q) l (second r) h = works_inside l (works_later (size p) (works_lies q (first_lies (others_lie (children_lie l))) r h))
    works_lies (repeat p) l r h = works_inside l (works_lies p (first_lies (children_lie l)) r h)

    works_current : (ps : Parts) {k : Kind} {q n : ℕ} → LieIn t k q n (list_of ps) → (c : Current ps) → HoldingCurrent ps c → Works t n (marks_current ps c)
    works_current (one p) l r h = works_lies p (first_lies l) r h
    works_current (more p ps) l (inl r) h = works_first (works_lies p (first_lies l) r h) (blank (sizes ps))
    works_current (more p ps) l (inr c) h = works_later (size p) (works_current ps (others_lie l) c h)

    works_running : (ps : Parts) {k : Kind} {q n : ℕ} → LieIn t k q n (list_of ps) → (c : Running ps) → HoldingRunning ps c → Works t n (marks_running ps c)
    works_running (one p) l r h = works_lies p (first_lies l) r h
    works_running (more p ps) l (this r) h = works_first (works_lies p (first_lies l) r h) (blank (sizes ps))
    works_running (more p ps) l (that c) h = works_later (size p) (works_running ps (others_lie l) c h)
    works_running (more p ps) l (both r c) h = works_first (works_lies p (first_lies l) r h.0) (marks_running ps c)

  -- the same where nothing follows
  pub works_whole : (p : Part) {n q x : ℕ} → Lies t p n q x → (r : Rest p) → Holding p r → works_from t n (marks_of p r) ≡ true
  works_whole p l r h = rw append-nil at ((works_lies p l r h).works [])

module _ (t : List ℕ) (sit : Situation) (p : Part) {q : ℕ} (l : Lies t p 0 q no_part) where
  -- what a settling leaves has ended or works
  left_works : (o : Option (Rest p)) → Remains (Holding p) o → (root_ended (marks_left p o) || works_from t 0 (marks_left p o)) ≡ true
  left_works none h = rw (root_ended_lem p none)
  left_works (some r) h = rw (works_whole t p l r h, or-true)

  -- after a settling the root has ended, or a leaf or a deciding CHOICE is marked: refusal 15 never comes
  pub never_stalls : (r : Rest p) → (root_ended (settled_from t sit 0 (marks_of p r)) || works_from t 0 (settled_from t sit 0 (marks_of p r))) ≡ true
  never_stalls r = rw (settle_root t sit p l r) (left_works (settle sit p r) (settle_holding sit p r))
