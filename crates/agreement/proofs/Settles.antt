-- A settling over a table does with the marks of what remains of a part what the unfolding's settling does with what remains.
use Prim.Native.Nat.{ℕ, suc, ◌+◌, ◌-◌, ◌≤◌, ◌<◌}
use native.Mathlib.Nat.{add_assoc}
use native.Mathlib.Omega.{arith}
use mathlib.Core.Path.{◌≡◌, refl, sym, ap, ap₂, ◌∙◌}
use mathlib.Core.Logic.{inl, inr}
use mathlib.Core.Bool.{Bool, true, false, cond, not}
use mathlib.Core.Option
use mathlib.Core.Option.{Option, none, some}
use mathlib.Core.List.{List, [], ◌∷◌, ◌++◌, map, append_assoc}
use lib.Dec.{eqb}
use lib.ListN.{length, take, length-append, length-replicate}
use lib.Seq.{sets, sets-eq, take_at, drop_at, take-append_seam, drop-append-add}
use borrow.Author.Tests.{ne_eqb}
use Rattle.base.specs.Lists.{any, nonempty}
use Rattle.meaning.specs.declared.Entry.{Entry}
use Rattle.meaning.specs.declared.Operand.{Operand}
use Rattle.meaning.specs.Sizes.{max_parts, no_part}
use Rattle.meaning.specs.declared.kinds.Kind.{Kind}
use Rattle.meaning.specs.declared.kinds.Kind.TheVariants.{Seq as SEQ, Par as PAR}
use Rattle.meaning.specs.Tree.{Part, Parts, goal, start, wait, seq, par, maintain, choice, repeat, one, more, list_of, kind, operand, size}
use Rattle.meaning.specs.Table.{next_of, block, kind_at, operand_of}
use Rattle.meaning.specs.Conditions.{Situation, reached, satisfied}
use Rattle.meaning.specs.Record.{is_mark}
use Rattle.meaning.specs.declared.Transition.TheVariants.{Stays, Ends, First, Second}
use Rattle.meaning.specs.Cycle.{ends_if, transition, initialised, applied, settled_from, root_ended}
use Rattle.meaning.proofs.Trees.{sizes, inner, size_inner}
use Rattle.meaning.proofs.Lies.{Lies, LieIn, own_row, own_kind, own_inside, children_lie, first_lies, others_lie}
use Rattle.agreement.specs.Unfolding.{Rest, Current, Running, this, that, both, broken, holding, undecided, first, second, afresh, afresh_first, onward, rest_of_both, settle, settle_current, settle_running}
use Rattle.agreement.proofs.Marks.{blank, marks_of, marks_current, marks_running}
use Rattle.agreement.proofs.Shapes.{marks_front, length_marks, blank_both, any_blank, any_marks, any_first, any_later, any_current, any_running}
use Rattle.agreement.proofs.Over.{Over, over_none, over_all, over_both, over_blank}
use Rattle.agreement.proofs.Passes.{initial_lies}

-- the marks from a part on where it has ended or something of it remains, once the parts after it are settled
abbrev pub left : List ℕ → (p : Part) → ℕ → ℕ → Option (Rest p) → List ℕ → List ℕ
left t p n x none rest = cond (eqb x no_part) (blank (size p) ++ rest) (initialised t n x (blank (size p) ++ rest))
left t p n x (some r) rest = marks_of p r ++ rest

-- of a part at number n with next x, what a settling leaves of its marks is what it leaves of what remains
pub record Settles (t : List ℕ) (sit : Situation) (p : Part) (n x : ℕ) (r : Rest p) : Type 0 where
  pub settles : (ms : List ℕ) → settled_from t sit n (marks_of p r ++ ms) ≡ left t p n x (settle sit p r) (settled_from t sit (n + size p) ms)

-- the marks of a part that has no next
abbrev pub marks_left : (p : Part) → Option (Rest p) → List ℕ
marks_left p o = onward (blank (size p)) (marks_of p) o

-- what is inside a composite afterwards, where it has ended or something of it remains
abbrev Comes : (p : Part) → List ℕ → Option (Rest p) → Type 0
Comes p ys none = ys ≡ blank (inner p)
Comes p ys (some r) = (marks_of p r ≡ 1 ∷ ys) × (any is_mark ys ≡ true)

-- as many marks are inside it as before
comes_length : (p : Part) (ys : List ℕ) (o : Option (Rest p)) → Comes p ys o → length ys ≡ inner p
comes_length p ys none c = rw c (length-replicate (inner p) 0)
comes_length p ys (some r) c = omega (arith, ap length c.0, length_marks p r, size_inner p)

-- of each kind of composite, from what is left of its children
comes_current : (ps : Parts) (o : Option (Current ps)) → Comes (seq ps) (onward (blank (sizes ps)) (marks_current ps) o) o
unfolding marks_of
comes_current ps none = refl
comes_current ps (some c) = (refl, any_current ps c)

comes_running : (ps : Parts) (o : Option (Running ps)) → Comes (par ps) (onward (blank (sizes ps)) (marks_running ps) o) o
unfolding marks_of
comes_running ps none = refl
comes_running ps (some c) = (refl, any_running ps c)

comes_holding : (i : Operand) (p : Part) (o : Option (Rest p)) → Comes (maintain i p) (marks_left p o) (Option.map holding o)
unfolding marks_of
comes_holding i p none = refl
comes_holding i p (some r) = (refl, any_marks p r)

comes_first : (i : Operand) (p q : Part) (o : Option (Rest p)) → Comes (choice i p q) (marks_left p o ++ blank (size q)) (Option.map first o)
unfolding marks_of
comes_first i p q none = blank_both (size p) (size q)
comes_first i p q (some r) = (refl, any_first (marks_of p r) (blank (size q)) (any_marks p r))

comes_second : (i : Operand) (p q : Part) (o : Option (Rest q)) → Comes (choice i p q) (blank (size p) ++ marks_left q o) (Option.map second o)
unfolding marks_of
comes_second i p q none = blank_both (size p) (size q)
comes_second i p q (some r) = (refl, any_later (size p) (marks_of q r) (any_marks q r))

-- marks that are left or blank, behind blanks and before them
module _ {A B : Type 0} (a b : ℕ) (f : A → List ℕ) (g : B → List ℕ) (c : A → B) where
  left_behind : ((x : A) → blank a ++ f x ≡ g (c x)) → (o : Option A) → blank a ++ onward (blank b) f o ≡ onward (blank (a + b)) g (Option.map c o)
  left_behind h none = blank_both a b
  left_behind h (some x) = h x

  left_before : ((x : A) → f x ++ blank b ≡ g (c x)) → (o : Option A) → onward (blank a) f o ++ blank b ≡ onward (blank (a + b)) g (Option.map c o)
  left_before h none = blank_both a b
  left_before h (some x) = h x

-- marks that are left or blank, of a child and of the others of a PAR
both_left : (p : Part) (ps : Parts) (o : Option (Rest p)) (u : Option (Running ps)) → marks_left p o ++ onward (blank (sizes ps)) (marks_running ps) u ≡ onward (blank (sizes (more p ps))) (marks_running (more p ps)) (rest_of_both o u)
unfolding marks_running
both_left p ps none none = blank_both (size p) (sizes ps)
both_left p ps none (some c) = refl
both_left p ps (some r) none = refl
both_left p ps (some r) (some c) = refl

-- a child of a SEQ that others follow has the first of them for its next
has_next : (ps : Parts) (n e : ℕ) → next_of SEQ n e (nonempty (map block (list_of ps))) ≡ e
unfolding next_of
has_next (one p) n e = refl
has_next (more p ps) n e = refl

-- marks stored over as many others
sets_over : (xs ys vs zs : List ℕ) → length ys ≡ length vs → sets (xs ++ (ys ++ zs)) (length xs) vs ≡ xs ++ (vs ++ zs)
sets_over xs ys vs zs e =
    let l : length xs + length vs ≤ length (xs ++ (ys ++ zs)) = rw (length-append, length-append) (omega arith) in
    rw (sets-eq vs (xs ++ (ys ++ zs)) (length xs) l, take-append_seam xs, drop-append-add xs, drop_at ys zs (length vs) e, append_assoc)

module _ (t : List ℕ) (sit : Situation) where
  -- of blanks nothing becomes
  pub settle_blank : (k : ℕ) {n : ℕ} → Over (settled_from t sit) n k (blank k) (blank k)
  unfolding settled_from
  settle_blank = over_blank (0 ∷ []) blank refl (λ k. refl) (λ n ms. refl)

  -- a part is initialised over blanks
  initialised_lies : {p : Part} {m q x : ℕ} → Lies t p m q x → (n : ℕ) (xs rest : List ℕ) → m ≡ n + length xs → initialised t n m (xs ++ (blank (size p) ++ rest)) ≡ xs ++ (marks_of p (afresh p) ++ rest)
  initialised_lies {p} {m} l n xs rest e =
      let d : m - n ≡ length xs = omega arith in
      rw (d, initial_lies t p l) (sets_over xs (blank (size p)) (marks_of p (afresh p)) rest (length-replicate (size p) 0 ∙ sym (length_marks p (afresh p))))

  module _ {p : Part} {n q x : ℕ} (l : Lies t p n q x) where
    -- a marked part has its transition by its own kind and operand
    settle_step : (ms : List ℕ) → settled_from t sit n (1 ∷ ms) ≡ applied t n (transition sit (kind p) (operand p) (any is_mark (take (inner p) ms)) (any is_mark (take (inner p) (settled_from t sit (suc n) ms)))) (settled_from t sit (suc n) ms)
    unfolding settled_from
    settle_step ms =
        let rest : List ℕ = settled_from t sit (suc n) ms in
        ap (λ (i : ℕ). applied t n (transition sit (kind_at t n) (operand_of t n) (any is_mark (take i ms)) (any is_mark (take i rest))) rest) (own_inside l)
        ∙ ap₂ (λ (k : Kind) (o : Operand). applied t n (transition sit k o (any is_mark (take (inner p) ms)) (any is_mark (take (inner p) rest))) rest) (own_kind l) (ap (λ (e : Entry). e.operand) (own_row l).entry_is)

    -- a marked part, from what the settling of what is inside it leaves
    settle_over : {xs ys : List ℕ} → length xs ≡ inner p → length ys ≡ inner p → Over (settled_from t sit) (suc n) (inner p) xs ys → (ms : List ℕ) → settled_from t sit n (1 ∷ (xs ++ ms)) ≡ applied t n (transition sit (kind p) (operand p) (any is_mark xs) (any is_mark ys)) (ys ++ settled_from t sit (n + size p) ms)
    settle_over {xs} {ys} a b h ms =
        let e : suc n + inner p ≡ n + size p = omega (arith, size_inner p) in
        settle_step (xs ++ ms) ∙ rw (h.over ms, e, take_at xs ms (inner p) a, take_at ys (settled_from t sit (n + size p) ms) (inner p) b)

    -- a part that ends, and one that stays
    ends : (rest : List ℕ) → applied t n Ends (blank (inner p) ++ rest) ≡ left t p n x none rest
    unfolding applied
    ends rest = rw (size_inner p, (own_row l).next_is)

    stays : (r : Rest p) (ys rest : List ℕ) → marks_of p r ≡ 1 ∷ ys → applied t n Stays (ys ++ rest) ≡ left t p n x (some r) rest
    unfolding applied
    stays r ys rest e = rw e

    -- a leaf ended, or it remains
    leaf_left : (r : Rest p) (b : Bool) (rest : List ℕ) → inner p ≡ 0 → marks_of p r ≡ 1 ∷ [] → applied t n (ends_if b) rest ≡ left t p n x (cond b none (some r)) rest
    leaf_left r true rest e d = rw e at (ends rest)
    leaf_left r false rest e d = stays r [] rest d

    -- a leaf ends by its own transition
    settle_leaf : (r : Rest p) (b : Bool) → inner p ≡ 0 → marks_of p r ≡ 1 ∷ [] → transition sit (kind p) (operand p) false false ≡ ends_if b → settle sit p r ≡ cond b none (some r) → Settles t sit p n x r
    settle_leaf r b e d f g =
        let h : Over (settled_from t sit) (suc n) (inner p) [] [] = rw e over_none in
        record { settles = λ ms. rw (d, g) (settle_over (sym e) (sym e) h ms ∙ rw f (leaf_left r b (settled_from t sit (n + size p) ms) e d)) }

    -- a composite ended, or something of it remains
    part_left : (ys rest : List ℕ) (o : Option (Rest p)) → Comes p ys o → applied t n (ends_if (not (any is_mark ys))) (ys ++ rest) ≡ left t p n x o rest
    part_left ys rest none c = rw (c, any_blank (inner p)) (ends rest)
    part_left ys rest (some r) c = rw c.1 (stays r ys rest c.0)

    -- a composite ends where nothing is marked inside it afterwards
    settle_part : (r : Rest p) {xs ys : List ℕ} → marks_of p r ≡ 1 ∷ xs → ((b : Bool) → transition sit (kind p) (operand p) (any is_mark xs) b ≡ ends_if (not b)) → Over (settled_from t sit) (suc n) (inner p) xs ys → Comes p ys (settle sit p r) → Settles t sit p n x r
    settle_part r {xs} {ys} e f h c =
        let a : length xs ≡ inner p = omega (arith, ap length e, length_marks p r, size_inner p) in
        record { settles = λ ms. rw e (settle_over a (comes_length p ys (settle sit p r) c) h ms ∙ rw (f (any is_mark ys)) (part_left ys (settled_from t sit (n + size p) ms) (settle sit p r) c)) }

  -- a part that has no next
  left_alone : (p : Part) (n : ℕ) (o : Option (Rest p)) (rest : List ℕ) → left t p n no_part o rest ≡ marks_left p o ++ rest
  left_alone p n none rest = refl
  left_alone p n (some r) rest = refl

  settle_alone : {p : Part} {n : ℕ} {r : Rest p} → Settles t sit p n no_part r → Over (settled_from t sit) n (size p) (marks_of p r) (marks_left p (settle sit p r))
  settle_alone {p} {n} {r} h = record { over = λ ms. h.settles ms ∙ left_alone p n (settle sit p r) (settled_from t sit (n + size p) ms) }

  -- a part that is its own next
  left_again : {p : Part} {n q : ℕ} → Lies t p n q n → (o : Option (Rest p)) (rest : List ℕ) → left t p n n o rest ≡ marks_of p (onward (afresh p) (λ a. a) o) ++ rest
  left_again {p} {n} l none rest = rw (ne_eqb n no_part (λ e. omega (arith, (own_row l).number_fits))) (initialised_lies l n [] rest (omega arith))
  left_again l (some r) rest = refl

  settle_again : {p : Part} {n q : ℕ} {r : Rest p} → Lies t p n q n → Settles t sit p n n r → Over (settled_from t sit) n (size p) (marks_of p r) (marks_of p (onward (afresh p) (λ a. a) (settle sit p r)))
  settle_again {p} {n} {q} {r} l h = record { over = λ ms. h.settles ms ∙ left_again l (settle sit p r) (settled_from t sit (n + size p) ms) }

  -- parts stand at numbers that are part numbers
  number_fits : (ps : Parts) {k : Kind} {q n : ℕ} → LieIn t k q n (list_of ps) → n < max_parts
  number_fits (one p) l = (own_row (first_lies l)).number_fits
  number_fits (more p ps) l = (own_row (first_lies l)).number_fits

  -- the first of the parts that follow is initialised
  begun_first : (ps : Parts) {q m : ℕ} → LieIn t SEQ q m (list_of ps) → (n : ℕ) (xs rest : List ℕ) → m ≡ n + length xs → initialised t n m (xs ++ (blank (sizes ps) ++ rest)) ≡ xs ++ (marks_current ps (afresh_first ps) ++ rest)
  unfolding marks_current afresh_first
  begun_first (one p) l n xs rest e = initialised_lies (first_lies l) n xs rest e
  begun_first (more p ps) l n xs rest e =
      rw (← blank_both (size p) (sizes ps), append_assoc (blank (size p)), append_assoc (marks_of p (afresh p))) (initialised_lies (first_lies l) n xs (blank (sizes ps) ++ rest) e)

  -- a part that has a next among the parts after it
  left_next : (p : Part) (ps : Parts) (n : ℕ) {q : ℕ} → LieIn t SEQ q (n + size p) (list_of ps) → (o : Option (Rest p)) (rest : List ℕ) → left t p n (n + size p) o (blank (sizes ps) ++ rest) ≡ marks_current (more p ps) (onward (inr (afresh_first ps)) inl o) ++ rest
  unfolding marks_current
  left_next p ps n l none rest = rw (ne_eqb (n + size p) no_part (λ e. omega (arith, number_fits ps l)), append_assoc (blank (size p))) (begun_first ps l n (blank (size p)) rest (rw length-replicate))
  left_next p ps n l (some r) rest = rw append_assoc

  settle_next : (p : Part) (ps : Parts) {q n : ℕ} {r : Rest p} → LieIn t SEQ q n (p ∷ list_of ps) → Settles t sit p n (next_of SEQ n (n + size p) (nonempty (map block (list_of ps)))) r → Over (settled_from t sit) n (size p + sizes ps) (marks_of p r ++ blank (sizes ps)) (marks_current (more p ps) (onward (inr (afresh_first ps)) inl (settle sit p r)))
  settle_next p ps {q} {n} {r} l h =
      record { over = λ ms. rw (append_assoc (marks_of p r), h.settles (blank (sizes ps) ++ ms), has_next ps n (n + size p), (settle_blank (sizes ps)).over ms, ← (add_assoc n (size p) (sizes ps))) (left_next p ps n (others_lie l) (settle sit p r) (settled_from t sit (n + size p + sizes ps) ms)) }

  -- a CHOICE that was deciding
  decided_left : {i : Operand} {p q : Part} {n m x : ℕ} → Lies t (choice i p q) n m x → (b : Bool) (rest : List ℕ) → applied t n (cond b First Second) (blank (size p) ++ blank (size q) ++ rest) ≡ left t (choice i p q) n x (some (cond b (first (afresh p)) (second (afresh q)))) rest
  unfolding applied marks_of
  decided_left {i} {p} {q} {n} l true rest = rw (append_assoc (blank (size p)), append_assoc (marks_of p (afresh p))) (initialised_lies (first_lies (children_lie l)) n (1 ∷ []) (blank (size q) ++ rest) (omega arith))
  decided_left {i} {p} {q} {n} l false rest =
      rw ((own_row (first_lies (children_lie l))).end_is, append_assoc (blank (size p)) (blank (size q)) rest, append_assoc (blank (size p)) (marks_of q (afresh q)) rest) (initialised_lies (first_lies (others_lie (children_lie l))) n (1 ∷ blank (size p)) rest (rw length-replicate (omega arith)))

  -- a deciding CHOICE takes one of its children
  settle_decides : {i : Operand} {p q : Part} {n m x : ℕ} → Lies t (choice i p q) n m x → Settles t sit (choice i p q) n x undecided
  unfolding transition marks_of settle
  settle_decides {i} {p} {q} {n} l =
      let e : length (blank (size p) ++ blank (size q)) ≡ size p + size q = rw blank_both (length-replicate (size p + size q) 0) in
      let d : any is_mark (blank (size p) ++ blank (size q)) ≡ false = rw blank_both (any_blank (size p + size q)) in
      record { settles = λ ms. settle_over l e e (over_both (settle_blank (size p)) (settle_blank (size q))) ms ∙ rw d (decided_left l (satisfied sit i) (settled_from t sit (n + size (choice i p q)) ms)) }

  mutual
    unfolding transition next_of marks_of marks_current marks_running settle settle_current settle_running

    -- a settling of the marks is the settling of what remains
    pub settle_lies : (p : Part) {n q x : ℕ} → Lies t p n q x → (r : Rest p) → Settles t sit p n x r
    settle_lies (goal o) l r = settle_leaf l r (reached sit o) refl refl refl refl
    settle_lies (start o) l r = settle_leaf l r true refl refl refl refl
    settle_lies (wait o) l r = settle_leaf l r (satisfied sit o) refl refl refl refl
    settle_lies (seq ps) l r = settle_part l r refl (λ b. refl) (settle_current_lem ps (children_lie l) r) (comes_current ps (settle_current sit ps r))
    settle_lies (par ps) l r = settle_part l r refl (λ b. refl) (settle_running_lem ps (children_lie l) r) (comes_running ps (settle_running sit ps r))
    settle_lies (maintain o p) l broken = settle_part l broken refl (λ b. refl) (settle_blank (size p)) refl
    settle_lies (maintain o p) l (holding r) = settle_part l (holding r) refl (λ b. refl) (settle_alone (settle_lies p (first_lies (children_lie l)) r)) (comes_holding o p (settle sit p r))
    settle_lies (choice o p q) l undecided = settle_decides l
    settle_lies (choice o p q) l (first r) =
        settle_part l (first r) refl (λ b. rw (any_first (marks_of p r) (blank (size q)) (any_marks p r))) (over_both (settle_alone (settle_lies p (first_lies (children_lie l)) r)) (settle_blank (size q))) (comes_first o p q (settle sit p r))
    settle_lies (choice o p q) l (second r) =
        settle_part l (second r) refl (λ b. rw (any_later (size p) (marks_of q r) (any_marks q r))) (over_both (settle_blank (size p)) (settle_alone (settle_lies q (first_lies (others_lie (children_lie l))) r))) (comes_second o p q (settle sit q r))
    settle_lies (repeat p) l r = settle_part l r refl (λ b. refl) (settle_again (first_lies (children_lie l)) (settle_lies p (first_lies (children_lie l)) r)) (refl, any_marks p (onward (afresh p) (λ a. a) (settle sit p r)))

    settle_current_lem : (ps : Parts) {q n : ℕ} → LieIn t SEQ q n (list_of ps) → (c : Current ps) → Over (settled_from t sit) n (sizes ps) (marks_current ps c) (onward (blank (sizes ps)) (marks_current ps) (settle_current sit ps c))
    settle_current_lem (one p) l r = settle_alone (settle_lies p (first_lies l) r)
    settle_current_lem (more p ps) l (inl r) = settle_next p ps l (settle_lies p (first_lies l) r)
    settle_current_lem (more p ps) l (inr c) =
        rw (left_behind (size p) (sizes ps) (marks_current ps) (marks_current (more p ps)) inr (λ x. refl) (settle_current sit ps c)) at (over_both (settle_blank (size p)) (settle_current_lem ps (others_lie l) c))

    settle_running_lem : (ps : Parts) {q n : ℕ} → LieIn t PAR q n (list_of ps) → (c : Running ps) → Over (settled_from t sit) n (sizes ps) (marks_running ps c) (onward (blank (sizes ps)) (marks_running ps) (settle_running sit ps c))
    settle_running_lem (one p) l r = settle_alone (settle_lies p (first_lies l) r)
    settle_running_lem (more p ps) l (this r) =
        rw (left_before (size p) (sizes ps) (marks_of p) (marks_running (more p ps)) this (λ x. refl) (settle sit p r)) at (over_both (settle_alone (settle_lies p (first_lies l) r)) (settle_blank (sizes ps)))
    settle_running_lem (more p ps) l (that c) =
        rw (left_behind (size p) (sizes ps) (marks_running ps) (marks_running (more p ps)) that (λ x. refl) (settle_running sit ps c)) at (over_both (settle_blank (size p)) (settle_running_lem ps (others_lie l) c))
    settle_running_lem (more p ps) l (both r c) =
        rw (both_left p ps (settle sit p r) (settle_running sit ps c)) at (over_both (settle_alone (settle_lies p (first_lies l) r)) (settle_running_lem ps (others_lie l) c))

  -- the marks of a part that has no next, and nothing after it, once settled
  pub settle_root : (p : Part) {n q : ℕ} → Lies t p n q no_part → (r : Rest p) → settled_from t sit n (marks_of p r) ≡ marks_left p (settle sit p r)
  unfolding settled_from
  settle_root p l r = over_all (λ m. refl) (settle_alone (settle_lies p l r))

-- the root has ended where nothing of it remains
pub root_ended_lem : (p : Part) (o : Option (Rest p)) → root_ended (marks_left p o) ≡ onward true (λ r. false) o
root_ended_lem p none = rw (size_inner p)
root_ended_lem p (some r) = rw (marks_front p r)
