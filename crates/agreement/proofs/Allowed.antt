-- The marks of what remains of a part that lies in a table are allowed ones.
use Prim.Native.Nat.{ℕ, zero, suc, ◌+◌, ◌<◌}
use native.Mathlib.Nat.{zero-add, add-zero, add-suc, suc-add, add_assoc}
use native.Mathlib.Omega.{arith}
use mathlib.Core.Path.{◌≡◌, refl, sym, ap, ap₂, ◌∙◌}
use mathlib.Core.Logic.{◌⊎◌, inl, inr, ⊎_map}
use mathlib.Core.Bool.{true, false, cond, not, ◌&&◌, and-true, and-false}
use mathlib.Core.Option.{some}
use mathlib.Core.List.{List, [], ◌∷◌, ◌++◌, map, append_assoc, append-nil}
use lib.Dec.{eqb, leb}
use lib.ListN.{length, length-append}
use lib.Seq.{take_at}
use borrow.Author.Tests.{eq-eqb, ne_eqb, le-leb}
use Rattle.base.specs.Lists.{all, any, sum, flag}
use Rattle.base.proofs.Lists.{all_append}
use Rattle.meaning.specs.declared.kinds.Kind.{Kind}
use Rattle.meaning.specs.declared.kinds.Kind.TheVariants.{Maintain as MAINTAIN}
use Rattle.meaning.specs.Tree.{Part, Parts, goal, start, wait, seq, par, maintain, choice, repeat, one, more, list_of, kind, children, size}
use Rattle.meaning.specs.Program.{Within}
use Rattle.meaning.specs.Table.{inside_of, table_of}
use Rattle.meaning.specs.Conditions.{Situation}
use Rattle.meaning.specs.Record.{waiting, offered, finished, is_mark, marked_children, children_allowed, parts_allowed, root_allowed}
use Rattle.meaning.proofs.Trees.{All, part_ind, size_law, all_of, sizes, inner, size_inner}
use Rattle.meaning.proofs.Lies.{Lies, LieIn, own_row, own_kind, own_inside, children_lie, first_lies, others_lie, root_lies}
use Rattle.agreement.specs.Unfolding.{Rest, Current, Running, this, that, both, broken, holding, undecided, first, second, settle}
use Rattle.agreement.proofs.Marks.{blank, marks_of, marks_current, marks_running}
use Rattle.agreement.proofs.Shapes.{marks_front, marks_ind, blank_both, any_blank}
use Rattle.agreement.proofs.Works.{Holding, HoldingCurrent, HoldingRunning, settle_holding}

-- the marks xs of a parts from number n on mark c children of part u, whatever follows
record Counts (t : List ℕ) (u n a : ℕ) (xs : List ℕ) (c : ℕ) : Type 0 where
  counts : (ms : List ℕ) → marked_children t u n (xs ++ ms) ≡ c + marked_children t u (n + a) ms

-- those marks of parts inside part q are allowed ones, and mark c children of it and none of a part before it
pub record Allows (t : List ℕ) (phase q n a : ℕ) (xs : List ℕ) (c : ℕ) : Type 0 where
  long : length xs ≡ a
  pub allowed : (ms : List ℕ) → parts_allowed t phase n (xs ++ ms) ≡ parts_allowed t phase (n + a) ms
  own : q < n → Counts t q n a xs c
  others : (u : ℕ) → u < q → u < n → Counts t u n a xs 0

module _ {t : List ℕ} where
  counts_none : {u n : ℕ} → Counts t u n 0 [] 0
  counts_none = record { counts = λ ms. rw (zero-add, add-zero) }

  counts_both : {u n a b c d e : ℕ} {xs ys : List ℕ} → Counts t u n a xs c → Counts t u (n + a) b ys d → c + d ≡ e → Counts t u n (a + b) (xs ++ ys) e
  counts_both {u} {n} {a} {b} {c} {d} {e} {xs} {ys} h k s = record { counts = λ ms. rw (append_assoc xs ys ms, h.counts (ys ++ ms), k.counts ms, ← s, add_assoc n a b) (omega arith) }

  counts_part : {p : Part} {n q x : ℕ} → Lies t p n q x → (m : ℕ) {u : ℕ} {xs : List ℕ} → Counts t u (suc n) (inner p) xs 0 → Counts t u n (size p) (m ∷ xs) (flag (is_mark m && eqb q u))
  unfolding marked_children
  counts_part {p} {n} l m {u} {xs} h = record { counts = λ ms. rw ((own_row l).parent_is, h.counts ms, zero-add, size_inner p, add-suc n, suc-add n) }

  module _ {phase : ℕ} where
    allows_none : {q n : ℕ} → Allows t phase q n 0 [] 0
    allows_none = record { long = refl; allowed = λ ms. rw add-zero; own = λ l. counts_none; others = λ u l k. counts_none }

    allows_both : {q n a b c d e : ℕ} {xs ys : List ℕ} → Allows t phase q n a xs c → Allows t phase q (n + a) b ys d → c + d ≡ e → Allows t phase q n (a + b) (xs ++ ys) e
    allows_both {q} {n} {a} {b} {c} {d} {e} {xs} {ys} h k s =
        record {
          long = length-append xs ys ∙ ap₂ ◌+◌ h.long k.long;
          allowed = λ ms. rw (append_assoc xs ys ms, h.allowed (ys ++ ms), k.allowed ms, add_assoc n a b);
          own = λ l. counts_both (h.own l) (k.own (omega arith)) s;
          others = λ u l m. counts_both (h.others u l m) (k.others u l (omega arith)) refl;
        }

    -- a part, from what is inside it
    allows_part : {p : Part} {n q x : ℕ} → Lies t p n q x → (m : ℕ) {xs : List ℕ} {c : ℕ} → Allows t phase n (suc n) (inner p) xs c → cond (is_mark m) (children_allowed phase (kind p) c) (not (any is_mark xs)) ≡ true → Allows t phase q n (size p) (m ∷ xs) (flag (is_mark m))
    unfolding parts_allowed marked_children
    allows_part {p} {n} {q} l m {xs} {c} h e =
        let k : marked_children t n (suc n) xs ≡ c = rw append-nil at ((h.own (omega arith)).counts []) ∙ add-zero c in
        record {
          long = ap suc h.long ∙ sym (size_inner p);
          allowed = λ ms. rw (take_at xs ms (inside_of t n) (h.long ∙ sym (own_inside l)), k, own_kind l, e, h.allowed ms, size_inner p, add-suc n, suc-add n);
          own = λ o. rw (eq-eqb q q refl, and-true) at (counts_part l m (h.others q o (omega arith)));
          others = λ u o v. rw (ne_eqb q u (λ d. omega arith), and-false) at (counts_part l m (h.others u v (omega arith)));
        }

-- the parts inside a part are its children's
inner_sum : (p : Part) → inner p ≡ sum (map size (children p))
inner_sum p = omega (arith, size_inner p, size_law p)

-- a MAINTAIN in what remains may have been found violated only where an offer has been made
abbrev pub Fit : ℕ → Type 0 → Type 0
Fit phase A = (phase ≡ offered) ⊎ A

fit_broken : (phase : ℕ) → Fit phase ⊥ → children_allowed phase MAINTAIN 0 ≡ true
unfolding children_allowed
fit_broken phase (inl e) = rw e
fit_broken phase (inr h) = absurd h

module _ (t : List ℕ) (phase : ℕ) where
  -- an unmarked part
  Blank : Part → Type 0
  Blank p = (n q x : ℕ) → Lies t p n q x → Allows t phase q n (size p) (blank (size p)) 0

  blank_each : (ps : List Part) → All Blank ps → {k : Kind} {q n : ℕ} → LieIn t k q n ps → Allows t phase q n (sum (map size ps)) (blank (sum (map size ps))) 0
  unfolding Blank
  blank_each [] h l = allows_none
  blank_each (p ∷ ps) h {q = q} {n} l = rw blank_both at (allows_both (h.0 n q _ (first_lies l)) (blank_each ps h.1 (others_lie l)) refl)

  blank_any : (p : Part) → Blank p
  unfolding Blank
  blank_any = part_ind Blank (λ p h n q x l. rw (ap blank (size_inner p)) (allows_part l 0 (rw (← inner_sum p) at (blank_each (children p) h (children_lie l))) (rw (any_blank (inner p)))))

  pub blank_lies : {p : Part} {n q x : ℕ} → Lies t p n q x → Allows t phase q n (size p) (blank (size p)) 0
  unfolding Blank
  blank_lies {p} {n} {q} {x} l = blank_any p n q x l

  pub blank_lie : (ps : Parts) {k : Kind} {q n : ℕ} → LieIn t k q n (list_of ps) → Allows t phase q n (sizes ps) (blank (sizes ps)) 0
  blank_lie ps l = rw (inner_sum (seq ps)) (blank_each (list_of ps) (all_of Blank blank_any (list_of ps)) l)

  mutual
    unfolding children_allowed marks_of marks_current marks_running

    -- the marks of what remains of a part are allowed ones
    pub allowed_lies : (p : Part) {n q x : ℕ} → Lies t p n q x → (r : Rest p) → Fit phase (Holding p r) → Allows t phase q n (size p) (marks_of p r) 1
    allowed_lies (goal o) l r f = allows_part l 1 allows_none refl
    allowed_lies (start o) l r f = allows_part l 1 allows_none refl
    allowed_lies (wait o) l r f = allows_part l 1 allows_none refl
    allowed_lies (seq ps) l r f = allows_part l 1 (allowed_current ps (children_lie l) r f) refl
    allowed_lies (par ps) l r f =
        let h = allowed_running ps (children_lie l) r f in
        allows_part l 1 h.1 (le-leb 1 (suc h.0) (omega arith))
    allowed_lies (maintain o p) l broken f = allows_part l 1 (blank_lies (first_lies (children_lie l))) (fit_broken phase f)
    allowed_lies (maintain o p) l (holding r) f = allows_part l 1 (allowed_lies p (first_lies (children_lie l)) r f) refl
    allowed_lies (choice o p q) l undecided f = allows_part l 1 (allows_both (blank_lies (first_lies (children_lie l))) (blank_lies (first_lies (others_lie (children_lie l)))) refl) refl
    allowed_lies (choice o p q) l (first r) f = allows_part l 1 (allows_both (allowed_lies p (first_lies (children_lie l)) r f) (blank_lies (first_lies (others_lie (children_lie l)))) refl) refl
    allowed_lies (choice o p q) l (second r) f = allows_part l 1 (allows_both (blank_lies (first_lies (children_lie l))) (allowed_lies q (first_lies (others_lie (children_lie l))) r f) refl) refl
    allowed_lies (repeat p) l r f = allows_part l 1 (allowed_lies p (first_lies (children_lie l)) r f) refl

    -- a SEQ has one marked child
    allowed_current : (ps : Parts) {k : Kind} {q n : ℕ} → LieIn t k q n (list_of ps) → (c : Current ps) → Fit phase (HoldingCurrent ps c) → Allows t phase q n (sizes ps) (marks_current ps c) 1
    allowed_current (one p) l r f = allowed_lies p (first_lies l) r f
    allowed_current (more p ps) l (inl r) f = allows_both (allowed_lies p (first_lies l) r f) (blank_lie ps (others_lie l)) refl
    allowed_current (more p ps) l (inr c) f = allows_both (blank_lies (first_lies l)) (allowed_current ps (others_lie l) c f) refl

    -- a PAR has one or more
    allowed_running : (ps : Parts) {k : Kind} {q n : ℕ} → LieIn t k q n (list_of ps) → (c : Running ps) → Fit phase (HoldingRunning ps c) → (m : ℕ) × Allows t phase q n (sizes ps) (marks_running ps c) (suc m)
    allowed_running (one p) l r f = (0, allowed_lies p (first_lies l) r f)
    allowed_running (more p ps) l (this r) f = (0, allows_both (allowed_lies p (first_lies l) r f) (blank_lie ps (others_lie l)) refl)
    allowed_running (more p ps) l (that c) f =
        let h = allowed_running ps (others_lie l) c f in
        (h.0, allows_both (blank_lies (first_lies l)) h.1 (omega arith))
    allowed_running (more p ps) l (both r c) f =
        let h = allowed_running ps (others_lie l) c (⊎_map (λ e. e) (λ h. h.1) f) in
        (suc h.0, allows_both (allowed_lies p (first_lies l) r (⊎_map (λ e. e) (λ h. h.0) f)) h.1 (omega arith))

-- marks are 0 or 1
abbrev pub Flags : List ℕ → Type 0
Flags xs = all (λ b. leb b 1) xs ≡ true

pub blank_flags : (n : ℕ) → Flags (blank n)
blank_flags zero = refl
blank_flags (suc n) = blank_flags n

pub marks_flags : (p : Part) (r : Rest p) → Flags (marks_of p r)
marks_flags = marks_ind (λ a. Flags) (record { empty = refl; marked = λ h. h; blanks = blank_flags; joined = λ {a} {b} {xs} {ys} h k. all_append (λ x. leb x 1) xs ys ∙ rw (h, k) })

allows_whole : {t : List ℕ} {phase q n a : ℕ} {xs : List ℕ} {c : ℕ} → Allows t phase q n a xs c → parts_allowed t phase n xs ≡ true
unfolding parts_allowed
allows_whole h = rw append-nil at (h.allowed [])

root_marked : (phase : ℕ) (p : Part) (r : Rest p) → eqb phase finished ≡ false → root_allowed phase (marks_of p r) ≡ true
unfolding root_allowed
root_marked phase p r e = rw (e, marks_front p r)

-- in what a settling leaves no MAINTAIN is broken
pub settle_holds : (sit : Situation) (p : Part) (r r' : Rest p) → settle sit p r ≡ some r' → Holding p r'
settle_holds sit p r r' e = rw e at (settle_holding sit p r)

module _ (v k : ℕ) (p : Part) (w : Within v k p) where
  root_parts : (phase : ℕ) (r : Rest p) → Fit phase (Holding p r) → parts_allowed (table_of v k p) phase 0 (marks_of p r) ≡ true
  root_parts phase r f = allows_whole (allowed_lies (table_of v k p) phase p (root_lies v k p w) r f)

  -- a record may hold the marks of what remains of the root, until it ends
  pub root_allowed_lem : (phase : ℕ) (r : Rest p) → ((phase ≡ waiting) × Holding p r) ⊎ (phase ≡ offered) → (root_allowed phase (marks_of p r) ≡ true) × (parts_allowed (table_of v k p) phase 0 (marks_of p r) ≡ true)
  root_allowed_lem phase r (inl h) = (root_marked phase p r (rw h.0), root_parts phase r (inr h.1))
  root_allowed_lem phase r (inr e) = (root_marked phase p r (rw e), root_parts phase r (inl e))

  -- and none once it has ended
  pub ended_allowed : (root_allowed finished (blank (size p)) ≡ true) × (parts_allowed (table_of v k p) finished 0 (blank (size p)) ≡ true)
  unfolding root_allowed
  ended_allowed = (rw (any_blank (size p)), allows_whole (blank_lies (table_of v k p) finished (root_lies v k p w)))
