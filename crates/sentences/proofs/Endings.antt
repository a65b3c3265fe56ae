-- Which parts end in a settling: those that document 01 says, and no other choice of parts meets its sentences.
use Prim.Native.Nat.{ℕ, zero, suc, ◌+◌, ◌≤◌, ◌<◌}
use native.Mathlib.Omega.{arith}
use mathlib.Core.Path.{◌≡◌, refl, sym, ap, ◌∙◌}
use mathlib.Core.Bool.{Bool, true, false, not, false≢true}
use mathlib.Core.Logic.{◌↔◌, ◌⊎◌, inl, inr}
use mathlib.Core.List.{List}
use lib.ListN.{length, get_or}
use Rattle.base.proofs.Lists.{both_true}
use Rattle.meaning.specs.declared.Entry.{Entry}
use Rattle.meaning.specs.declared.Form.TheVariants.{Table}
use Rattle.meaning.specs.declared.kinds.Kind.{Kind}
use Rattle.meaning.specs.declared.kinds.Kind.TheVariants.{Goal as GOAL, Start as START, Wait as WAIT, Choice as CHOICE}
use Rattle.meaning.specs.Kinds.{number_of}
use Rattle.meaning.specs.Tree.{Part, goal, start, wait, seq, par, maintain, choice, repeat}
use Rattle.meaning.specs.Program.{parts, entry_at}
use Rattle.meaning.specs.Table.{kind_at, is_table}
use Rattle.meaning.specs.Conditions.{Situation}
use Rattle.meaning.specs.Record.{is_mark, parts_allowed}
use Rattle.meaning.specs.Cycle.{is_leaf}
use Rattle.meaning.proofs.Lies.{Lies, own_row, own_kind}
use Rattle.meaning.proofs.Nesting.{at}
use Rattle.sentences.specs.Marks.{Marked, Deciding}
use Rattle.sentences.specs.Stepping.{StaysMarked, MarkedBy, MarkedInside, Endings}
use Rattle.sentences.proofs.Settlings.{inside_before, inside_after, ends_at, Undeciding, marked_length, deciding_empty, empty_deciding, goal_ends, wait_ends, start_ends, composite_ends, deciding_stays}
use Rattle.sentences.proofs.AfterSettling.{inside_after_lem, after_inside}

-- a part that is not marked is not found marked
unmarked : (ms : List ℕ) (p : ℕ) → (Marked ms p → ⊥) → is_mark (get_or ms p 0) ≡ false
unmarked ms p d = both_true (is_mark (get_or ms p 0)) false (λ e. absurd (d e)) (λ e. absurd (false≢true e))

-- what a marked part is: a leaf, a deciding CHOICE, or another composite
data Judged (t ms : List ℕ) (p : ℕ) : Type 0 where
  leaf_goal : kind_at t p ≡ GOAL → is_leaf (entry_at Table t p) ≡ true → Judged t ms p
  leaf_start : kind_at t p ≡ START → is_leaf (entry_at Table t p) ≡ true → Judged t ms p
  leaf_wait : kind_at t p ≡ WAIT → is_leaf (entry_at Table t p) ≡ true → Judged t ms p
  decides : Deciding t ms p → Judged t ms p
  other : is_leaf (entry_at Table t p) ≡ false → (Deciding t ms p → ⊥) → Undeciding t ms p → Judged t ms p

module _ (t : List ℕ) (ms : List ℕ) (p : ℕ) (m : Marked ms p) where
  no_choice : {k : Kind} → kind_at t p ≡ k → (number_of k ≡ number_of CHOICE → ⊥) → Deciding t ms p → ⊥
  no_choice e n d = n (ap number_of (sym e ∙ d.1))

  judged_part : (x : Part) {u y : ℕ} → Lies t x p u y → Judged t ms p
  unfolding number_of
  judged_part (goal o) l = leaf_goal (own_kind l) (ap (λ (e : Entry). is_leaf e) (own_row l).entry_is)
  judged_part (start o) l = leaf_start (own_kind l) (ap (λ (e : Entry). is_leaf e) (own_row l).entry_is)
  judged_part (wait o) l = leaf_wait (own_kind l) (ap (λ (e : Entry). is_leaf e) (own_row l).entry_is)
  judged_part (seq ps) l = other (ap (λ (e : Entry). is_leaf e) (own_row l).entry_is) (no_choice (own_kind l) (λ e. omega arith)) (inl (own_kind l))
  judged_part (par ps) l = other (ap (λ (e : Entry). is_leaf e) (own_row l).entry_is) (no_choice (own_kind l) (λ e. omega arith)) (inr (inl (own_kind l)))
  judged_part (maintain o x) l = other (ap (λ (e : Entry). is_leaf e) (own_row l).entry_is) (no_choice (own_kind l) (λ e. omega arith)) (inr (inr (inl (own_kind l))))
  judged_part (choice o x y) l = go (inside_before t ms p) refl
    where
      go : (b : Bool) → inside_before t ms p ≡ b → Judged t ms p
      go true e = other (ap (λ (e : Entry). is_leaf e) (own_row l).entry_is) (λ d. false≢true (sym (deciding_empty t ms p d) ∙ e)) (inr (inr (inr (inr (own_kind l, e)))))
      go false e = decides (empty_deciding t ms p m (own_kind l) e)
  judged_part (repeat x) l = other (ap (λ (e : Entry). is_leaf e) (own_row l).entry_is) (no_choice (own_kind l) (λ e. omega arith)) (inr (inr (inr (inl (own_kind l)))))

judged : (t : List ℕ) → is_table t ≡ true → (ms : List ℕ) → length ms ≡ parts t → (p : ℕ) → Marked ms p → Judged t ms p
judged t h ms long p m =
    let a = at t h p (rw long at (marked_length ms p m)) in
    judged_part t ms p m a.part a.lies

module _ (t : List ℕ) (h : is_table t ≡ true) (sit : Situation) (ms : List ℕ) (long : length ms ≡ parts t) (phase : ℕ) (allowed : parts_allowed t phase 0 ms ≡ true) where
  composite : (p : ℕ) → Marked ms p → Undeciding t ms p → (ends_at t sit ms p ≡ true) ↔ ((n : ℕ) → MarkedInside t sit ms (ends_at t sit ms) p n → ⊥)
  composite p m u = rw (composite_ends t sit ms p m u) (go (inside_after t sit ms p) refl)
    where
      l : p < parts t
      l = rw long at (marked_length ms p m)

      go : (b : Bool) → inside_after t sit ms p ≡ b → (not b ≡ true) ↔ ((n : ℕ) → MarkedInside t sit ms (ends_at t sit ms) p n → ⊥)
      go true e = (λ d. absurd (false≢true d), λ none. let (n, i) = inside_after_lem t h sit ms long phase allowed p l e in absurd (none n i))
      go false e = (λ d n i. false≢true (sym e ∙ after_inside t h sit ms long phase allowed p n l i), λ none. refl)

  -- the parts that end are those that the sentences say
  pub settling_endings : Endings t sit ms (ends_at t sit ms)
  settling_endings =
      record {
        goal_end = goal_ends t sit ms;
        wait_end = wait_ends t sit ms;
        start_end = start_ends t sit ms;
        deciding_end = deciding_stays t sit ms;
        composite_end = λ p m e d. other_ends p m e d (judged t h ms long p m);
        unmarked_end = λ p d. rw (unmarked ms p d);
      }
    where
      other_ends : (p : ℕ) → Marked ms p → is_leaf (entry_at Table t p) ≡ false → (Deciding t ms p → ⊥) → Judged t ms p → (ends_at t sit ms p ≡ true) ↔ ((n : ℕ) → MarkedInside t sit ms (ends_at t sit ms) p n → ⊥)
      other_ends p m e d (leaf_goal k f) = absurd (false≢true (sym e ∙ f))
      other_ends p m e d (leaf_start k f) = absurd (false≢true (sym e ∙ f))
      other_ends p m e d (leaf_wait k f) = absurd (false≢true (sym e ∙ f))
      other_ends p m e d (decides c) = absurd (d c)
      other_ends p m e d (other f c u) = composite p m u

-- the sentences leave no choice: two answers to which parts end are the same
module _ (t : List ℕ) (h : is_table t ≡ true) (sit : Situation) (ms : List ℕ) (long : length ms ≡ parts t) where
  -- what a part marks follows from whether it ends
  pub same_by : (e f : ℕ → Bool) (q n : ℕ) → e q ≡ f q → MarkedBy t sit ms e q n → MarkedBy t sit ms f q n
  same_by e f q n same (x, inl (d, a, b), g) = (x, inl (sym same ∙ d, a, b), g)
  same_by e f q n same (x, inr d, g) = (x, inr d, g)

  -- what is marked after the settling from which parts end
  pub same_after : (e f : ℕ → Bool) → ((q : ℕ) → e q ≡ f q) → (n : ℕ) → StaysMarked ms e n ⊎ ((q : ℕ) × MarkedBy t sit ms e q n) → StaysMarked ms f n ⊎ ((q : ℕ) × MarkedBy t sit ms f q n)
  same_after e f same n (inl (m, d)) = inl (m, sym (same n) ∙ d)
  same_after e f same n (inr (q, g)) = inr (q, same_by e f q n (same q) g)

  -- and what is marked inside a part from which parts inside it end
  same_inside : (e f : ℕ → Bool) (p : ℕ) → ((q : ℕ) → p < q → e q ≡ f q) → (n : ℕ) → MarkedInside t sit ms e p n → MarkedInside t sit ms f p n
  same_inside e f p same n (i, inl (m, d)) = (i, inl (m, sym (same n i.0) ∙ d))
  same_inside e f p same n (i, inr (q, j, g)) = (i, inr (q, j, same_by e f q n (same q j.0) g))

  module _ (e f : ℕ → Bool) (a : Endings t sit ms e) (b : Endings t sit ms f) where
    same_ends : (p : ℕ) → Marked ms p → ((q : ℕ) → p < q → e q ≡ f q) → Judged t ms p → e p ≡ f p
    same_ends p m same (leaf_goal k l) = a.goal_end p m k ∙ sym (b.goal_end p m k)
    same_ends p m same (leaf_start k l) = a.start_end p m k ∙ sym (b.start_end p m k)
    same_ends p m same (leaf_wait k l) = a.wait_end p m k ∙ sym (b.wait_end p m k)
    same_ends p m same (decides c) = a.deciding_end p c ∙ sym (b.deciding_end p c)
    same_ends p m same (other l d u) =
        both_true (e p) (f p)
        (λ x. (b.composite_end p m l d).1 (λ n i. (a.composite_end p m l d).0 x n (same_inside f e p (λ q c. sym (same q c)) n i)))
        (λ x. (a.composite_end p m l d).1 (λ n i. (b.composite_end p m l d).0 x n (same_inside e f p same n i)))

    same_from : (k p : ℕ) → parts t ≤ p + k → e p ≡ f p
    same_from zero p c = a.unmarked_end p none ∙ sym (b.unmarked_end p none)
      where
        none : Marked ms p → ⊥
        none m = omega (arith, marked_length ms p m)
    same_from (suc k) p c = go (is_mark (get_or ms p 0)) refl (λ q d. same_from k q (omega arith))
      where
        go : (x : Bool) → is_mark (get_or ms p 0) ≡ x → ((q : ℕ) → p < q → e q ≡ f q) → e p ≡ f p
        go true m same = same_ends p m same (judged t h ms long p m)
        go false m same =
            let none : Marked ms p → ⊥ = λ d. false≢true (sym m ∙ d) in
            a.unmarked_end p none ∙ sym (b.unmarked_end p none)

    pub determined : (p : ℕ) → e p ≡ f p
    determined p = same_from (parts t) p (omega arith)
