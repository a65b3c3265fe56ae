-- The next of a part, and the two children of a CHOICE, as they stand in a table.
use Prim.Native.Nat.{ℕ, suc, ◌+◌, ◌≤◌, ◌<◌}
use native.Mathlib.Omega.{arith}
use mathlib.Core.Path.{◌≡◌, refl, sym, ap, ◌∙◌}
use mathlib.Core.Bool.{Bool, true, false, false≢true}
use mathlib.Core.List.{List, [], ◌∷◌, map}
use Rattle.base.specs.Lists.{sum, nonempty}
use Rattle.meaning.specs.Sizes.{no_part}
use Rattle.meaning.specs.declared.kinds.Kind.{Kind}
use Rattle.meaning.specs.declared.kinds.Kind.TheVariants.{Unknown as UNKNOWN, Goal as GOAL, Start as START, Wait as WAIT, Seq as SEQ, Par as PAR, Maintain as MAINTAIN, Choice as CHOICE, Repeat as REPEAT}
use Rattle.meaning.specs.Kinds.{number_of}
use Rattle.meaning.specs.Tree.{Part, goal, start, wait, seq, par, maintain, choice, repeat, kind, size}
use Rattle.meaning.specs.Program.{parts}
use Rattle.meaning.specs.Table.{next_of, block, end_at, parent_at, next_at, kind_at, Inside, is_table}
use Rattle.meaning.proofs.Trees.{size_inner}
use Rattle.meaning.proofs.Lies.{Lies, LieIn, own_row, own_kind, children_lie, first_lies, others_lie}
use Rattle.meaning.proofs.Nesting.{Found, at, found}

-- a next that is neither none nor the part itself is a later child's of a SEQ
later_next : (k : Kind) (m e : ℕ) (b : Bool) → m < next_of k m e b → (next_of k m e b ≡ no_part → ⊥) → (k ≡ SEQ) × (b ≡ true) × (next_of k m e b ≡ e)
unfolding next_of
later_next UNKNOWN m e b l n = absurd (n refl)
later_next GOAL m e b l n = absurd (n refl)
later_next START m e b l n = absurd (n refl)
later_next WAIT m e b l n = absurd (n refl)
later_next SEQ m e true l n = (refl, refl, refl)
later_next SEQ m e false l n = absurd (n refl)
later_next PAR m e b l n = absurd (n refl)
later_next MAINTAIN m e b l n = absurd (n refl)
later_next CHOICE m e b l n = absurd (n refl)
later_next REPEAT m e b l n = absurd (omega arith)

-- part m has a next after itself: the sibling that stands where it ends, inside a SEQ that stands from number n on and ends at e or before
pub record Followed (t : List ℕ) (n e m : ℕ) : Type 0 where
  pub parent : ℕ
  pub parent_from : n ≤ parent
  pub parent_before : parent < m
  pub parent_end : end_at t parent ≤ e
  pub in_seq : kind_at t parent ≡ SEQ
  pub own_parent : parent_at t m ≡ parent
  pub next_parent : parent_at t (next_at t m) ≡ parent
  pub next_is : next_at t m ≡ end_at t m
  pub next_before : next_at t m < end_at t (next_at t m)
  pub next_within : end_at t (next_at t m) ≤ end_at t parent

followed : {t : List ℕ} {n e m : ℕ} → Found t n e m → m < next_at t m → (next_at t m ≡ no_part → ⊥) → Followed t n e m
followed {t} {n} {e} {m} f l d = go f.others f.lie f.ends
  where
    next : (ps : List Part) → LieIn t f.of f.parent m (f.part ∷ ps) → (f.of ≡ SEQ) × (nonempty (map block ps) ≡ true) × (next_at t m ≡ m + size f.part)
    next ps h =
        let a = (own_row (first_lies h)).next_is in
        let r = later_next f.of m (m + size f.part) (nonempty (map block ps)) (rw a at l) (λ z. d (a ∙ z)) in
        (r.0, r.1, a ∙ r.2)

    go : (ps : List Part) → LieIn t f.of f.parent m (f.part ∷ ps) → m + size f.part + sum (map size ps) ≡ end_at t f.parent → Followed t n e m
    go [] h g = absurd (false≢true (next [] h).1)
    go (p ∷ ps) h g =
        let r = next (p ∷ ps) h in
        let own = own_row (first_lies h) in
        let sibling = own_row (first_lies (others_lie h)) in
        record {
          parent = f.parent;
          parent_from = f.parent_from;
          parent_before = f.parent_before;
          parent_end = f.parent_end;
          in_seq = h.kind_is ∙ r.0;
          own_parent = own.parent_is;
          next_parent = rw r.2 sibling.parent_is;
          next_is = r.2 ∙ sym own.end_is;
          next_before = rw r.2 (omega (arith, sibling.end_is, size_inner p));
          next_within = rw r.2 (omega (arith, sibling.end_is));
        }

-- the children of a CHOICE that lies in a table
pub record Branches (t : List ℕ) (n : ℕ) : Type 0 where
  pub first_end : suc n < end_at t (suc n)
  pub second_end : end_at t (suc n) < end_at t (end_at t (suc n))
  pub both_end : end_at t (end_at t (suc n)) ≡ end_at t n

branches : {t : List ℕ} (p : Part) {n q x : ℕ} → Lies t p n q x → kind p ≡ CHOICE → Branches t n
unfolding number_of
branches (goal o) l e = absurd (omega (arith, ap number_of e))
branches (start o) l e = absurd (omega (arith, ap number_of e))
branches (wait o) l e = absurd (omega (arith, ap number_of e))
branches (seq ps) l e = absurd (omega (arith, ap number_of e))
branches (par ps) l e = absurd (omega (arith, ap number_of e))
branches (maintain o p) l e = absurd (omega (arith, ap number_of e))
branches {t} (choice o p q) {n} l e =
    let own = own_row l in
    let first = own_row (first_lies (children_lie l)) in
    let second = own_row (first_lies (others_lie (children_lie l))) in
    record {
      first_end = omega (arith, first.end_is, size_inner p);
      second_end = rw first.end_is (omega (arith, second.end_is, size_inner q));
      both_end = rw first.end_is (second.end_is ∙ omega (arith, own.end_is, size_inner (choice o p q)));
    }
branches (repeat p) l e = absurd (omega (arith, ap number_of e))

module _ (t : List ℕ) (h : is_table t ≡ true) where
  -- a part that stands inside another and has a next after itself
  pub next_nested : (n m : ℕ) → Inside t n m → m < next_at t m → (next_at t m ≡ no_part → ⊥) → Followed t n (end_at t n) m
  next_nested n m i a d = followed (found t h n m i) a d

  pub choice_branches : (n : ℕ) → n < parts t → kind_at t n ≡ CHOICE → Branches t n
  choice_branches n l e =
      let x = at t h n l in
      branches x.part x.lies (sym (own_kind x.lies) ∙ e)
