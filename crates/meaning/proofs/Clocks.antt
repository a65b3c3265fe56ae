-- Laws of the clocks after a settling: what each has, START after START, and that clocks which are allowed stay so.
use Prim.Native.Nat.{ℕ, suc, ◌≤◌, ◌<◌}
use native.Mathlib.Nat.{zero-add}
use native.Mathlib.Omega.{arith}
use mathlib.Core.Path.{◌≡◌, refl, sym, ◌∙◌}
use mathlib.Core.Bool.{Bool, true, false, cond, ◌&&◌, ◌||◌}
use mathlib.Core.List.{List, [], ◌∷◌, ◌++◌}
use lib.Dec.{eqb, leb}
use lib.ListN.{length, get_or, set, length-set}
use lib.Seq.{get_or-set_same, get_or-set_other, ext_get_or}
use borrow.Author.Tests.{eqb-true, eqb-false, le-leb}
use Rattle.base.specs.Lists.{all, any}
use Rattle.base.proofs.Facts.{at_most, all_facts}
use Rattle.base.proofs.Lists.{cond_same, length-tabulate, get_or-tabulate}
use Rattle.meaning.specs.declared.Entry.{Entry}
use Rattle.meaning.specs.declared.Form.TheVariants.{Table}
use Rattle.meaning.specs.declared.kinds.Kind.TheVariants.{Goal as GOAL, Start as START, Wait as WAIT}
use Rattle.meaning.specs.Program.{entry_at}
use Rattle.meaning.specs.Table.{operand_of}
use Rattle.meaning.specs.Record.{is_mark, started_flag, clock_allowed}
use Rattle.meaning.specs.Cycle.{is_kind, leaves_from, starts_clock, clocks_after}

-- as many as they were, where one is set or not
pub length_setting : (b : Bool) (had : List ℕ) (c x : ℕ) → length (cond b (set had c x) had) ≡ length had
length_setting true had c x = length-set had c x
length_setting false had c x = refl

-- n clocks, and what a START sets
module _ (n x : ℕ) where
  module _ (es : List Entry) (had : List ℕ) where
    pub length_after : length (clocks_after n es x had) ≡ n
    unfolding clocks_after
    length_after = length-tabulate _ 0 n

    pub clock_after : (c : ℕ) → c < n → get_or (clocks_after n es x had) c 0 ≡ cond (any (starts_clock c) es) x (get_or had c 0)
    unfolding clocks_after
    clock_after c l = get_or-tabulate _ 0 n c 0 l ∙ rw zero-add

    -- what holds of x and of what each clock had holds of what it has
    pub each_after : (P : ℕ → Type 0) → P x → ((c : ℕ) → c < n → P (get_or had c 0)) → (c : ℕ) → c < n → P (get_or (clocks_after n es x had) c 0)
    each_after P h k c l = rw (clock_after c l) (go (any (starts_clock c) es))
      where
        go : (b : Bool) → P (cond b x (get_or had c 0))
        go true = h
        go false = k c l

  -- without leaves each clock has what it had
  pub none_after : (had : List ℕ) → length had ≡ n → clocks_after n [] x had ≡ had
  none_after had long = ext_get_or 0 (clocks_after n [] x had) had (length_after [] had ∙ sym long) (λ c l. clock_after [] had c (rw (length_after [] had) at l))

  -- the first leaf, where it is a START, sets its clock, and the others go on from there
  pub leaf_after : (e : Entry) (es : List Entry) (had : List ℕ) → length had ≡ n
      → clocks_after n (e ∷ es) x had ≡ clocks_after n es x (cond (is_kind START e) (set had e.operand.b1 x) had)
  leaf_after e es had long =
      let now : List ℕ = cond (is_kind START e) (set had e.operand.b1 x) had in
      ext_get_or 0 (clocks_after n (e ∷ es) x had) (clocks_after n es x now) (length_after (e ∷ es) had ∙ sym (length_after es now))
      (λ c l. let k : c < n = rw (length_after (e ∷ es) had) at l in clock_after (e ∷ es) had c k ∙ first c k (is_kind START e) ∙ sym (clock_after es now c k))
    where
      named : (c : ℕ) → c < n → (b : Bool) → eqb e.operand.b1 c ≡ b → cond (b || any (starts_clock c) es) x (get_or had c 0) ≡ cond (any (starts_clock c) es) x (get_or (set had e.operand.b1 x) c 0)
      named c l true h = let s : e.operand.b1 ≡ c = eqb-true e.operand.b1 c h in rw (s, get_or-set_same had c x 0 (rw long l)) (sym (cond_same (any (starts_clock c) es) x))
      named c l false h = rw (get_or-set_other had e.operand.b1 c x 0 (λ d. eqb-false e.operand.b1 c h (sym d)))

      first : (c : ℕ) → c < n → (s : Bool) → cond ((s && eqb e.operand.b1 c) || any (starts_clock c) es) x (get_or had c 0) ≡ cond (any (starts_clock c) es) x (get_or (cond s (set had e.operand.b1 x) had) c 0)
      first c l true = named c l (eqb e.operand.b1 c) refl
      first c l false = refl

  -- the same of part p, marked m: a marked START sets its clock
  pub part_after_lem : (t : List ℕ) (p m : ℕ) (ms had : List ℕ) → length had ≡ n
      → clocks_after n (leaves_from t p (m ∷ ms)) x had ≡ clocks_after n (leaves_from t (suc p) ms) x (cond (is_mark m && is_kind START (entry_at Table t p)) (set had (operand_of t p).b1 x) had)
  unfolding leaves_from
  part_after_lem t p m ms had long = go (is_mark m) (is_kind GOAL (entry_at Table t p)) (is_kind START (entry_at Table t p)) (is_kind WAIT (entry_at Table t p)) refl
    where
      leaf : (s : Bool) → is_kind START (entry_at Table t p) ≡ s
          → clocks_after n (entry_at Table t p ∷ leaves_from t (suc p) ms) x had ≡ clocks_after n (leaves_from t (suc p) ms) x (cond s (set had (operand_of t p).b1 x) had)
      leaf s h = rw (← h) (leaf_after (entry_at Table t p) (leaves_from t (suc p) ms) had long)

      go : (b g s w : Bool) → is_kind START (entry_at Table t p) ≡ s
          → clocks_after n (cond (b && (g || (s || w))) (entry_at Table t p ∷ []) [] ++ leaves_from t (suc p) ms) x had ≡ clocks_after n (leaves_from t (suc p) ms) x (cond (b && s) (set had (operand_of t p).b1 x) had)
      go false g s w h = refl
      go true true s w h = leaf s h
      go true false true w h = leaf true h
      go true false false true h = leaf false h
      go true false false false h = refl

-- each flag stays 0 or 1
pub flags_small : (n : ℕ) (es : List Entry) (started : List ℕ) → length started ≡ n → all (λ b. leb b 1) started ≡ true → all (λ b. leb b 1) (clocks_after n es started_flag started) ≡ true
flags_small n es started long small =
    let facts = all_facts (λ b. leb b 1) (λ b. b ≤ 1) (at_most 1) in
    (facts (clocks_after n es started_flag started) n (length_after n started_flag es started)).1
    (each_after n started_flag es started (λ b. b ≤ 1) (omega arith) ((facts started n long).0 small))

-- a clock that is started now is allowed
clock_now : (time : ℕ) → clock_allowed time started_flag time ≡ true
unfolding clock_allowed
clock_now time = le-leb time time (omega arith)

-- clocks that are allowed stay so
pub clocks_settled_lem : (n : ℕ) (es : List Entry) (started starts : List ℕ) (time : ℕ)
    → ((c : ℕ) → c < n → clock_allowed time (get_or started c 0) (get_or starts c 0) ≡ true)
    → (c : ℕ) → c < n → clock_allowed time (get_or (clocks_after n es started_flag started) c 0) (get_or (clocks_after n es time starts) c 0) ≡ true
clocks_settled_lem n es started starts time h c l = rw (clock_after n started_flag es started c l, clock_after n time es starts c l) (go (any (starts_clock c) es))
  where
    go : (b : Bool) → clock_allowed time (cond b started_flag (get_or started c 0)) (cond b time (get_or starts c 0)) ≡ true
    go true = clock_now time
    go false = h c l
