-- The variable that an offer names: the lowest contested one, as the sentence says it.
use Prim.Native.Nat.{ℕ, zero, suc, ◌+◌, ◌≤◌, ◌<◌}
use native.Mathlib.Nat.{zero-add}
use native.Mathlib.Omega.{arith}
use mathlib.Core.Path.{◌≡◌, refl, sym, subst, ◌∙◌}
use mathlib.Core.Bool.{Bool, true, false, cond}
use mathlib.Core.Logic.{◌↔◌, ◌⊎◌, inl, inr}
use mathlib.Core.List.{List, [], ◌∷◌}
use lib.Dec.{eqb}
use lib.ListN.{length, get_or}
use borrow.Author.Tests.{eqb-true, eqb-false}
use Rattle.meaning.specs.Program.{variables}
use Rattle.meaning.specs.Table.{is_table}
use Rattle.meaning.specs.Cycle.{leaves_from, contested, lowest_contested, checked_marks, offered_goals, offered_name}
use Rattle.meaning.specs.Answers.{no_variable}
use Rattle.meaning.proofs.Entries.{length_goals}
use Rattle.meaning.proofs.Nesting.{lower}
use Rattle.sentences.specs.Marks.{GoalsDiffer, NamesLowest}
use Rattle.sentences.proofs.GoalBytes.{goal_contested}

-- the goal byte of variable v is contested
abbrev pub ContestedIn : List ℕ → ℕ → Type 0
ContestedIn gs v = get_or gs v 0 ≡ contested

-- what is named among the bytes of the variables from v on: the i-th of them, or none
abbrev Found : ℕ → List ℕ → ℕ → Type 0
Found v gs x = ((i : ℕ) × (x ≡ v + i) × (i < length gs) × ContestedIn gs i × ((j : ℕ) → j < i → ContestedIn gs j → ⊥)) ⊎ ((x ≡ no_variable) × ((j : ℕ) → j < length gs → ContestedIn gs j → ⊥))

module _ (v b : ℕ) (bs : List ℕ) (x : ℕ) where
  -- where the first is not contested, the others decide
  none_before : (b ≡ contested → ⊥) → (m : ℕ) → ((j : ℕ) → j < m → ContestedIn bs j → ⊥) → (j : ℕ) → j < suc m → ContestedIn (b ∷ bs) j → ⊥
  none_before n m none zero k d = n d
  none_before n m none (suc j) k d = none j (omega arith) d

  passed : (b ≡ contested → ⊥) → Found (suc v) bs x → Found v (b ∷ bs) x
  passed n (inl (i, e, l, c, none)) = inl (suc i, omega arith, omega arith, c, none_before n i none)
  passed n (inr (e, none)) = inr (e, none_before n (length bs) none)

  first : (c : Bool) → eqb b contested ≡ c → Found (suc v) bs x → Found v (b ∷ bs) (cond c v x)
  first true e rest = inl (0, omega arith, omega arith, eqb-true b contested e, λ j k. absurd (omega arith))
  first false e rest = passed (eqb-false b contested e) rest

found : (v : ℕ) (gs : List ℕ) → Found v gs (lowest_contested v gs)
unfolding lowest_contested
found v [] = inr (refl, λ j l. absurd (omega arith))
found v (b ∷ bs) = first v b bs (lowest_contested (suc v) bs) (eqb b contested) refl (found (suc v) bs)

-- what `lowest_contested` computes is the variable that the sentence speaks of
lowest_found : (gs : List ℕ) → NamesLowest (ContestedIn gs) (length gs) (lowest_contested 0 gs)
lowest_found gs = go (lowest_contested 0 gs) (found 0 gs)
  where
    go : (x : ℕ) → Found 0 gs x → NamesLowest (ContestedIn gs) (length gs) x
    go x (inl (i, e, l, c, none)) = let k : x ≡ i = e ∙ zero-add i in inl (rw k l, rw k c, rw k none)
    go x (inr none) = inr none

-- at most one name is that of the lowest contested variable, or 255 for none
pub one_lowest : (C : ℕ → Type 0) (n x y : ℕ) → NamesLowest C n x → NamesLowest C n y → x ≡ y
one_lowest C n x y (inl (l, c, none)) (inl (k, d, never)) = go (lower x y) (lower y x)
  where
    go : (x < y) ⊎ (y ≤ x) → (y < x) ⊎ (x ≤ y) → x ≡ y
    go (inl h) q = absurd (never x h c)
    go (inr h) (inl q) = absurd (none y q d)
    go (inr h) (inr q) = omega arith
one_lowest C n x y (inl (l, c, none)) (inr (e, never)) = absurd (never x l c)
one_lowest C n x y (inr (e, none)) (inl (k, d, never)) = absurd (none y k d)
one_lowest C n x y (inr (e, none)) (inr (f, never)) = e ∙ sym f

-- where two contest the same variables, they name the same
same_lowest : (C D : ℕ → Type 0) (n x : ℕ) → ((v : ℕ) → v < n → C v ↔ D v) → NamesLowest C n x → NamesLowest D n x
same_lowest C D n x same (inl (l, c, none)) = inl (l, (same x l).0 c, λ v h d. none v h ((same v (omega arith)).1 d))
same_lowest C D n x same (inr (e, none)) = inr (e, λ v h d. none v h ((same v h).1 d))

-- The law: a name is what `lowest_contested` computes exactly where the sentence says so
pub lowest_names : (gs : List ℕ) (x : ℕ) → (x ≡ lowest_contested 0 gs) ↔ NamesLowest (ContestedIn gs) (length gs) x
lowest_names gs x = (
  λ e. subst (NamesLowest (ContestedIn gs) (length gs)) (sym e) (lowest_found gs),
  λ h. one_lowest (ContestedIn gs) (length gs) x (lowest_contested 0 gs) h (lowest_found gs),
)

-- so is the variable that an offer names, by the marked GOALs
pub offered_lowest : (t r : List ℕ) (time : ℕ) → is_table t ≡ true → NamesLowest (GoalsDiffer t (checked_marks t r time)) (variables t) (offered_name t r time)
offered_lowest t r time table =
    let gs = offered_goals t r time in
    same_lowest (ContestedIn gs) (GoalsDiffer t (checked_marks t r time)) (variables t) (offered_name t r time) (goal_contested t r time table)
    (subst (λ (n : ℕ). NamesLowest (ContestedIn gs) n (offered_name t r time)) (length_goals (variables t) (leaves_from t 0 (checked_marks t r time))) (lowest_found gs))
