-- What the entries of a table satisfy, and the goal bytes that they give.
use Prim.Native.Nat.{ℕ, ◌≤◌, ◌<◌}
use native.Mathlib.Nat.{zero-add}
use native.Mathlib.Omega.{arith}
use mathlib.Core.Path.{◌≡◌, refl, ap, ◌∙◌}
use mathlib.Core.Bool.{Bool, true, false, cond, not, ◌&&◌, ◌||◌, and-false}
use mathlib.Core.Logic.{◌⊎◌, inl, inr}
use mathlib.Core.List.{List, [], ◌∷◌, ◌++◌}
use lib.Dec.{eqb, leb, ltb}
use lib.ListN.{length, get_or}
use borrow.Author.Tests.{eqb-true, leb-true, ltb-true, ne_eqb}
use Rattle.base.specs.Lists.{any}
use Rattle.base.proofs.Lists.{and_left, and_right, length-tabulate, get_or-tabulate, each_tabulated}
use Rattle.meaning.specs.declared.Operand.{Operand}
use Rattle.meaning.specs.declared.Entry.{Entry}
use Rattle.meaning.specs.declared.Form.TheVariants.{Table}
use Rattle.meaning.specs.Sizes.{max_value, unknown_value}
use Rattle.meaning.specs.declared.kinds.Kind.TheVariants.{Goal as GOAL, Start as START}
use Rattle.meaning.specs.Kinds.{kind_of, number_of, value, test_of, test_allowed, condition_allowed, goal_allowed, start_allowed, operand_allowed}
use Rattle.meaning.specs.Program.{parts, variables, clocks, entry_at, entries, entry_allowed}
use Rattle.meaning.specs.Table.{is_table}
use Rattle.meaning.specs.Conditions.{Situation, estimate_of, reached}
use Rattle.meaning.specs.Cycle.{is_kind, gives_to, values_for, goal_byte, goal_bytes}
use Rattle.meaning.proofs.Tables.{table_held}

-- each entry of a table is allowed
pub entry_allowed_lem : (t : List ℕ) → is_table t ≡ true → (p : ℕ) → p < parts t → entry_allowed (variables t) (clocks t) (entry_at Table t p) ≡ true
unfolding entries
entry_allowed_lem t h p l =
    let (q, held, e) = table_held t h in
    rw zero-add at (each_tabulated (entry_at Table t) (entry_allowed (variables t) (clocks t)) 0 (parts t) (rw held.entries_are held.within.entries_allowed) p l)

-- so is what is read as the entry of a part
pub read_allowed : (t : List ℕ) (p : ℕ) (e : Entry) → is_table t ≡ true → p < parts t → e ≡ entry_at Table t p → entry_allowed (variables t) (clocks t) e ≡ true
read_allowed t p e table here e-is = rw e-is (entry_allowed_lem t table p here)

-- an allowed GOAL names a variable of the program and a value of at most 250, so that no goal byte is taken for another
pub goal_fits : (v k : ℕ) (e : Entry) → entry_allowed v k e ≡ true → is_kind GOAL e ≡ true → (e.operand.b1 < v) × (value e.operand ≤ max_value)
unfolding entry_allowed operand_allowed goal_allowed kind_of number_of
goal_fits v k e a g =
    let is-goal : e.kind ≡ 1 = eqb-true e.kind 1 g in
    let allowed : (eqb e.operand.b0 0 && (ltb e.operand.b1 v && leb (value e.operand) max_value)) ≡ true = rw is-goal at a in
    let named = and_right (eqb e.operand.b0 0) (ltb e.operand.b1 v && leb (value e.operand) max_value) allowed in
    (ltb-true e.operand.b1 v (and_left (ltb e.operand.b1 v) (leb (value e.operand) max_value) named), leb-true (value e.operand) max_value (and_right (ltb e.operand.b1 v) (leb (value e.operand) max_value) named))

-- and where the estimate's byte is that value, the variable is known: a board that judges a GOAL may compare the two, and ask no more
pub goal_reached : (v k : ℕ) (sit : Situation) (e : Entry) → entry_allowed v k e ≡ true → is_kind GOAL e ≡ true → reached sit e.operand ≡ eqb (estimate_of sit e.operand.b1) (value e.operand)
unfolding reached
goal_reached v k sit e a g = go (estimate_of sit e.operand.b1) (value e.operand) (goal_fits v k e a g).1
  where
    go : (x n : ℕ) → n ≤ max_value → (not (eqb x unknown_value) && eqb x n) ≡ eqb x n
    go x n fits = by (eqb x n) refl
      where
        by : (b : Bool) → eqb x n ≡ b → (not (eqb x unknown_value) && b) ≡ b
        by true h = rw (ne_eqb x unknown_value (λ u. omega (arith, eqb-true x n h)))
        by false h = and-false (not (eqb x unknown_value))

-- an allowed START names a clock of the program
pub start_fits : (v k : ℕ) (e : Entry) → entry_allowed v k e ≡ true → is_kind START e ≡ true → e.operand.b1 < k
unfolding entry_allowed operand_allowed start_allowed kind_of number_of
start_fits v k e a s =
    let is-start : e.kind ≡ 2 = eqb-true e.kind 2 s in
    let named = and_right (eqb e.operand.b0 0) (ltb e.operand.b1 k && eqb (value e.operand) 0) (rw is-start at a) in
    ltb-true e.operand.b1 k (and_left (ltb e.operand.b1 k) (eqb (value e.operand) 0) named)

-- an allowed WAIT, MAINTAIN or CHOICE has an allowed condition
pub condition_fits : (v k : ℕ) (e : Entry) → entry_allowed v k e ≡ true → (e.kind ≡ 3) ⊎ ((e.kind ≡ 6) ⊎ (e.kind ≡ 7)) → condition_allowed v k e.operand ≡ true
unfolding entry_allowed operand_allowed kind_of
condition_fits v k e a (inl h) = rw h at a
condition_fits v k e a (inr (inl h)) = rw h at a
condition_fits v k e a (inr (inr h)) = rw h at a

-- an allowed condition asks for a variable of the program in tests 1 and 2, and for a clock of it in tests 3 and 4
module _ (v k : ℕ) (o : Operand) (a : condition_allowed v k o ≡ true) where
  pub variable_tested : (o.b0 ≡ 1) ⊎ (o.b0 ≡ 2) → o.b1 < v
  unfolding condition_allowed test_of test_allowed
  variable_tested (inl h) = ltb-true o.b1 v (and_left (ltb o.b1 v) (leb (value o) max_value) (rw h at a))
  variable_tested (inr h) = ltb-true o.b1 v (and_left (ltb o.b1 v) (leb (value o) max_value) (rw h at a))

  pub clock_tested : (o.b0 ≡ 3) ⊎ (o.b0 ≡ 4) → o.b1 < k
  unfolding condition_allowed test_of test_allowed
  clock_tested (inl h) = ltb-true o.b1 k (rw h at a)
  clock_tested (inr h) = ltb-true o.b1 k (rw h at a)

-- some value that is given to a variable passes a test exactly where some entry gives it one that does
pub any_given : (v : ℕ) (f : ℕ → Bool) (es : List Entry) → any f (values_for v es) ≡ any (λ e. gives_to v e && f (value e.operand)) es
unfolding values_for
any_given v f [] = refl
any_given v f (e ∷ es) = rw (← (any_given v f es)) (go (gives_to v e))
  where
    go : (b : Bool) → any f (cond b (value e.operand ∷ []) [] ++ values_for v es) ≡ ((b && f (value e.operand)) || any f (values_for v es))
    go true = refl
    go false = refl

-- one goal byte a variable
pub length_goals : (v : ℕ) (es : List Entry) → length (goal_bytes v es) ≡ v
unfolding goal_bytes
length_goals v es = length-tabulate (λ u. goal_byte (values_for u es)) 0 v

-- the goal byte of a variable
pub byte_at : (n v : ℕ) (es : List Entry) → v < n → get_or (goal_bytes n es) v 0 ≡ goal_byte (values_for v es)
unfolding goal_bytes
byte_at n v es h = get_or-tabulate (λ u. goal_byte (values_for u es)) 0 n v 0 h ∙ ap (λ (u : ℕ). goal_byte (values_for u es)) (zero-add v)
