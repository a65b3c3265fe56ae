-- What each goal byte of an offer says, by part number.
use Prim.Native.Nat.{ℕ, zero, suc, ◌≤◌, ◌<◌}
use native.Mathlib.Omega.{arith}
use mathlib.Core.Path.{◌≡◌, refl, sym, ◌∙◌}
use mathlib.Core.Logic.{◌↔◌, ◌⊎◌, inl, inr}
use mathlib.Core.Bool.{Bool, true, false, cond, ◌&&◌, ◌||◌, false≢true, or-true}
use mathlib.Core.List.{List, [], ◌∷◌}
use lib.Dec.{eqb}
use lib.ListN.{length, get_or}
use borrow.Author.Tests.{eqb-true, eqb-false, eq-eqb}
use Rattle.base.specs.Lists.{all, any}
use Rattle.base.proofs.Lists.{and_left, and_right, fails_of_one, all_first}
use Rattle.base.proofs.Stores.{length_bytes}
use Rattle.meaning.specs.declared.Entry.{Entry}
use Rattle.meaning.specs.declared.Form.TheVariants.{Table}
use Rattle.meaning.specs.Sizes.{max_value}
use Rattle.meaning.specs.declared.kinds.Kind.TheVariants.{Goal as GOAL}
use Rattle.meaning.specs.Kinds.{value}
use Rattle.meaning.specs.Program.{parts, variables, clocks, entry_at}
use Rattle.meaning.specs.Table.{operand_of, is_table}
use Rattle.meaning.specs.Record.{marks_place, estimate_in, marks_in}
use Rattle.meaning.specs.Cycle.{is_kind, is_leaf, leaves_from, no_goal, contested, gives_to, values_for, goal_byte, situation, checked_marks, offered_goals}
use Rattle.sentences.specs.Marks.{GoalAt, NoGoalAt, GoalsAgree, GoalsDiffer}
use Rattle.meaning.proofs.Entries.{entry_allowed_lem, goal_fits, any_given, byte_at}
use Rattle.meaning.proofs.Records.{length_checked}
use Rattle.sentences.proofs.LeavesAt.{leaf_marked}

-- a goal byte b says one of the three
abbrev pub Says : ℕ → List ℕ → List ℕ → ℕ → Type 0
Says b t ms v = ((b ≡ no_goal) × NoGoalAt t ms v) ⊎ (((b ≤ max_value) × GoalsAgree t ms v b) ⊎ ((b ≡ contested) × GoalsDiffer t ms v))

-- no two of the three are said at once
module _ (b : ℕ) (t ms : List ℕ) (v : ℕ) where
  pub says_none : Says b t ms v → (b ≡ no_goal) ↔ NoGoalAt t ms v
  says_none (inl (e, none)) = (λ h. none, λ n. e)
  says_none (inr (inl (l, ((p, g), same)))) = (λ h. absurd (omega arith), λ n. absurd (n p g))
  says_none (inr (inr (e, (p, q, g, k, d)))) = (λ h. absurd (omega arith), λ n. absurd (n p g))

  says_value : (x : ℕ) → Says b t ms v → ((b ≡ x) × (x ≤ max_value)) ↔ GoalsAgree t ms v x
  says_value x (inl (e, none)) = (λ (h, l). absurd (omega arith), λ ((p, g), all_are). absurd (none p g))
  says_value x (inr (inl (l, ((p, g), same)))) = (
    λ (h, k). ((p, g), λ q a. same q a ∙ h),
    λ (some, all_are). let e : b ≡ x = sym (same p g) ∙ all_are p g in (e, omega arith),
  )
  says_value x (inr (inr (e, (p, q, g, k, d)))) = (λ (h, l). absurd (omega arith), λ (some, all_are). absurd (d (all_are p g ∙ sym (all_are q k))))

  says_contested : Says b t ms v → (b ≡ contested) ↔ GoalsDiffer t ms v
  says_contested (inl (e, none)) = (λ h. absurd (omega arith), λ (p, q, g, k, d). absurd (none p g))
  says_contested (inr (inl (l, (some, same)))) = (λ h. absurd (omega arith), λ (p, q, g, k, d). absurd (d (same p g ∙ sym (same q k))))
  says_contested (inr (inr (e, d))) = (λ h. d, λ k. e)

-- a number is in a list exactly where it stands at some place
in_place : (x : ℕ) (xs : List ℕ) → any (eqb x) xs ≡ true → (i : ℕ) × (i < length xs) × (get_or xs i 0 ≡ x)
in_place x [] h = absurd (false≢true h)
in_place x (y ∷ ys) h = go (eqb x y) refl h (in_place x ys)
  where
    go : (b : Bool) → eqb x y ≡ b → (b || any (eqb x) ys) ≡ true → (any (eqb x) ys ≡ true → (i : ℕ) × (i < length ys) × (get_or ys i 0 ≡ x)) → (i : ℕ) × (i < length (y ∷ ys)) × (get_or (y ∷ ys) i 0 ≡ x)
    go true e k later = (0, omega arith, sym (eqb-true x y e))
    go false e k later = let (i, l, g) = later k in (suc i, omega arith, g)

place_in : (xs : List ℕ) (i : ℕ) → i < length xs → any (eqb (get_or xs i 0)) xs ≡ true
place_in [] i l = absurd (omega arith)
place_in (x ∷ xs) zero l = rw (eq-eqb x x refl)
place_in (x ∷ xs) (suc i) l = rw (place_in xs i (omega arith), or-true)

-- an entry is a GOAL that gives variable v value x
abbrev gives : ℕ → ℕ → Entry → Bool
gives v x e = gives_to v e && eqb x (value e.operand)

gives_leaf : (v x : ℕ) (e : Entry) → gives v x e ≡ true → is_leaf e ≡ true
gives_leaf v x e h = rw (and_left (is_kind GOAL e) (eqb e.operand.b1 v) (and_left (gives_to v e) (eqb x (value e.operand)) h))

module _ (t ms : List ℕ) (v : ℕ) where
  abbrev given : List ℕ
  given = values_for v (leaves_from t 0 ms)

  -- the values given to a variable are those of the marked GOALs that name it
  value_at : (i : ℕ) → i < length given → (p : ℕ) × GoalAt t ms v p × (value (operand_of t p) ≡ get_or given i 0)
  value_at i l =
      let x = get_or given i 0 in
      let (p, (m, a, h)) = (leaf_marked (gives v x) (gives_leaf v x) t ms).0 (sym (any_given v (eqb x) (leaves_from t 0 ms)) ∙ place_in given i l) in
      let k = and_left (gives_to v (entry_at Table t p)) (eqb x (value (operand_of t p))) h in
      let e = and_right (gives_to v (entry_at Table t p)) (eqb x (value (operand_of t p))) h in (
        p,
        (m, a, and_left (is_kind GOAL (entry_at Table t p)) (eqb (operand_of t p).b1 v) k, eqb-true (operand_of t p).b1 v (and_right (is_kind GOAL (entry_at Table t p)) (eqb (operand_of t p).b1 v) k)),
        sym (eqb-true x (value (operand_of t p)) e),
      )

  value_of : (p : ℕ) → GoalAt t ms v p → (i : ℕ) × (i < length given) × (get_or given i 0 ≡ value (operand_of t p))
  value_of p (l, a, g, e) =
      let x = value (operand_of t p) in
      in_place x given (any_given v (eqb x) (leaves_from t 0 ms) ∙ (leaf_marked (gives v x) (gives_leaf v x) t ms).1 (p, (l, a, rw (g, eq-eqb (operand_of t p).b1 v e, eq-eqb x x refl))))

  -- where no marked GOAL has a value above 250, a goal byte says one of the three
  pub byte_says : ((p : ℕ) → GoalAt t ms v p → value (operand_of t p) ≤ max_value) → Says (goal_byte given) t ms v
  byte_says fits = go given value_at value_of
    where
      go : (xs : List ℕ) → ((i : ℕ) → i < length xs → (p : ℕ) × GoalAt t ms v p × (value (operand_of t p) ≡ get_or xs i 0))
          → ((p : ℕ) → GoalAt t ms v p → (i : ℕ) × (i < length xs) × (get_or xs i 0 ≡ value (operand_of t p))) → Says (goal_byte xs) t ms v
      go [] at of = inl (refl, λ p g. absurd (omega (arith, (of p g).1)))
      go (x ∷ xs) at of = on (all (eqb x) xs) refl
        where
          on : (b : Bool) → all (eqb x) xs ≡ b → Says (cond b x contested) t ms v
          on true e =
              let (p, g, h) = at 0 (omega arith) in
              inr (inl (omega (arith, fits p g), ((p, g), λ q k. let (i, l, d) = of q k in sym d ∙ all_first x xs e i l)))
          on false e =
              let (i, l, d) = fails_of_one (eqb x) xs e in
              let (p, g, h) = at 0 (omega arith) in
              let (q, k, f) = at (suc i) (omega arith) in
              inr (inr (refl, (p, q, g, k, λ s. eqb-false x (get_or xs i 0) d (sym h ∙ s ∙ f))))

-- "value 0 to 250": a GOAL of a table
pub goal_values_fit : (t : List ℕ) → is_table t ≡ true → (p : ℕ) → p < parts t → is_kind GOAL (entry_at Table t p) ≡ true → value (operand_of t p) ≤ max_value
goal_values_fit t h p l g = (goal_fits (variables t) (clocks t) (entry_at Table t p) (entry_allowed_lem t h p l) g).1

-- "Of the V goal bytes, each is"
module _ (t r : List ℕ) (time : ℕ) (table : is_table t ≡ true) (v : ℕ) (below : v < variables t) where
  length_marks : length (checked_marks t r time) ≡ parts t
  length_marks = length_checked t (situation t r (estimate_in t r) time) 0 (marks_in t r) 0 ∙ length_bytes r marks_place (parts t)

  says : Says (get_or (offered_goals t r time) v 0) t (checked_marks t r time) v
  says =
      rw (byte_at (variables t) v (leaves_from t 0 (checked_marks t r time)) below)
      (byte_says t (checked_marks t r time) v (λ p (l, a, g, e). goal_values_fit t table p (rw length_marks at l) g))

  -- "255 where no marked GOAL names that variable"
  pub no_goal_lem : (get_or (offered_goals t r time) v 0 ≡ no_goal) ↔ NoGoalAt t (checked_marks t r time) v
  no_goal_lem = says_none _ t (checked_marks t r time) v says

  -- "the value where all agree"
  pub goal_agreed : (x : ℕ) → ((get_or (offered_goals t r time) v 0 ≡ x) × (x ≤ max_value)) ↔ GoalsAgree t (checked_marks t r time) v x
  goal_agreed x = says_value _ t (checked_marks t r time) v x says

  -- "254 where two differ (contested)"
  pub goal_contested : (get_or (offered_goals t r time) v 0 ≡ contested) ↔ GoalsDiffer t (checked_marks t r time) v
  goal_contested = says_contested _ t (checked_marks t r time) v says
