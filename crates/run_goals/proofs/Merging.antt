-- Goal bytes: the pass over the marked leaves, byte by byte, gives what the definitions say of each variable.
use Prim.Native.Nat.{ℕ, suc, ◌+◌, ◌-◌, ◌<◌, ◌≤◌}
use native.Mathlib.Nat.{zero-add}
use native.Mathlib.Numerals.{add-one}
use native.Mathlib.Omega.{arith}
use mathlib.Core.Path.{◌≡◌, refl, sym, ap, ◌∙◌}
use mathlib.Core.Bool.{Bool, true, false, cond, ◌&&◌, ◌||◌, and-false}
use mathlib.Core.List.{List, [], ◌∷◌, ◌++◌}
use lib.Dec.{eqb}
use lib.ListN.{length, get_or, drop, replicate, length-set, length-replicate, get_or-replicate, get_or-append}
use lib.Seq.{sets, set-append_left, get_or-set_same, get_or-set_other, ext_get_or}
use borrow.Author.Tests.{eqb-true, eqb-false, ne_eqb}
use Rattle.base.specs.Lists.{all, bytes_at, tabulate}
use Rattle.base.proofs.Lists.{length-tabulate, get_or-tabulate}
use Rattle.base.proofs.Stores.{length_bytes, sets_start}
use Rattle.meaning.specs.declared.Operand.{Operand}
use Rattle.meaning.specs.declared.Entry.{Entry}
use Rattle.meaning.specs.declared.Form.TheVariants.{Table}
use Rattle.meaning.specs.Sizes.{max_value}
use Rattle.meaning.specs.declared.kinds.Kind.{Kind}
use Rattle.meaning.specs.declared.kinds.Kind.TheVariants.{Goal as GOAL, Start as START, Wait as WAIT}
use Rattle.meaning.specs.Kinds.{value, kind_of, known}
use Rattle.meaning.specs.Program.{parts, variables, clocks, entry_at}
use Rattle.meaning.specs.Table.{is_table}
use Rattle.meaning.specs.Record.{marks_place, marks_in, is_mark}
use Rattle.meaning.specs.Cycle.{no_goal, contested, is_kind, is_leaf, leaves_from, values_for, goal_byte, goal_bytes}
use Rattle.meaning.proofs.Entries.{entry_allowed_lem, goal_fits, length_goals}
use Rattle.program_table.proofs.KindTests.{kind_byte, kind_byte_not}
use Rattle.run_goals.specs.Merged.{merged_byte, goal_merged, goals_merged, leaf_at}

-- What the entries of a table satisfy: a GOAL names a variable of the program, and a value that is at most 250
abbrev Fitting : ℕ → Entry → Type 0
Fitting v e = is_kind GOAL e ≡ true → (e.operand.b1 < v) × (value e.operand ≤ max_value)

table_fits : (t : List ℕ) → is_table t ≡ true → (p : ℕ) → p < parts t → Fitting (variables t) (entry_at Table t p)
table_fits t h p l = goal_fits (variables t) (clocks t) (entry_at Table t p) (entry_allowed_lem t h p l)

-- entries that all fit
abbrev Fit : ℕ → List Entry → Type 0
Fit v [] = Unit {0}
Fit v (e ∷ es) = Fitting v e × Fit v es

leaves_fit : (v : ℕ) (t : List ℕ) (p : ℕ) (ms : List ℕ) → ((q : ℕ) → p ≤ q → q < p + length ms → Fitting v (entry_at Table t q)) → Fit v (leaves_from t p ms)
unfolding leaves_from
leaves_fit v t p [] h = tt
leaves_fit v t p (m ∷ ms) h = go (is_mark m && is_leaf (entry_at Table t p)) (h p (omega arith) (omega arith)) (leaves_fit v t (suc p) ms (λ q a b. h q (omega arith) (omega arith)))
  where
    go : (b : Bool) → Fitting v (entry_at Table t p) → Fit v (leaves_from t (suc p) ms) → Fit v (cond b (entry_at Table t p ∷ []) [] ++ leaves_from t (suc p) ms)
    go true f rest = (f, rest)
    go false f rest = rest

-- One byte: the values that come to it, one after the other
merged_bytes : ℕ → List ℕ → ℕ
merged_bytes b [] = b
merged_bytes b (x ∷ xs) = merged_bytes (merged_byte b x) xs

abbrev Small : List ℕ → Type 0
Small [] = Unit {0}
Small (x ∷ xs) = (x ≤ max_value) × Small xs

-- a contested byte stays so
stays_contested : (xs : List ℕ) → Small xs → merged_bytes contested xs ≡ contested
unfolding merged_bytes merged_byte
stays_contested [] h = refl
stays_contested (x ∷ xs) h = rw (ne_eqb contested x (λ e. omega (arith, e, h.0))) (stays_contested xs h.1)

-- a value stays while the same comes
stays_agreed : (x : ℕ) (xs : List ℕ) → x ≤ max_value → Small xs → merged_bytes x xs ≡ cond (all (eqb x) xs) x contested
unfolding merged_bytes merged_byte
stays_agreed x [] l h = refl
stays_agreed x (y ∷ ys) l h = rw (ne_eqb x no_goal (λ e. omega arith)) (go (eqb x y) (stays_agreed x ys l h.1))
  where
    go : (b : Bool) → merged_bytes x ys ≡ cond (all (eqb x) ys) x contested → merged_bytes (cond b x contested) ys ≡ cond (b && all (eqb x) ys) x contested
    go true agreed = agreed
    go false agreed = stays_contested ys h.1

merged_all : (xs : List ℕ) → Small xs → merged_bytes no_goal xs ≡ goal_byte xs
unfolding merged_bytes merged_byte
merged_all [] h = refl
merged_all (x ∷ xs) h = stays_agreed x xs h.0 h.1

-- All bytes: each takes the values of the GOALs that name its variable
merged_kept : (k : Bool) (g : List ℕ) (o : Operand) → length (cond k (goal_merged g o) g) ≡ length g
unfolding goal_merged
merged_kept true g o = length-set g o.b1 (merged_byte (get_or g o.b1 0) (value o))
merged_kept false g o = refl

length_merged : (g : List ℕ) (es : List Entry) → length (goals_merged g es) ≡ length g
unfolding goals_merged
length_merged g [] = refl
length_merged g (e ∷ es) = length_merged (cond (is_kind GOAL e) (goal_merged g e.operand) g) es ∙ merged_kept (is_kind GOAL e) g e.operand

module _ (g xs : List ℕ) (o : Operand) (v : ℕ) (l : v < length g) where
  byte_merged : (k b : Bool) → eqb o.b1 v ≡ b → merged_bytes (get_or (cond k (goal_merged g o) g) v 0) xs ≡ merged_bytes (get_or g v 0) (cond (k && b) (value o ∷ []) [] ++ xs)
  unfolding goal_merged merged_bytes
  byte_merged false b e = refl
  byte_merged true true e =
      let n : o.b1 ≡ v = eqb-true o.b1 v e in
      rw (n, get_or-set_same g v (merged_byte (get_or g v 0) (value o)) 0 l)
  byte_merged true false e = rw (get_or-set_other g o.b1 v (merged_byte (get_or g o.b1 0) (value o)) 0 (λ d. eqb-false o.b1 v e (sym d)))

byte_of : (g : List ℕ) (es : List Entry) (v : ℕ) → v < length g → get_or (goals_merged g es) v 0 ≡ merged_bytes (get_or g v 0) (values_for v es)
unfolding goals_merged values_for merged_bytes
byte_of g [] v l = refl
byte_of g (e ∷ es) v l =
    byte_of (cond (is_kind GOAL e) (goal_merged g e.operand) g) es v (rw (merged_kept (is_kind GOAL e) g e.operand) l)
    ∙ byte_merged g (values_for v es) e.operand v l (is_kind GOAL e) (eqb e.operand.b1 v) refl

values_small : (v u : ℕ) (es : List Entry) → Fit v es → Small (values_for u es)
unfolding values_for
values_small v u [] h = tt
values_small v u (e ∷ es) h = go (is_kind GOAL e) (eqb e.operand.b1 u) h.0 (values_small v u es h.1)
  where
    go : (k b : Bool) → (k ≡ true → (e.operand.b1 < v) × (value e.operand ≤ max_value)) → Small (values_for u es) → Small (cond (k && b) (value e.operand ∷ []) [] ++ values_for u es)
    go true true f rest = ((f refl).1, rest)
    go true false f rest = rest
    go false b f rest = rest

bytes_merged : (v : ℕ) (es : List Entry) → Fit v es → goals_merged (replicate v no_goal) es ≡ goal_bytes v es
unfolding goal_bytes
bytes_merged v es h =
    let n : length (goals_merged (replicate v no_goal) es) ≡ v = length_merged (replicate v no_goal) es ∙ length-replicate v no_goal in
    ext_get_or 0 (goals_merged (replicate v no_goal) es) (tabulate (λ u. goal_byte (values_for u es)) 0 v) (n ∙ sym (length-tabulate _ 0 v))
    (λ u l.
    let k : u < v = omega (arith, n) in
    byte_of (replicate v no_goal) es u (rw (length-replicate v no_goal) k)
    ∙ (ap (λ (b : ℕ). merged_bytes b (values_for u es)) (get_or-replicate v u no_goal 0 k)
    ∙ (merged_all (values_for u es) (values_small v u es h) ∙ sym (get_or-tabulate (λ w. goal_byte (values_for w es)) 0 v u 0 k ∙ rw zero-add))))

-- what stands after the goal bytes stays
merged_front : (xs zs : List ℕ) (o : Operand) → o.b1 < length xs → goal_merged (xs ++ zs) o ≡ goal_merged xs o ++ zs
unfolding goal_merged
merged_front xs zs o l = rw (get_or-append xs zs 0 o.b1 l) (set-append_left xs zs o.b1 (merged_byte (get_or xs o.b1 0) (value o)) l)

merged_beside : (v : ℕ) (xs zs : List ℕ) (es : List Entry) → length xs ≡ v → Fit v es → goals_merged (xs ++ zs) es ≡ goals_merged xs es ++ zs
unfolding goals_merged
merged_beside v xs zs [] n h = refl
merged_beside v xs zs (e ∷ es) n h =
    ap (λ (g : List ℕ). goals_merged g es) (go (is_kind GOAL e) h.0)
    ∙ merged_beside v (cond (is_kind GOAL e) (goal_merged xs e.operand) xs) zs es (merged_kept (is_kind GOAL e) xs e.operand ∙ n) h.1
  where
    go : (k : Bool) → (k ≡ true → (e.operand.b1 < v) × (value e.operand ≤ max_value)) → cond k (goal_merged (xs ++ zs) e.operand) (xs ++ zs) ≡ cond k (goal_merged xs e.operand) xs ++ zs
    go true f = merged_front xs zs e.operand (omega (arith, n, (f refl).0))
    go false f = refl

goals_merged_lem : (v : ℕ) (g : List ℕ) (es : List Entry) → Fit v es → v ≤ length g → goals_merged (sets g 0 (replicate v no_goal)) es ≡ sets g 0 (goal_bytes v es)
goals_merged_lem v g es h l =
    let n : length (replicate v no_goal) ≡ v = length-replicate v no_goal in
    let m : length (goal_bytes v es) ≡ v = length_goals v es in
    let a : sets g 0 (replicate v no_goal) ≡ replicate v no_goal ++ drop v g = rw n at (sets_start g (replicate v no_goal) (rw n l)) in
    let b : sets g 0 (goal_bytes v es) ≡ goal_bytes v es ++ drop v g = rw m at (sets_start g (goal_bytes v es) (rw m l)) in
    rw (a, b) (merged_beside v (replicate v no_goal) (drop v g) es n h ∙ rw (bytes_merged v es h))

-- The pass over the marked leaves of a table, from bytes that no GOAL names, makes the goal bytes
pub goals_made : (t r g f h : List ℕ) (u v : ℕ) → is_table t ≡ true → variables t ≤ length g → u ≡ variables t → v ≡ u → f ≡ sets g 0 (replicate v no_goal) → h ≡ goals_merged f (leaves_from t 0 (marks_in t r)) → h ≡ sets g 0 (goal_bytes (variables t) (leaves_from t 0 (marks_in t r)))
goals_made t r g f h u v table room u-is v-is f-is h-is =
    let fit : Fit (variables t) (leaves_from t 0 (marks_in t r)) = leaves_fit (variables t) t 0 (marks_in t r) (λ q a b. table_fits t table q (omega (arith, length_bytes r marks_place (parts t)))) in
    rw (h-is, f-is, v-is, u-is) (goals_merged_lem (variables t) g (leaves_from t 0 (marks_in t r)) fit room)

-- The loop
merged_append : (g : List ℕ) (xs ys : List Entry) → goals_merged g (xs ++ ys) ≡ goals_merged (goals_merged g xs) ys
unfolding goals_merged
merged_append g [] ys = refl
merged_append g (x ∷ xs) ys = merged_append (cond (is_kind GOAL x) (goal_merged g x.operand) g) xs ys

module _ (t r g w : List ℕ) (p n : ℕ) (n-is : n ≡ parts t) where
  pub merge_step : (h : List ℕ) → p < n → h ≡ goals_merged g (leaf_at t p (get_or r (marks_place + p) 0)) → goals_merged g (leaves_from t p (bytes_at r (marks_place + p) (n - p))) ≡ w → goals_merged h (leaves_from t (p + 1) (bytes_at r (marks_place + (p + 1)) (n - (p + 1)))) ≡ w
  unfolding leaves_from leaf_at
  merge_step h l h-is i =
      let k : n - p ≡ suc (n - suc p) = omega arith in
      let e : marks_place + suc p ≡ suc (marks_place + p) = omega arith in
      rw (h-is, add-one p, e) (sym (merged_append g (leaf_at t p (get_or r (marks_place + p) 0)) (leaves_from t (suc p) (bytes_at r (suc (marks_place + p)) (n - suc p)))) ∙ (rw k at i))

  pub merge_end : n ≤ p → goals_merged g (leaves_from t p (bytes_at r (marks_place + p) (n - p))) ≡ w → g ≡ w
  unfolding leaves_from goals_merged
  merge_end l i =
      let k : n - p ≡ 0 = omega arith in
      rw k at i

-- one part: a GOAL is a leaf, and no other leaf changes a byte
leaf_merged : (g : List ℕ) (e : Entry) (m k other : Bool) → is_kind GOAL e ≡ k → goals_merged g (cond (m && (k || other)) (e ∷ []) []) ≡ cond (m && k) (goal_merged g e.operand) g
unfolding goals_merged
leaf_merged g e true true other h = rw h
leaf_merged g e true false true h = rw h
leaf_merged g e true false false h = refl
leaf_merged g e false k other h = refl

module _ (t g : List ℕ) (p m : ℕ) (b : Bool) (b-is : b ≡ is_mark m) where
  part_is : (k : Bool) → is_kind GOAL (entry_at Table t p) ≡ k → goals_merged g (leaf_at t p m) ≡ cond (b && k) (goal_merged g (entry_at Table t p).operand) g
  unfolding leaf_at
  part_is k h =
      leaf_merged g (entry_at Table t p) (is_mark m) (is_kind GOAL (entry_at Table t p)) (is_kind START (entry_at Table t p) || is_kind WAIT (entry_at Table t p)) refl
      ∙ rw (← b-is, h)

  pub part_unmarked : b ≡ false → g ≡ goals_merged g (leaf_at t p m)
  part_unmarked h = sym (part_is (is_kind GOAL (entry_at Table t p)) refl ∙ rw h)

  module _ (kind : Kind) (kind-is : kind ≡ kind_of (entry_at Table t p).kind) where
    pub part_other : (kind ≡ GOAL → ⊥) → g ≡ goals_merged g (leaf_at t p m)
    part_other h = sym (part_is false (kind_byte_not GOAL (entry_at Table t p).kind (λ e. h (kind-is ∙ e))) ∙ rw and-false)

    module _ (is-goal : kind ≡ GOAL) (e : Entry) (e-is : e ≡ entry_at Table t p) where
      goal_at : is_kind GOAL (entry_at Table t p) ≡ true
      unfolding known
      goal_at = kind_byte GOAL (entry_at Table t p).kind refl (sym kind-is ∙ is-goal)

      pub part_merged : (h : List ℕ) → b ≡ true → h ≡ goal_merged g e.operand → h ≡ goals_merged g (leaf_at t p m)
      part_merged h marked h-is = h-is ∙ rw e-is (sym (part_is true goal_at ∙ rw marked))

      module _ (table : is_table t ≡ true) (l : p < parts t) where
        goal_fitting : (e.operand.b1 < variables t) × (value e.operand ≤ max_value)
        goal_fitting = rw e-is (table_fits t table p l goal_at)

        pub merge_inside : variables t ≤ length g → e.operand.b1 < length g
        merge_inside room = omega (arith, goal_fitting.0)

        pub merge_fits : value e.operand ≤ max_value
        merge_fits = goal_fitting.1
