-- The loops over marks: what a turn, a turn that stops and the end of a loop make of a test or a count of the marks from a part on.
use Prim.Native.Nat.{ℕ, zero, suc, ◌+◌, ◌-◌, ◌<◌, ◌≤◌, min}
use native.Mathlib.Nat.{zero-add, add-zero, add-suc, suc-add}
use native.Mathlib.Numerals.{add-one}
use native.Mathlib.Omega.{arith}
use mathlib.Core.Path.{◌≡◌, refl, sym, ◌∙◌}
use mathlib.Core.Bool.{Bool, true, false, not, ◌&&◌, and-true}
use mathlib.Core.List.{List, [], ◌∷◌}
use lib.ListN.{length, get_or, take, drop, drop_of_length-le}
use lib.Seq.{drop-cons, drop-drop}
use borrow.Author.Tests.{not-true, not-false, eq-eqb, ne_eqb}
use Rattle.base.specs.Lists.{any, flag, bytes_at}
use Rattle.base.proofs.Stores.{length_bytes, get_or_bytes, take_bytes}
use Rattle.meaning.specs.declared.kinds.Kind.{Kind}
use Rattle.meaning.specs.declared.Form.TheVariants.{Table}
use Rattle.meaning.specs.Kinds.{kind_of}
use Rattle.meaning.specs.Program.{parts, entry_at}
use Rattle.meaning.specs.Table.{end_at, parent_at, Inside, inside_of, is_table}
use Rattle.meaning.specs.Record.{marks_place, record_length, phase_of, marks_in, finished, is_mark, marked_children, children_allowed, part_allowed, parts_allowed, root_allowed}
use Rattle.meaning.proofs.Tables.{inside, root_there}
use Rattle.meaning.proofs.Nesting.{nested, inner_part, closed_inside}
use Rattle.run_record.proofs.Marks.{mark_inside, marks_inside}
use Rattle.run_allowed.specs.Inner.{inner_marks, part_after}
use Rattle.run_allowed.proofs.Children.{first_child, no_child, next_child, skip_count, skip_parts}

-- the bytes from a place on, without the first k of them, and the first k alone
bytes_dropped : (s : List ℕ) (i n k : ℕ) → drop k (bytes_at s i n) ≡ bytes_at s (i + k) (n - k)
bytes_dropped s i n zero = let k : n - 0 ≡ n = omega arith in rw (k, add-zero)
bytes_dropped s i zero (suc k) = let e : 0 - suc k ≡ 0 = omega arith in rw e
bytes_dropped s i (suc n) (suc k) =
    let e : suc n - suc k ≡ n - k = omega arith in
    bytes_dropped s (suc i) n k ∙ rw (e, suc-add, add-suc)

bytes_taken_lem : (s : List ℕ) (i n k : ℕ) → take k (bytes_at s i n) ≡ bytes_at s i (min k n)
bytes_taken_lem s i n zero = let e : min 0 n ≡ 0 = omega arith in rw e
bytes_taken_lem s i zero (suc k) = let e : min (suc k) 0 ≡ 0 = omega arith in rw e
bytes_taken_lem s i (suc n) (suc k) = let e : min (suc k) (suc n) ≡ suc (min k n) = omega arith in rw (e, bytes_taken_lem s (suc i) n k)

-- the mark of part q, and those after it
marks_next : (r : List ℕ) (q e : ℕ) → q < e → bytes_at r (marks_place + q) (e - q) ≡ get_or r (marks_place + q) 0 ∷ bytes_at r (marks_place + (q + 1)) (e - (q + 1))
marks_next r q e h =
    let k : e - q ≡ suc (e - (q + 1)) = omega arith in
    let l : marks_place + (q + 1) ≡ suc (marks_place + q) = omega arith in
    rw (k, l)

marks_past : (r : List ℕ) (q e : ℕ) → e ≤ q → bytes_at r (marks_place + q) (e - q) ≡ []
marks_past r q e h = let k : e - q ≡ 0 = omega arith in rw k

-- the marks of the parts from one on, before another, are those between the two that code takes as a slice
pub marks_taken : (r : List ℕ) (from to i j : ℕ) (b : Bool) → from ≤ to → marks_place + to ≤ length r → i ≡ from → j ≡ to → b ≡ any is_mark (take (marks_place + j - (marks_place + i)) (drop (marks_place + i) r)) → b ≡ any is_mark (bytes_at r (marks_place + from) (to - from))
marks_taken r from to i j b order long i-is j-is b-is =
    let e : marks_place + to - (marks_place + from) ≡ to - from = omega arith in
    rw (← (take_bytes r (marks_place + from) (to - from) (omega arith))) (rw (j-is, i-is, e) at b-is)

-- the marks inside part p, as they stand in the record
inner_bytes : (t r : List ℕ) (p e : ℕ) → e ≡ end_at t p → e ≤ parts t → inner_marks t r p ≡ bytes_at r (marks_place + (p + 1)) (e - (p + 1))
unfolding inner_marks
inner_bytes t r p e e-is h =
    let k : min (inside_of t p) (parts t - suc p) ≡ e - (p + 1) = omega arith in
    let l : marks_place + suc p ≡ marks_place + (p + 1) = omega arith in
    rw (bytes_dropped r marks_place (parts t) (suc p), bytes_taken_lem r (marks_place + suc p) (parts t - suc p) (inside_of t p), k, l)

-- and all of them stand there
pub inner_order : (t : List ℕ) (p e : ℕ) → is_table t ≡ true → p < parts t → e ≡ end_at t p → p + 1 ≤ e
inner_order t p e table here e-is = omega (arith, (inside t table p here).end_after)

pub inner_long : (t r : List ℕ) (p e : ℕ) → is_table t ≡ true → record_length ≤ length r → p < parts t → e ≡ end_at t p → marks_place + e ≤ length r
inner_long t r p e table long here e-is = marks_inside t table r e long (omega (arith, (inside t table p here).end_within_lem))

-- a mark counts at most 1
pub flag_small : (b : Bool) (f : ℕ) → f ≡ flag b → f ≤ 1
flag_small true f f-is = omega arith
flag_small false f f-is = omega arith

-- The marked children of part p, counted from child to child: n before part q, which is a child of p where it stands before the end e of p
pub record Counting (t r : List ℕ) (p e q n : ℕ) : Type 0 where
  pub inner : p < q
  pub few : n ≤ q
  pub child : q < e → parent_at t q ≡ p
  pub left : n + marked_children t p q (bytes_at r (marks_place + q) (e - q)) ≡ marked_children t p (suc p) (inner_marks t r p)

module _ (t r : List ℕ) (p e : ℕ) (table : is_table t ≡ true) (here : p < parts t) (e-is : e ≡ end_at t p) where
  pub count_starts : Counting t r p e (p + 1) 0
  count_starts =
      record {
        inner = omega arith;
        few = omega arith;
        child = λ h. rw (add-one p) (first_child t table p (omega arith));
        left = rw (inner_bytes t r p e e-is (omega (arith, (inside t table p here).end_within_lem)), zero-add, add-one p);
      }

  module _ (q n : ℕ) (counting : Counting t r p e q n) (h : q < e) where
    inside_p : Inside t p q
    inside_p = (counting.inner, omega arith)

    pub child_there : q < parts t
    child_there = inner_part t table p q inside_p

    -- the mark of a child can be read
    pub count_marked : record_length ≤ length r → marks_place + q < length r
    count_marked long = mark_inside t table r q long child_there

    module _ (q₁ : ℕ) (q₁-is : q₁ ≡ end_at t q) where
      pub count_later : q < q₁
      count_later = omega (arith, (inside t table q child_there).end_after)

      -- what a child and all inside it count
      count_jump : (b : Bool) (f : ℕ) → b ≡ is_mark (get_or r (marks_place + q) 0) → f ≡ flag b → marked_children t p q (bytes_at r (marks_place + q) (e - q)) ≡ f + marked_children t p q₁ (bytes_at r (marks_place + q₁) (e - q₁))
      unfolding marked_children
      count_jump b f b-is f-is =
          let child : parent_at t q ≡ p = counting.child h in
          let i : e - (q + 1) ≡ (q₁ - suc q) + (e - q₁) = omega (arith, count_later, nested t table p q inside_p) in
          let j : suc q + (q₁ - suc q) ≡ q₁ = omega (arith, count_later) in
          let k : marks_place + suc q + (q₁ - suc q) ≡ marks_place + q₁ = omega (arith, count_later) in
          let s = skip_count t r p (suc q) (marks_place + suc q) (q₁ - suc q) (e - q₁) (λ x a c. no_child t table p q inside_p child x a (omega (arith, count_later))) in
          rw (marks_next r q e h, ← b-is, eq-eqb (parent_at t q) p child, and-true b, ← f-is, i, add-one q, s, j, k)

      pub count_next : (b : Bool) (f : ℕ) → b ≡ is_mark (get_or r (marks_place + q) 0) → f ≡ flag b → Counting t r p e q₁ (n + f)
      count_next b f b-is f-is =
          record {
            inner = omega (arith, counting.inner, count_later);
            few = omega (arith, flag_small b f f-is, counting.few, count_later);
            child = λ l. rw q₁-is (next_child t table p q inside_p (counting.child h) (omega arith));
            left = omega (arith, count_jump b f b-is f-is, counting.left);
          }

  pub count_ends : (q n : ℕ) → Counting t r p e q n → e ≤ q → n ≡ marked_children t p (suc p) (inner_marks t r p)
  unfolding marked_children
  count_ends q n counting h =
      let k = rw (marks_past r q e h) at counting.left in
      omega arith

-- one part, by the mark that the code reads of it
module _ (t r : List ℕ) (phase p : ℕ) (here : p < parts t) (b : Bool) (b-is : b ≡ is_mark (get_or r (marks_place + p) 0)) where
  pub marked_allowed : (kind : Kind) (n : ℕ) (x : Bool) → b ≡ true → kind ≡ kind_of (entry_at Table t p).kind → n ≡ marked_children t p (suc p) (inner_marks t r p) → x ≡ children_allowed phase kind n → x ≡ part_allowed t phase p (get_or (marks_in t r) p 0) (drop (suc p) (marks_in t r))
  unfolding inner_marks
  marked_allowed kind n x marked kind-is n-is x-is = rw (get_or_bytes r marks_place (parts t) p here, ← b-is, marked, x-is, kind-is, n-is)

  pub unmarked_allowed : (e : ℕ) (x : Bool) → is_table t ≡ true → b ≡ false → e ≡ end_at t p → x ≡ any is_mark (bytes_at r (marks_place + (p + 1)) (e - (p + 1))) → not x ≡ part_allowed t phase p (get_or (marks_in t r) p 0) (drop (suc p) (marks_in t r))
  unfolding inner_marks
  unmarked_allowed e x table unmarked e-is x-is = rw (get_or_bytes r marks_place (parts t) p here, ← b-is, unmarked, x-is, inner_bytes t r p e e-is (omega (arith, (inside t table p here).end_within_lem)))

-- all parts
module _ (t r : List ℕ) (phase n p : ℕ) (n-is : n ≡ parts t) where
  parts_next : p < n → drop p (marks_in t r) ≡ get_or (marks_in t r) p 0 ∷ drop (suc p) (marks_in t r)
  parts_next h = drop-cons (marks_in t r) p 0 (omega (arith, length_bytes r marks_place (parts t)))

  module _ (b x : Bool) (h : p < n) (b-is : b ≡ part_allowed t phase p (get_or (marks_in t r) p 0) (drop (suc p) (marks_in t r))) (i : parts_allowed t phase p (drop p (marks_in t r)) ≡ x) where
    parts_split : (b && parts_allowed t phase (suc p) (drop (suc p) (marks_in t r))) ≡ x
    unfolding parts_allowed
    parts_split = rw b-is (rw (parts_next h) at i)

    pub parts_allowed_pass : (q : ℕ) → is_table t ≡ true → q ≡ part_after t p (get_or r (marks_place + p) 0) → not b ≡ false → parts_allowed t phase q (drop q (marks_in t r)) ≡ x
    unfolding part_after
    parts_allowed_pass q table q-is f = go (is_mark (get_or r (marks_place + p) 0)) refl
      where
        here : p < parts t
        here = omega arith

        rest : parts_allowed t phase (suc p) (drop (suc p) (marks_in t r)) ≡ x
        rest = rw (not-false b f) at parts_split

        go : (m : Bool) → is_mark (get_or r (marks_place + p) 0) ≡ m → parts_allowed t phase q (drop q (marks_in t r)) ≡ x
        go true e = rw (q-is, e) rest
        go false e =
            let holds : true ≡ not (any is_mark (take (inside_of t p) (drop (suc p) (marks_in t r)))) = rw (not-false b f, get_or_bytes r marks_place (parts t) p here, e) at b-is in
            let none : any is_mark (take (inside_of t p) (drop (suc p) (marks_in t r))) ≡ false = not-true _ (sym holds) in
            let ends : suc p + inside_of t p ≡ end_at t p = omega (arith, (inside t table p here).end_after) in
            rw (q-is, e, ← ends, ← drop-drop (inside_of t p) (suc p) (marks_in t r)) (sym (skip_parts t table phase (inside_of t p) (suc p) (drop (suc p) (marks_in t r)) none (closed_inside t table p)) ∙ rest)

    pub parts_fail : not b ≡ true → false ≡ x
    parts_fail f = rw (not-true b f) at parts_split

  pub parts_later : (q : ℕ) → is_table t ≡ true → p < n → q ≡ part_after t p (get_or r (marks_place + p) 0) → p < q
  unfolding part_after
  parts_later q table h q-is = go (is_mark (get_or r (marks_place + p) 0)) refl
    where
      go : (m : Bool) → is_mark (get_or r (marks_place + p) 0) ≡ m → p < q
      go true e = omega (arith, rw e at q-is)
      go false e = omega (arith, rw e at q-is, (inside t table p (omega arith)).end_after)

  pub parts_allowed_end : (x : Bool) → n ≤ p → parts_allowed t phase p (drop p (marks_in t r)) ≡ x → true ≡ x
  unfolding parts_allowed
  parts_allowed_end x h i = rw (drop_of_length-le (marks_in t r) {i = p} (omega (arith, length_bytes r marks_place (parts t)))) at i

-- the root
module _ (t r : List ℕ) (phase : ℕ) (phase_is : phase ≡ phase_of r) where
  pub root_runs : (b : Bool) → is_table t ≡ true → (phase ≡ finished → ⊥) → b ≡ is_mark (get_or r (marks_place + 0) 0) → b ≡ root_allowed (phase_of r) (marks_in t r)
  unfolding root_allowed
  root_runs b table f b-is = rw (← phase_is, ne_eqb phase finished f, b-is, get_or_bytes r marks_place (parts t) 0 (root_there t table))
