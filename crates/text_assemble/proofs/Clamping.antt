-- Numbers that no byte holds are stored as 255: an operand with one is not allowed either way, and in a program within the limits there is none.
use Prim.Native.Nat.{ℕ, suc, ◌+◌, ◌*◌, ◌≤◌, ◌<◌}
use mathlib.Core.Path.{◌≡◌, refl, ap, ap₂, sym, subst, ◌∙◌}
use mathlib.Core.Bool.{true, not, false≢true}
use mathlib.Core.List.{List, [], ◌∷◌, ◌++◌, map, append_assoc}
use native.Mathlib.Omega.{arith}
use native.Mathlib.Decide.{dec_lt}
use lib.Dec.{eqb, ltb}
use lib.ListN.{length, get_or, drop, length-append, get_or-eq_default}
use lib.Seq.{get_or-append-add}
use borrow.Author.Tests.{eqb-true, ne_eqb, lt-ltb, le-ltb, ltb-true}
use Rattle.base.specs.Lists.{all, flat, sum, tabulate}
use Rattle.base.proofs.Lists.{and_left, and_right, all_append}
use Rattle.base.proofs.Stores.{sets_start}
use Rattle.meaning.specs.declared.Operand.{Operand}
use Rattle.meaning.specs.declared.Entry.{Entry}
use Rattle.meaning.specs.Sizes.{byte_values, kind_length}
use Rattle.meaning.specs.declared.kinds.Kind.{Kind}
use Rattle.meaning.specs.declared.kinds.Kind.TheVariants.{Unknown as UNKNOWN, Goal as GOAL, Start as START, Wait as WAIT, Seq as SEQ, Par as PAR, Maintain as MAINTAIN, Choice as CHOICE, Repeat as REPEAT}
use Rattle.meaning.specs.declared.kinds.Test.{Test}
use Rattle.meaning.specs.declared.kinds.Test.TheVariants.{Untested as UNTESTED, Equals as EQUALS, Differs as DIFFERS, AtLeast as AT-LEAST, Below as BELOW}
use Rattle.meaning.specs.Kinds.{kind_of, tests, test_of, test_allowed, condition_allowed, goal_allowed, start_allowed, count_allowed, empty_allowed, operand_allowed, arity}
use Rattle.meaning.specs.Tree.{Part, children, size}
use Rattle.meaning.specs.Program.{entry_allowed, arity_of, preorder}
use Rattle.meaning.proofs.Trees.{All, part_ind, entry_of, preorder_law, size_law}
use Rattle.meaning.proofs.Parsing.{arity_entry}
use Rattle.text_parts.specs.Stored.{part_length, clamped, stored_entry, stored, Stands}
use Rattle.text_assemble.specs.Packing.{packed_entry, packed_entries}

abbrev pub clamped_entry : Entry → Entry
clamped_entry e = record { kind = e.kind; operand = record { b0 = clamped e.operand.b0; b1 = clamped e.operand.b1; b2 = e.operand.b2; b3 = e.operand.b3 } }

-- a number is itself or is large
clamped_small : (x : ℕ) → x < byte_values → clamped x ≡ x
unfolding clamped
clamped_small x h = rw (lt-ltb x byte_values h)

clamped_large : (x : ℕ) → byte_values ≤ x → clamped x ≡ 255
unfolding clamped
clamped_large x h = rw (le-ltb x byte_values h)

clamped_cases : (P : ℕ → Type 0) (x : ℕ) → P x → (byte_values ≤ x → P 255) → P (clamped x)
clamped_cases P x p q = go (dec_lt x byte_values)
  where
    go : Dec (x < byte_values) → P (clamped x)
    go (yes h) = subst P (sym (clamped_small x h)) p
    go (no h) = let l : byte_values ≤ x = omega (arith, h) in subst P (sym (clamped_large x l)) (q l)

clamped_zero : (x : ℕ) → eqb (clamped x) 0 ≡ eqb x 0
clamped_zero x = clamped_cases (λ y. eqb y 0 ≡ eqb x 0) x refl (λ h. sym (ne_eqb x 0 (λ e. omega arith)))

clamped_below : (x v : ℕ) → v < byte_values → ltb (clamped x) v ≡ ltb x v
clamped_below x v l = clamped_cases (λ y. ltb y v ≡ ltb x v) x refl (λ h. le-ltb 255 v (omega arith) ∙ sym (le-ltb x v (omega arith)))

clamped_test : (x : ℕ) → test_of (clamped x) ≡ test_of x
unfolding test_of
clamped_test x = clamped_cases (λ y. get_or tests y UNTESTED ≡ get_or tests x UNTESTED) x refl (λ h. sym (get_or-eq_default tests UNTESTED {n = x} (omega arith)))

-- so the operand is allowed exactly where it was
module _ (v k : ℕ) (v-small : v < byte_values) (k-small : k < byte_values) (o : Operand) where
  abbrev c : Operand
  c = record { b0 = clamped o.b0; b1 = clamped o.b1; b2 = o.b2; b3 = o.b3 }

  test_clamped : (t : Test) → test_allowed v k t c ≡ test_allowed v k t o
  unfolding test_allowed
  test_clamped UNTESTED = refl
  test_clamped EQUALS = rw (clamped_below o.b1 v v-small)
  test_clamped DIFFERS = rw (clamped_below o.b1 v v-small)
  test_clamped AT-LEAST = clamped_below o.b1 k k-small
  test_clamped BELOW = clamped_below o.b1 k k-small

  condition_clamped : condition_allowed v k c ≡ condition_allowed v k o
  unfolding condition_allowed
  condition_clamped = ap (λ (t : Test). test_allowed v k t c) (clamped_test o.b0) ∙ test_clamped (test_of o.b0)

  operand_clamped : (t : Kind) → operand_allowed v k t c ≡ operand_allowed v k t o
  unfolding operand_allowed goal_allowed start_allowed count_allowed empty_allowed
  operand_clamped UNKNOWN = refl
  operand_clamped GOAL = rw (clamped_zero o.b0, clamped_below o.b1 v v-small)
  operand_clamped START = rw (clamped_zero o.b0, clamped_below o.b1 k k-small)
  operand_clamped WAIT = condition_clamped
  operand_clamped SEQ = rw (clamped_zero o.b0, clamped_zero o.b1)
  operand_clamped PAR = rw (clamped_zero o.b0, clamped_zero o.b1)
  operand_clamped MAINTAIN = condition_clamped
  operand_clamped CHOICE = condition_clamped
  operand_clamped REPEAT = rw (clamped_zero o.b0, clamped_zero o.b1)

pub all_clamped : (v k : ℕ) → v < byte_values → k < byte_values → (es : List Entry) → all (entry_allowed v k) (map clamped_entry es) ≡ all (entry_allowed v k) es
unfolding entry_allowed
all_clamped v k h g [] = refl
all_clamped v k h g (e ∷ es) = rw (operand_clamped v k h g e.operand (kind_of e.kind), all_clamped v k h g es)

-- the entries that the buffer holds
module _ (u : List ℕ) (p : ℕ) (e : Entry) (xs : List ℕ) (h : length u ≡ part_length * p) where
  byte_at : (i q : ℕ) → q ≡ part_length * p + i → get_or (u ++ (stored_entry e ++ xs)) q 0 ≡ get_or (stored_entry e ++ xs) i 0
  byte_at i q w = rw (w, ← h) (get_or-append-add u (stored_entry e ++ xs) i 0)

  entry_packed : packed_entry (u ++ (stored_entry e ++ xs)) p ≡ clamped_entry e
  entry_packed = λ x. record {
    kind = byte_at 0 (part_length * p) (omega arith) x;
    operand = record {
      b0 = byte_at 1 (part_length * p + kind_length) (omega arith) x;
      b1 = byte_at 2 (part_length * p + kind_length + 1) (omega arith) x;
      b2 = byte_at 3 (part_length * p + kind_length + 2) (omega arith) x;
      b3 = byte_at 4 (part_length * p + kind_length + 3) (omega arith) x;
    };
  }

packed_stored : (u : List ℕ) (p : ℕ) (es : List Entry) (rest : List ℕ) → length u ≡ part_length * p → tabulate (packed_entry (u ++ (stored es ++ rest))) p (length es) ≡ map clamped_entry es
packed_stored u p [] rest h = refl
packed_stored u p (e ∷ es) rest h =
    let inner : stored (e ∷ es) ++ rest ≡ stored_entry e ++ (stored es ++ rest) = append_assoc (stored_entry e) (stored es) rest in
    let regroup : u ++ (stored_entry e ++ (stored es ++ rest)) ≡ (u ++ stored_entry e) ++ (stored es ++ rest) = sym (append_assoc u (stored_entry e) (stored es ++ rest)) in
    let longer : length (u ++ stored_entry e) ≡ part_length * suc p = omega (arith, length-append u (stored_entry e)) in
    ap (λ (l : List ℕ). tabulate (packed_entry (u ++ l)) p (suc (length es))) inner
    ∙ ap₂ (λ (x : Entry) (xs : List Entry). x ∷ xs) (entry_packed u p e (stored es ++ rest) h)
    (ap (λ (l : List ℕ). tabulate (packed_entry l) (suc p) (length es)) regroup ∙ packed_stored (u ++ stored_entry e) (suc p) es rest longer)

length_stored : (es : List Entry) → length (stored es) ≡ part_length * length es
length_stored [] = refl
length_stored (e ∷ es) = omega (arith, length_stored es)

pub packed_are : (z b : List ℕ) (n : ℕ) (es : List Entry) → Stands z 0 b n es → part_length * n ≤ length z → packed_entries b n ≡ map clamped_entry es
unfolding packed_entries
packed_are z b n es s h =
    let k : n ≡ length es = s.parts_are ∙ omega arith in
    let w : b ≡ stored es ++ drop (length (stored es)) z = s.buffer_is ∙ sets_start z (stored es) (omega (arith, length_stored es)) in
    rw (k, w) (packed_stored [] 0 es (drop (length (stored es)) z) refl)

-- an allowed entry with few children has bytes alone
module _ (v k : ℕ) (v-small : v < byte_values) (k-small : k < byte_values) (o : Operand) where
  zero_small : (x : ℕ) → eqb x 0 ≡ true → x < byte_values
  zero_small x h = omega (arith, eqb-true x 0 h)

  test_small : (t : Test) → test_allowed v k t o ≡ true → o.b1 < byte_values
  unfolding test_allowed
  test_small UNTESTED h = absurd (false≢true h)
  test_small EQUALS h = omega (arith, ltb-true o.b1 v (and_left (ltb o.b1 v) _ h))
  test_small DIFFERS h = omega (arith, ltb-true o.b1 v (and_left (ltb o.b1 v) _ h))
  test_small AT-LEAST h = omega (arith, ltb-true o.b1 k h)
  test_small BELOW h = omega (arith, ltb-true o.b1 k h)

  condition_small : condition_allowed v k o ≡ true → (o.b0 < byte_values) × (o.b1 < byte_values)
  unfolding condition_allowed test_allowed test_of
  condition_small h = (go (dec_lt o.b0 byte_values), test_small (test_of o.b0) h)
    where
      go : Dec (o.b0 < byte_values) → o.b0 < byte_values
      go (yes l) = l
      go (no l) =
          let u : get_or tests o.b0 UNTESTED ≡ UNTESTED = get_or-eq_default tests UNTESTED {n = o.b0} (omega (arith, l)) in
          absurd (false≢true (ap (λ (t : Test). test_allowed v k t o) (sym u) ∙ h))

  operand_small : (t : Kind) → operand_allowed v k t o ≡ true → arity t o < byte_values → (o.b0 < byte_values) × (o.b1 < byte_values)
  unfolding operand_allowed goal_allowed start_allowed count_allowed empty_allowed arity
  operand_small UNKNOWN h a = absurd (false≢true h)
  operand_small GOAL h a = (zero_small o.b0 (and_left (eqb o.b0 0) _ h), omega (arith, ltb-true o.b1 v (and_left (ltb o.b1 v) _ (and_right (eqb o.b0 0) _ h))))
  operand_small START h a = (zero_small o.b0 (and_left (eqb o.b0 0) _ h), omega (arith, ltb-true o.b1 k (and_left (ltb o.b1 k) _ (and_right (eqb o.b0 0) _ h))))
  operand_small WAIT h a = condition_small h
  operand_small SEQ h a = (a, zero_small o.b1 (and_left (eqb o.b1 0) _ (and_right (not (eqb o.b0 0)) _ h)))
  operand_small PAR h a = (a, zero_small o.b1 (and_left (eqb o.b1 0) _ (and_right (not (eqb o.b0 0)) _ h)))
  operand_small MAINTAIN h a = condition_small h
  operand_small CHOICE h a = condition_small h
  operand_small REPEAT h a = (zero_small o.b0 (and_left (eqb o.b0 0) _ h), zero_small o.b1 (and_left (eqb o.b1 0) _ (and_right (eqb o.b0 0) _ h)))

pub unclamped : (v k : ℕ) → v < byte_values → k < byte_values → (es : List Entry) → all (entry_allowed v k) es ≡ true → all (λ e. ltb (arity_of e) byte_values) es ≡ true → map clamped_entry es ≡ es
unfolding entry_allowed arity_of
unclamped v k h g [] a c = refl
unclamped v k h g (e ∷ es) a c =
    let s = operand_small v k h g e.operand (kind_of e.kind) (and_left (operand_allowed v k (kind_of e.kind) e.operand) _ a) (ltb-true (arity (kind_of e.kind) e.operand) byte_values (and_left (ltb (arity (kind_of e.kind) e.operand) byte_values) _ c)) in
    rw (clamped_small e.operand.b0 s.0, clamped_small e.operand.b1 s.1, unclamped v k h g es (and_right (operand_allowed v k (kind_of e.kind) e.operand) _ a) (and_right (ltb (arity (kind_of e.kind) e.operand) byte_values) _ c))

-- the counts of children of a part are no more than its parts
abbrev Counts : Part → Type 0
Counts p = (n : ℕ) → size p ≤ n → n < byte_values → all (λ e. ltb (arity_of e) byte_values) (preorder p) ≡ true

children_few : (ps : List Part) → length ps ≤ sum (map size ps)
children_few [] = omega arith
children_few (p ∷ ps) = omega (arith, children_few ps, size_law p)

counts_all : (ps : List Part) → All Counts ps → (n : ℕ) → sum (map size ps) ≤ n → n < byte_values → all (λ e. ltb (arity_of e) byte_values) (flat preorder ps) ≡ true
counts_all [] a n h l = refl
counts_all (p ∷ ps) a n h l =
    all_append (λ e. ltb (arity_of e) byte_values) (preorder p) (flat preorder ps)
    ∙ rw (a.0 n (omega arith) l, counts_all ps a.1 n (omega arith) l)

counts_part : (p : Part) → All Counts (children p) → Counts p
counts_part p a n h l =
    rw (preorder_law p, lt-ltb (arity_of (entry_of p)) byte_values (omega (arith, arity_entry p, children_few (children p), size_law p)), counts_all (children p) a n (omega (arith, size_law p)) l)

pub counts_fit : (p : Part) → size p < byte_values → all (λ e. ltb (arity_of e) byte_values) (preorder p) ≡ true
counts_fit p h = part_ind Counts counts_part p (size p) (omega arith) h
