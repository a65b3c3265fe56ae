-- Marks stay bytes of 0 or 1.
use Prim.Native.Nat.{ℕ, zero, suc, ◌+◌, ◌-◌, ◌≤◌, ◌<◌}
use native.Mathlib.Omega.{arith}
use mathlib.Core.Path.{◌≡◌}
use mathlib.Core.Bool.{Bool, true, false, cond}
use mathlib.Core.Logic.{◌⊎◌, inl, inr}
use mathlib.Core.List.{List, [], ◌∷◌}
use lib.Dec.{eqb}
use lib.ListN.{length, get_or, take, get_or-eq_default}
use lib.Seq.{sets, length-sets}
use Rattle.base.specs.Lists.{any, flag}
use Rattle.base.proofs.Stores.{get_or-sets_in, get_or-sets_out}
use Rattle.meaning.specs.declared.Transition.{Transition}
use Rattle.meaning.specs.declared.Transition.TheVariants.{Stays, Ends, First, Second}
use Rattle.meaning.specs.Sizes.{no_part}
use Rattle.meaning.specs.Table.{kind_at, operand_of, end_at, next_at, inside_of}
use Rattle.meaning.specs.Conditions.{Situation}
use Rattle.meaning.specs.Record.{is_mark}
use Rattle.meaning.specs.Cycle.{begins, breaks, initial_marks_from, initial_marks, checked_from, transition, applied, settled_from}
use Rattle.meaning.proofs.Nesting.{lower}
use Rattle.sentences.specs.Marks.{Flags}

flags_more : (x : ℕ) (l : List ℕ) → x ≤ 1 → Flags l → Flags (x ∷ l)
flags_more x l h f zero = h
flags_more x l h f (suc p) = f p

flags_stored : (l xs : List ℕ) (i : ℕ) → Flags l → Flags xs → Flags (sets l i xs)
flags_stored l xs i f g p = go (lower p i) (lower p (i + length xs)) (lower p (length l))
  where
    go : (p < i) ⊎ (i ≤ p) → (p < i + length xs) ⊎ (i + length xs ≤ p) → (p < length l) ⊎ (length l ≤ p) → get_or (sets l i xs) p 0 ≤ 1
    go (inl a) b c = rw (get_or-sets_out xs l i p (inl a)) (f p)
    go (inr a) (inr b) c = rw (get_or-sets_out xs l i p (inr b)) (f p)
    go (inr a) (inl b) (inl c) =
        let k : i + (p - i) ≡ p = omega arith in
        let e : get_or (sets l i xs) p 0 ≡ get_or xs (p - i) 0 = rw k at (get_or-sets_in l i (p - i) xs (omega arith) (omega arith)) in
        rw e (g (p - i))
    go (inr a) (inl b) (inr c) =
        let d : length (sets l i xs) ≤ p = rw (length-sets l i xs) c in
        rw (get_or-eq_default (sets l i xs) 0 d) (omega arith)

flag_small : (b : Bool) → flag b ≤ 1
flag_small true = omega arith
flag_small false = omega arith

flags_begun : (t : List ℕ) (n p skip : ℕ) → Flags (initial_marks_from t p n skip)
unfolding initial_marks_from
flags_begun t zero p skip i = omega arith
flags_begun t (suc n) p zero zero = flag_small (begins t p)
flags_begun t (suc n) p zero (suc i) = flags_begun t n (suc p) (cond (begins t p) 0 (inside_of t p)) i
flags_begun t (suc n) p (suc skip) zero = omega arith
flags_begun t (suc n) p (suc skip) (suc i) = flags_begun t n (suc p) skip i

-- the marks of a part that is initialised
pub flags_initial : (t : List ℕ) (q : ℕ) → Flags (initial_marks t q)
unfolding initial_marks
flags_initial t q = flags_more 1 (initial_marks_from t (suc q) (inside_of t q) 0) (omega arith) (flags_begun t (inside_of t q) (suc q) 0)

-- the marks after an offer
pub flags_checked : (t : List ℕ) (sit : Situation) (ms : List ℕ) (p skip : ℕ) → Flags ms → Flags (checked_from t sit p ms skip)
unfolding checked_from
flags_checked t sit [] p skip f i = omega arith
flags_checked t sit (m ∷ ms) p zero f zero = f 0
flags_checked t sit (m ∷ ms) p zero f (suc i) = flags_checked t sit ms (suc p) (cond (breaks t sit p m) (inside_of t p) 0) (λ j. f (suc j)) i
flags_checked t sit (m ∷ ms) p (suc skip) f zero = omega arith
flags_checked t sit (m ∷ ms) p (suc skip) f (suc i) = flags_checked t sit ms (suc p) skip (λ j. f (suc j)) i

module _ (t : List ℕ) (p : ℕ) (rest : List ℕ) (f : Flags rest) where
  flags_ended : (b : Bool) → Flags (cond b (0 ∷ rest) (sets (0 ∷ rest) (next_at t p - p) (initial_marks t (next_at t p))))
  flags_ended true = flags_more 0 rest (omega arith) f
  flags_ended false = flags_stored (0 ∷ rest) (initial_marks t (next_at t p)) (next_at t p - p) (flags_more 0 rest (omega arith) f) (flags_initial t (next_at t p))

  flags_applied : (x : Transition) → Flags (applied t p x rest)
  unfolding applied
  flags_applied Stays = flags_more 1 rest (omega arith) f
  flags_applied Ends = flags_ended (eqb (next_at t p) no_part)
  flags_applied First = flags_stored (1 ∷ rest) (initial_marks t (suc p)) (suc p - p) (flags_more 1 rest (omega arith) f) (flags_initial t (suc p))
  flags_applied Second = flags_stored (1 ∷ rest) (initial_marks t (end_at t (suc p))) (end_at t (suc p) - p) (flags_more 1 rest (omega arith) f) (flags_initial t (end_at t (suc p)))

  flags_part : (b : Bool) (x : Transition) → Flags (cond b (applied t p x rest) (0 ∷ rest))
  flags_part true x = flags_applied x
  flags_part false x = flags_more 0 rest (omega arith) f

-- the marks after a settling
pub flags_settled : (t : List ℕ) (sit : Situation) (ms : List ℕ) (p : ℕ) → Flags (settled_from t sit p ms)
unfolding settled_from
flags_settled t sit [] p = λ i. omega arith
flags_settled t sit (m ∷ ms) p =
    flags_part t p (settled_from t sit (suc p) ms) (flags_settled t sit ms (suc p)) (is_mark m)
    (transition sit (kind_at t p) (operand_of t p) (any is_mark (take (inside_of t p) ms)) (any is_mark (take (inside_of t p) (settled_from t sit (suc p) ms))))
