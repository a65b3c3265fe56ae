-- Laws of the lowest marked part: where it lies, how it goes on, and that one comparison tells whether something is marked inside a part.
use Prim.Native.Nat.{ℕ, zero, suc, ◌+◌, ◌-◌, ◌≤◌, ◌<◌}
use native.Mathlib.Omega.{arith}
use mathlib.Core.Path.{◌≡◌, refl, sym}
use mathlib.Core.Bool.{Bool, true, false, cond, ◌||◌}
use mathlib.Core.List.{List, [], ◌∷◌}
use lib.Dec.{leb, ltb}
use lib.ListN.{length, take}
use borrow.Author.Tests.{leb-true, leb-false, lt-ltb, le-ltb}
use Rattle.base.specs.Lists.{any}
use Rattle.meaning.specs.Record.{is_mark}
use Rattle.meaning.specs.Table.{end_at, inside_of}
use Rattle.run_marks.specs.Lowest.{lowest}

-- a mark before the others
pub lowest_next : (p m : ℕ) (ms : List ℕ) → lowest p (m ∷ ms) ≡ cond (is_mark m) p (lowest (suc p) ms)
unfolding lowest
lowest_next p m ms = refl

-- it is none of the parts before those
pub lowest_from : (p : ℕ) (ms : List ℕ) → p ≤ lowest p ms
unfolding lowest
lowest_from p [] = omega arith
lowest_from p (m ∷ ms) = go (is_mark m) (lowest_from (suc p) ms)
  where
    go : (b : Bool) → suc p ≤ lowest (suc p) ms → p ≤ cond b p (lowest (suc p) ms)
    go true h = omega arith
    go false h = omega arith

-- something is marked among the first n where the lowest marked part is one of those
marked_among : (q n : ℕ) (ms : List ℕ) → n ≤ length ms → any is_mark (take n ms) ≡ ltb (lowest q ms) (q + n)
unfolding lowest
marked_among q zero ms h = sym (le-ltb (lowest q ms) (q + 0) (omega (arith, lowest_from q ms)))
marked_among q (suc n) [] h = absurd (omega arith)
marked_among q (suc n) (m ∷ ms) h = go (is_mark m) (marked_among (suc q) n ms (omega arith))
  where
    go : (b : Bool) → any is_mark (take n ms) ≡ ltb (lowest (suc q) ms) (suc q + n) → (b || any is_mark (take n ms)) ≡ ltb (cond b q (lowest (suc q) ms)) (q + suc n)
    go true e = sym (lt-ltb q (q + suc n) (omega arith))
    go false e = let k : q + suc n ≡ suc q + n = omega arith in rw k e

-- something is marked inside part p where the lowest marked part after p stands before p's end; the marks must go on to p's end
pub marked_inside : (t : List ℕ) (p : ℕ) (ms : List ℕ) → end_at t p ≤ suc p + length ms → any is_mark (take (inside_of t p) ms) ≡ ltb (lowest (suc p) ms) (end_at t p)
marked_inside t p ms h = go (end_at t p) (leb (suc p) (end_at t p)) refl h
  where
    go : (e : ℕ) (b : Bool) → leb (suc p) e ≡ b → e ≤ suc p + length ms → any is_mark (take (e - suc p) ms) ≡ ltb (lowest (suc p) ms) e
    go e true b k =
        let l : suc p ≤ e = leb-true (suc p) e b in
        let s : suc p + (e - suc p) ≡ e = omega arith in
        rw s at (marked_among (suc p) (e - suc p) ms (omega arith))
    go e false b k =
        let l : e < suc p = leb-false (suc p) e b in
        let n : e - suc p ≡ 0 = omega arith in
        rw n (sym (le-ltb (lowest (suc p) ms) e (omega (arith, lowest_from (suc p) ms))))
