-- Whether a record is allowed: one law for each place where the code gives its answer.
use Prim.Native.Nat.{ℕ, ◌<◌, ◌≤◌}
use mathlib.Core.Path.{◌≡◌, refl, sym}
use mathlib.Core.Bool.{Bool, true, false, ◌&&◌, true≢false}
use mathlib.Core.List.{List}
use lib.ListN.{length}
use borrow.Author.Tests.{leb-true, le-leb, lt-leb}
use Rattle.base.proofs.Lists.{and_left}
use Rattle.meaning.specs.Record.{record_length, phase_of, marks_in, rest_zero, values_allowed, clocks_allowed, root_allowed, parts_allowed, record_allowed}

pub record_too_short : (t r : List ℕ) → length r < record_length → false ≡ record_allowed t r
unfolding record_allowed
record_too_short t r h = rw (lt-leb record_length (length r) h)

pub allowed_long : (t r : List ℕ) → record_allowed t r ≡ true → record_length ≤ length r
unfolding record_allowed
allowed_long t r h = leb-true record_length (length r) (and_left _ _ h)

-- Of the clauses of an allowed record the first three are decided before the last two are asked for
module _ (t r : List ℕ) (a b c : Bool) (long : record_length ≤ length r) (a-is : a ≡ rest_zero t r) (b-is : b ≡ values_allowed t r) (c-is : c ≡ clocks_allowed t r) where
  pub fields_refused : (a && (b && c)) ≡ false → false ≡ record_allowed t r
  unfolding record_allowed
  fields_refused h = rw (le-leb record_length (length r) long, ← a-is, ← b-is, ← c-is) (go a b c (root_allowed (phase_of r) (marks_in t r) && parts_allowed t (phase_of r) 0 (marks_in t r)) h)
    where
      go : (a b c : Bool) (x : Bool) → (a && (b && c)) ≡ false → false ≡ (a && (b && (c && x)))
      go false b c x f = refl
      go true false c x f = refl
      go true true false x f = refl
      go true true true x f = absurd (true≢false f)

  pub fields_pass : (a && (b && c)) ≡ true → (d e : Bool) → d ≡ root_allowed (phase_of r) (marks_in t r) → e ≡ parts_allowed t (phase_of r) 0 (marks_in t r) → (d && e) ≡ record_allowed t r
  unfolding record_allowed
  fields_pass h d e d-is e-is = rw (le-leb record_length (length r) long, ← a-is, ← b-is, ← c-is, ← d-is, ← e-is) (go a b c (d && e) h)
    where
      go : (a b c : Bool) (x : Bool) → (a && (b && c)) ≡ true → x ≡ (a && (b && (c && x)))
      go true true true x f = refl
      go false b c x f = absurd (true≢false (sym f))
      go true false c x f = absurd (true≢false (sym f))
      go true true false x f = absurd (true≢false (sym f))
