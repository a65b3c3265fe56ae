-- The numbers of refusals, and of the answers that are none.
use Prim.Native.Nat.{ℕ, ◌+◌, ◌-◌, ◌<◌, ◌≤◌}
use mathlib.Core.Path.{◌≡◌, refl, sym, ap, ◌∙◌}
use mathlib.Core.Bool.{Bool, true, false}
use mathlib.Core.List.{List, [], ◌∷◌, ◌++◌}
use native.Mathlib.Omega.{arith}
use lib.Dec.{eqb, leb}
use lib.ListN.{get_or}
use borrow.Author.Tests.{ltb-true, leb-false, eqb-true, eqb-false, ne_eqb}
use Rattle.std.specs.Prelude.{Option, None, Some, Result, Ok, Err}
use Rattle.base.specs.Lists.{all, first_failing}
use Rattle.base.proofs.Lists.{fails_append}
use Rattle.meaning.specs.declared.Refusal.{Refusal}
use Rattle.meaning.specs.declared.Refusal.TheVariants.{FileTooShort, SizeOutOfRange, WrongLength, UnknownKind, OperandNotAllowed, NotOneTree, TooDeep, BufferTooShort, NotATable, RecordNotAllowed, WrongPhase, TimeBeforeLast, EstimateNotAllowed, RunFinished, NothingAtWork, NotAText}
use Rattle.meaning.specs.declared.Progress.{Progress}
use Rattle.meaning.specs.declared.Progress.TheVariants.{Running, Finished}
use Rattle.meaning.specs.Sizes.{max_variables}
use Rattle.meaning.specs.Answers.{refusal_number, answer_number, answered, answering, offer_number, one_case, settle_number}

-- a refusal's number is not 0, and is below those of the other answers
pub refusal_counts : (r : Refusal) → (0 < refusal_number r) × (refusal_number r < answered)
refusal_counts FileTooShort = omega arith
refusal_counts SizeOutOfRange = omega arith
refusal_counts WrongLength = omega arith
refusal_counts UnknownKind = omega arith
refusal_counts OperandNotAllowed = omega arith
refusal_counts NotOneTree = omega arith
refusal_counts TooDeep = omega arith
refusal_counts BufferTooShort = omega arith
refusal_counts NotATable = omega arith
refusal_counts RecordNotAllowed = omega arith
refusal_counts WrongPhase = omega arith
refusal_counts TimeBeforeLast = omega arith
refusal_counts EstimateNotAllowed = omega arith
refusal_counts RunFinished = omega arith
refusal_counts NothingAtWork = omega arith
refusal_counts NotAText = omega arith

pub refusal_positive : (r : Refusal) → refusal_number r ≡ 0 → ⊥
refusal_positive r h = omega (arith, refusal_counts r)

-- the refusals in the order of their numbers, of which the first is 1
abbrev refusals : List Refusal
refusals =
    FileTooShort
    ∷ SizeOutOfRange
    ∷ WrongLength
    ∷ UnknownKind
    ∷ OperandNotAllowed
    ∷ NotOneTree
    ∷ TooDeep
    ∷ BufferTooShort
    ∷ NotATable
    ∷ RecordNotAllowed
    ∷ WrongPhase
    ∷ TimeBeforeLast
    ∷ EstimateNotAllowed
    ∷ RunFinished
    ∷ NothingAtWork
    ∷ NotAText
    ∷ []

abbrev refusal_of : ℕ → Refusal
refusal_of n = get_or refusals (n - 1) NotAText

refusal_back : (r : Refusal) → refusal_of (refusal_number r) ≡ r
refusal_back FileTooShort = refl
refusal_back SizeOutOfRange = refl
refusal_back WrongLength = refl
refusal_back UnknownKind = refl
refusal_back OperandNotAllowed = refl
refusal_back NotOneTree = refl
refusal_back TooDeep = refl
refusal_back BufferTooShort = refl
refusal_back NotATable = refl
refusal_back RecordNotAllowed = refl
refusal_back WrongPhase = refl
refusal_back TimeBeforeLast = refl
refusal_back EstimateNotAllowed = refl
refusal_back RunFinished = refl
refusal_back NothingAtWork = refl
refusal_back NotAText = refl

-- No number is that of two answers: not of two refusals, nor of two answers of an operation
pub refusal_number_one : (r s : Refusal) → refusal_number r ≡ refusal_number s → r ≡ s
refusal_number_one r s e = sym (refusal_back r) ∙ ap refusal_of e ∙ refusal_back s

pub answer_number_one : (a b : Result (Unit {0}) Refusal) → answer_number a ≡ answer_number b → a ≡ b
answer_number_one (Ok u) (Ok w) e = refl
answer_number_one (Ok u) (Err s) e = absurd (refusal_positive s (sym e))
answer_number_one (Err r) (Ok w) e = absurd (refusal_positive r e)
answer_number_one (Err r) (Err s) e = ap Err (refusal_number_one r s e)

pub offer_number_one : (a b : Result (Option ℕ) Refusal) → one_case a ≡ true → one_case b ≡ true → offer_number a ≡ offer_number b → a ≡ b
offer_number_one (Err r) (Err s) x y e = ap Err (refusal_number_one r s e)
offer_number_one (Err r) (Ok None) x y e = absurd (omega (arith, refusal_counts r))
offer_number_one (Err r) (Ok (Some w)) x y e = absurd (omega (arith, refusal_counts r))
offer_number_one (Ok None) (Err s) x y e = absurd (omega (arith, refusal_counts s))
offer_number_one (Ok None) (Ok None) x y e = refl
offer_number_one (Ok None) (Ok (Some w)) x y e = absurd (omega (arith, ltb-true w max_variables y))
offer_number_one (Ok (Some v)) (Err s) x y e = absurd (omega (arith, refusal_counts s))
offer_number_one (Ok (Some v)) (Ok None) x y e = absurd (omega (arith, ltb-true v max_variables x))
offer_number_one (Ok (Some v)) (Ok (Some w)) x y e = let same : v ≡ w = omega arith in ap (λ n. Ok (Some n)) same

pub settle_number_one : (a b : Result Progress Refusal) → settle_number a ≡ settle_number b → a ≡ b
settle_number_one (Err r) (Err s) e = ap Err (refusal_number_one r s e)
settle_number_one (Err r) (Ok Running) e = absurd (omega (arith, refusal_counts r))
settle_number_one (Err r) (Ok Finished) e = absurd (omega (arith, refusal_counts r))
settle_number_one (Ok Running) (Err s) e = absurd (omega (arith, refusal_counts s))
settle_number_one (Ok Running) (Ok Running) e = refl
settle_number_one (Ok Running) (Ok Finished) e = absurd (omega arith)
settle_number_one (Ok Finished) (Err s) e = absurd (omega (arith, refusal_counts s))
settle_number_one (Ok Finished) (Ok Running) e = absurd (omega arith)
settle_number_one (Ok Finished) (Ok Finished) e = refl

-- what an answer says of the refusal that it names
pub not_refused : (a : Result (Unit {0}) Refusal) (n : ℕ) → answer_number a ≡ n → a ≡ Ok tt → n ≡ 0
not_refused a n e d = sym e ∙ ap answer_number d

pub is_refused : (a : Result (Unit {0}) Refusal) (r : Refusal) (n : ℕ) → answer_number a ≡ n → a ≡ Err r → n ≡ 0 → ⊥
is_refused a r n e d z = refusal_positive r (ap answer_number (sym d) ∙ e ∙ z)

-- The number of an answer that gives something: refused, it is the refusal's; else 256 and what is given
module _ (n given answer : ℕ) (a : answer ≡ answering n given) where
  pub told_refusal : (n ≡ 0 → ⊥) → answer ≡ n
  told_refusal h = a ∙ rw (ne_eqb n 0 h)

  pub told_given : n ≡ 0 → answer ≡ answered + given
  told_given z = a ∙ rw z

  -- an answer of 256 or more is no refusal
  pub told_accepted : leb answered n ≡ false → answered ≤ answer → n ≡ 0
  told_accepted l h = go (eqb n 0) refl
    where
      go : (b : Bool) → eqb n 0 ≡ b → n ≡ 0
      go true e = eqb-true n 0 e
      go false e = absurd (omega (arith, told_refusal (eqb-false n 0 e), leb-false answered n l))

-- An answer decided by the first of two lists of tests: a refusal stays, and otherwise the second list decides
module _ (xs ys : List (ℕ × Bool)) (numbered : all (λ t. leb 1 t.0) xs ≡ true) (a : Result (Unit {0}) Refusal) (a-is : answer_number a ≡ first_failing xs) where
  pub refused_before : (why : Refusal) → a ≡ Err why → answer_number a ≡ first_failing (xs ++ ys)
  refused_before why told = a-is ∙ sym (fails_append xs ys numbered ∙ rw (ne_eqb (first_failing xs) 0 (is_refused a why (first_failing xs) a-is told)))

  pub left_open : a ≡ Ok tt → first_failing (xs ++ ys) ≡ first_failing ys
  left_open told = fails_append xs ys numbered ∙ rw (not_refused a (first_failing xs) a-is told)
