-- What the code knows of a settling before it writes to the record.
use Rattle.std.specs.Prelude.{ℕ, ◌≡◌, Bool, not, List, [], ◌∷◌, ◌++◌, eqb}
use Rattle.base.specs.Lists.{first_failing, bytes_at}
use Rattle.meaning.specs.Program.{parts, variables}
use Rattle.meaning.specs.Record.{phase_of, waiting}
use Rattle.meaning.specs.Cycle.{estimate_allowed, settled_marks, settle_refusal}
use Rattle.meaning.specs.Answers.{wrong_phase, estimate_not_allowed}
use Rattle.run_allowed.specs.Running.{run_tests}

-- the tests that need no marks: those of every run, then 11 and 13
abbrev pub later_tests : List ℕ → List ℕ → List ℕ → List (ℕ × Bool)
later_tests t r est = (wrong_phase, not (eqb (phase_of r) waiting)) ∷ (estimate_not_allowed, estimate_allowed (variables t) est) ∷ []

abbrev pub early_tests : List ℕ → List ℕ → List ℕ → List (ℕ × Bool)
early_tests t r est = run_tests t r ++ later_tests t r est

unfoldable pub early_refusal : List ℕ → List ℕ → List ℕ → ℕ
early_refusal t r est = first_failing (early_tests t r est)

-- the refusal's number, or 0 and then the marks after the settling in m
pub record Judged (t r est : List ℕ) (answer : ℕ) (m : List ℕ) : Type 0 where
  pub answer_is : answer ≡ settle_refusal t r est
  pub marks_are : settle_refusal t r est ≡ 0 → bytes_at m 0 (parts t) ≡ settled_marks t r est
