-- Initialising, one part at a time: the mark that a step gives a part, and how many parts after it are then skipped.
use Rattle.std.specs.Prelude.{ℕ, zero, suc, ◌+◌, ◌≡◌, cond, List, set}
use Rattle.base.specs.Lists.{flag}
use Rattle.meaning.specs.Table.{inside_of}
use Rattle.meaning.specs.Cycle.{begins}

-- the mark of part p, where `skip` parts from it on are skipped
unfoldable pub step_mark : List ℕ → ℕ → ℕ → ℕ
step_mark t p zero = flag (begins t p)
step_mark t p (suc skip) = 0

-- how many are skipped after it
unfoldable pub step_skip : List ℕ → ℕ → ℕ → ℕ
step_skip t p zero = cond (begins t p) 0 (inside_of t p)
step_skip t p (suc skip) = skip

-- The step of part p, from the marks l to the marks l', of which those of part 0 stand at place `from`
pub record InitialiseStep (t l : List ℕ) (from p skip : ℕ) (l' : List ℕ) (skip' : ℕ) : Type 0 where
  pub skip_is : skip' ≡ step_skip t p skip
  pub marks_are : l' ≡ set l (from + p) (step_mark t p skip)
