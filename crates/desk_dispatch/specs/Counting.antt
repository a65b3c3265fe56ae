-- The count of cycles that a rehearsal keeps.
use Rattle.std.specs.Prelude.{ℕ, ◌+◌, ◌-◌, ◌^◌, cond, List, eqb, ltb, length}
use Rattle.meaning.specs.Cycle.{begin_refusal, settle_refusal}

-- the largest count: it does not grow any more
abbrev pub max_count : ℕ
max_count = 2 ^ 64 - 1

unfoldable pub more : ℕ → ℕ
more n = cond (ltb n max_count) (n + 1) n

-- an accepted beginning sets the count to 0, and each settling that is not refused adds 1
unfoldable pub begun_cycles : List ℕ → List ℕ → List ℕ → ℕ → ℕ
begun_cycles t est r n = cond (eqb (begin_refusal t est (length r)) 0) 0 n

unfoldable pub settled_cycles : List ℕ → List ℕ → List ℕ → ℕ → ℕ
settled_cycles t r est n = cond (eqb (settle_refusal t r est) 0) (more n) n
