-- The check of the marked MAINTAINs part by part, as the code makes it.
use Rattle.std.specs.Prelude.{ℕ, zero, suc, ◌+◌, ◌-◌, cond, List, set}
use Rattle.std.proofs.lemmas.List.Edits.{sets}
use Rattle.base.specs.Lists.{bytes_at}
use Rattle.meaning.specs.Program.{parts}
use Rattle.meaning.specs.Table.{inside_of}
use Rattle.meaning.specs.Conditions.{Situation}
use Rattle.meaning.specs.Record.{marks_place, estimate_in}
use Rattle.meaning.specs.Cycle.{breaks, checked_from, situation}

-- what an offer judges by: the record's own estimate and clocks, and the offer's time
unfoldable pub judging : List ℕ → List ℕ → ℕ → Situation
judging t r time = situation t r (estimate_in t r) time

-- the record once part p is checked, with `skip` marks still to be dropped
unfoldable pub checked_part : List ℕ → ℕ → ℕ → List ℕ
checked_part r p zero = r
checked_part r p (suc skip) = set r (marks_place + p) 0

-- how many of the marks after part p's are to be dropped; p is marked m
unfoldable pub skip_after : List ℕ → Situation → ℕ → ℕ → ℕ → ℕ
skip_after t sit p m zero = cond (breaks t sit p m) (inside_of t p) 0
skip_after t sit p m (suc skip) = skip

-- the record once the parts from p on are checked as well
unfoldable pub checked_rest : List ℕ → ℕ → List ℕ → ℕ → ℕ → List ℕ
checked_rest t time r p skip = sets r (marks_place + p) (checked_from t (judging t r time) p (bytes_at r (marks_place + p) (parts t - p)) skip)
