-- The tests that an offer and a settling begin with.
use Rattle.std.specs.Prelude.{ℕ, Bool, not, List, [], ◌∷◌, eqb}
use Rattle.meaning.specs.Table.{is_table}
use Rattle.meaning.specs.Record.{phase_of, finished, record_allowed}
use Rattle.meaning.specs.Answers.{not_a_table, record_not_allowed, run_finished}

-- a table, a record that a run of it may have, and a run that is not over
abbrev pub run_tests : List ℕ → List ℕ → List (ℕ × Bool)
run_tests t r = (not_a_table, is_table t) ∷ (record_not_allowed, record_allowed t r) ∷ (run_finished, not (eqb (phase_of r) finished)) ∷ []
