-- What a worked cycle shows: a run, moment by moment.
use Rattle.std.specs.Prelude.{ℕ, ◌≡◌, List}
use Rattle.meaning.specs.declared.Operand.{Operand}
use Rattle.meaning.specs.Program.{variables}
use Rattle.meaning.specs.Record.{phase_of, last_time, estimate_in, started_in, starts_in, marks_in}
use Rattle.meaning.specs.Cycle.{offered_into, settled_into}

-- the marks of the parts, the phase, the last time, the estimate, the clocks' flags and their starts
abbrev pub Moment : Type 0
Moment = List ℕ × ℕ × ℕ × List ℕ × List ℕ × List ℕ

-- what a record says of these
abbrev pub Says : List ℕ → List ℕ → List ℕ → ℕ → ℕ → List ℕ → List ℕ → List ℕ → Type 0
Says t r marks phase time estimate started starts =
    let said : Moment = (marks_in t r, phase_of r, last_time r, estimate_in t r, started_in t r, starts_in t r) in
    said ≡ (marks, phase, time, estimate, started, starts)

-- the record after a cycle: an offer at a time, and a settling with an estimate
abbrev pub cycle : List ℕ → List ℕ → ℕ → List ℕ → List ℕ
cycle t r time est = settled_into t (offered_into t r time (variables t)) est

-- an operand whose value is below 256
abbrev pub operand : ℕ → ℕ → ℕ → Operand
operand b0 b1 b2 = record { b0 = b0; b1 = b1; b2 = b2; b3 = 0 }
