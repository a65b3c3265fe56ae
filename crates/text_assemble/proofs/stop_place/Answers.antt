-- `stop_place` meets its contract: one law for each answer.
use native.Mathlib.Omega.{arith}
use Rattle.text_stops.proofs.Stops.{stop_too_long}
use Rattle.text_assemble.proofs.Operation.{stop_nowhere, stop_there}
use Rattle.text_assemble.proofs.stop_place.Goals as goal

pub returns-then-text-gt-MAX_TEXT : goal.returns-then-text-gt-MAX_TEXT
returns-then-text-gt-MAX_TEXT c = search stop_too_long

pub returns-in-Ok : goal.returns-in-Ok
returns-in-Ok c = stop_nowhere _ (omega arith) _ _ c.in-Ok.field-0 c.in-Ok.ensures

pub returns-in-Err : goal.returns-in-Err
returns-in-Err c = stop_there _ (omega arith) _ _ c.in-Err.stop _ c.in-Err.ensures (rw c.from.ensures at c.skip_blanks.ensures)
