-- `valued` meets its contract.
use borrow.Author.Rules.{rules}
use Rattle.text_read.proofs.Plain.{value_missing, value_stops, value_read, value_moves}
use Rattle.text_read.proofs.leaves.valued.Goals as goal

pub returns-in_err-value-clause-does : goal.returns-in_err-value-clause-does
returns-in_err-value-clause-does c = value_missing _ _ _ _ _ _ _ _ c.number_from.ensures _ c.in_err-value.was _ c.from_residual.ensures.1

pub returns-in_err-value-clause-moves : goal.returns-in_err-value-clause-moves
returns-in_err-value-clause-moves c = value_stops _ c.args.parts.now _ _ c.args.kind c.args.test c.args.subject _ c.number_from.ensures _ c.in_err-value.was _ c.from_residual.ensures.1 c.requires

pub returns-clause-does : goal.returns-clause-does
returns-clause-does c =
    value_read _ _ _ _ _ _ _ _ c.number_from.ensures _ c.in_ok-value.was _ c.after.ensures c.into-2.result c.clamped.result _ (search rules) c.clamped.ensures (rw c.into.ensures at c.put_part.ensures)

pub returns-clause-moves : goal.returns-clause-moves
returns-clause-moves c = value_moves _ c.args.parts.now _ _ c.args.kind c.args.test c.args.subject _ c.number_from.ensures _ c.in_ok-value.was _ c.after.ensures c.requires
