-- `run_of` meets its contract: it makes the tests in their order, and a record that is allowed is long enough.
use mathlib.Core.Path.{sym, ◌∙◌}
use Rattle.run_allowed.proofs.Running.{allowed_long}
use Rattle.run_allowed.proofs.run_of.Goals as goal

pub invariant_of-result : goal.invariant_of-result
invariant_of-result c = record { long = allowed_long c.in_ok-table.table.bytes.now c.args.r.now (sym c.record_allowed.ensures ∙ c.if-not-record_allowed.false) }
