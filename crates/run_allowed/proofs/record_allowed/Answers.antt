-- `record_allowed` meets its contract: each clause of an allowed record has its function.
use mathlib.Core.Path.{ap, ◌∙◌}
use Rattle.meaning.specs.Record.{record_allowed}
use Rattle.run_allowed.proofs.Running.{record_too_short, fields_refused, fields_pass}
use Rattle.run_allowed.proofs.record_allowed.Goals as goal

pub returns-in_default : goal.returns-in_default
returns-in_default c = record_too_short c.args.t.bytes.now c.args.r.now c.in_default.ensures.short

pub returns-then-not-fields : goal.returns-then-not-fields
returns-then-not-fields c =
    fields_refused c.args.t.bytes.now c.in-Some.record.bytes.now _ _ _ c.in-Some.record.long c.rest_zero.ensures c.values_allowed.ensures c.clocks_allowed.ensures c.if-not-fields.true
    ∙ ap (λ r. record_allowed c.args.t.bytes.now r.now) c.in-Some.ensures.found

pub returns : goal.returns
returns c =
    fields_pass c.args.t.bytes.now c.in-Some.record.bytes.now _ _ _ c.in-Some.record.long c.rest_zero.ensures c.values_allowed.ensures c.clocks_allowed.ensures c.if-not-fields.false _ _ c.root_allowed.ensures c.parts_allowed.ensures
    ∙ ap (λ r. record_allowed c.args.t.bytes.now r.now) c.in-Some.ensures.found
