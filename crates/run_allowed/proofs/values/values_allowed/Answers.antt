-- `values_allowed` meets its contract: it is the definition, at the sizes and the phase that were read.
use Rattle.std.proofs.Common.{rules, tests}
use Rattle.meaning.specs.Record.{estimate_byte_allowed}
use Rattle.run_allowed.proofs.Places.{marks_long, values_made}
use Rattle.run_allowed.proofs.values.values_allowed.Goals as goal

pub slice_bounds-marks-end : goal.slice_bounds-marks-end
slice_bounds-marks-end c = search (marks_long c.args.t.bytes.now c.args.r.bytes.now _ _ c.args.t.checked c.args.r.long c.parts.ensures c.from-2.ensures)

pub returns : goal.returns
returns c = values_made c.args.t.bytes.now c.args.r.bytes.now _ _ _ _ _ _ c.variables.ensures c.from-3.ensures c.clocks.ensures c.from.ensures c.parts.ensures c.from-2.ensures c.args.t.checked c.args.r.long _ _ _ _ c.phase.ensures (c.all_bytes.ensures _ (λ b x h. search (rules, tests))) (c.all_bytes-2.ensures _ (λ b x h. search (rules, tests))) (c.all_bytes-3.ensures estimate_byte_allowed (λ b x h. h))
