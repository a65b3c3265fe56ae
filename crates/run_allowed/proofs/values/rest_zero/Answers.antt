-- `rest_zero` meets its contract: what is left of each field's room is what stands between the bytes in use and the next field.
use Rattle.run_allowed.proofs.Places.{rest_made}
use Rattle.run_allowed.proofs.values.rest_zero.Goals as goal

pub returns : goal.returns
returns c = rest_made c.args.t.now c.args.r.bytes.now _ _ _ _ _ _ c.variables.ensures c.from-v.ensures c.clocks.ensures c.from-k.ensures c.parts.ensures c.from-n.ensures _ _ _ _ c.all_zero.ensures c.all_zero-2.ensures c.all_zero-3.ensures c.all_zero-4.ensures
