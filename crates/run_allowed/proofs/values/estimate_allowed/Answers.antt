-- `estimate_allowed` meets its contract: an estimate of another length is not allowed, and one of the right length is all of the bytes that are looked at.
use Rattle.meaning.specs.Record.{estimate_byte_allowed}
use Rattle.run_allowed.proofs.Places.{estimate_made}
use Rattle.run_allowed.proofs.values.estimate_allowed.Goals as goal

pub returns : goal.returns
returns c = estimate_made c.args.t.now c.args.est.now _ _ c.variables.ensures c.from.ensures _ c.if-est-from.false (c.all_bytes.ensures estimate_byte_allowed (λ b x h. h))
