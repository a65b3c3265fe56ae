-- `advance` meets its contract: the check looks at nothing that the new phase and time have changed.
use mathlib.Core.Path.{refl}
use Rattle.run_offer.proofs.Offering.{record_advanced}
use Rattle.run_offer.proofs.advance.Goals as goal

pub returns : goal.returns
returns c = record_advanced c.args.t.bytes.now c.args.r.now _ _ _ c.args.time c.args.t.checked refl c.put_time.ensures c.check_marks.ensures
