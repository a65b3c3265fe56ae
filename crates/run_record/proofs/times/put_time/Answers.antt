-- `put_time` meets its contract: its four bytes are stored together.
use mathlib.Core.Path.{◌∙◌}
use Rattle.run_record.proofs.TimeBytes.{time_bytes, time_stored}
use Rattle.run_record.proofs.times.put_time.Goals as goal

pub returns : goal.returns
returns c = time_stored _ _ _ _ c.requires (c.copy_from_slice.ensures.after ∙ c.to_le_bytes.ensures ∙ time_bytes c.args.x)
