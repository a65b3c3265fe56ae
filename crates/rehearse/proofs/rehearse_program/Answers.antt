-- `rehearse_program` is safe: the table of an accepted file, and the text of a refusal, lie within their buffers.
use native.Mathlib.Omega.{arith}
use lib.ListN.{length-take}
use Rattle.desk_rehearsal.proofs.Opens.{opened_fits, refusal_fits}
use Rattle.rehearse.proofs.rehearse_program.Goals as goal

pub slice_bounds-table-end : goal.slice_bounds-table-end
slice_bounds-table-end c = opened_fits _ _ _ _ _ _ _ c.open_program.ensures c.in-Ok.is

pub slice_bounds-rehearse-end : goal.slice_bounds-rehearse-end
slice_bounds-rehearse-end c = simp length-take (omega (arith, opened_fits _ _ _ _ _ _ _ c.open_program.ensures c.in-Ok.is))

pub slice_bounds-text-end : goal.slice_bounds-text-end
slice_bounds-text-end c = omega (arith, refusal_fits _ _ _ _ _ _ _ c.open_program.ensures c.in-Err.is)

pub slice_bounds-print-end : goal.slice_bounds-print-end
slice_bounds-print-end c = simp length-take (omega (arith, refusal_fits _ _ _ _ _ _ _ c.open_program.ensures c.in-Err.is))
