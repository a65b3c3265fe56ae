-- `write_fresh_record` meets its contract: the three stores make the record of a run that begins.
use native.Mathlib.Omega.{arith}
use Rattle.meaning.proofs.Tables.{root_there}
use Rattle.run_begin.proofs.Beginning.{record_room, estimate_room, marks_room, fresh_written}
use Rattle.run_begin.proofs.write_fresh_record.Goals as goal

pub fill-requires : goal.fill-requires
fill-requires c = omega (arith, record_room _ _ _ c.requires)

pub slice_bounds-copy_over-end : goal.slice_bounds-copy_over-end
slice_bounds-copy_over-end c = estimate_room _ _ _ c.requires _ (omega (arith, c.fill.auto))

pub initialise-requires-clause-q_bound : goal.initialise-requires-clause-q_bound
initialise-requires-clause-q_bound c = root_there _ c.args.t.checked

pub initialise-requires-clause-t_in_bounds : goal.initialise-requires-clause-t_in_bounds
initialise-requires-clause-t_in_bounds c = marks_room _ _ _ c.requires _ (omega (arith, c.copy_over.auto, c.fill.auto))

pub returns : goal.returns
returns c = fresh_written _ _ _ c.requires _ c.fill.ensures _ c.copy_over.ensures _ c.initialise.ensures
