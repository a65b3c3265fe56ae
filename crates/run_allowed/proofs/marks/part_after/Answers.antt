-- `part_after` meets its contract: it tells the two cases of the definition apart.
use Rattle.std.proofs.Common.{arith}
use Rattle.program_part.proofs.Places.{parts_fit}
use Rattle.run_record.proofs.Marks.{mark_inside}
use Rattle.run_allowed.proofs.marks.part_after.Goals as goal

pub is_marked-requires : goal.is_marked-requires
is_marked-requires c = search mark_inside

pub overflow_add-result : goal.overflow_add-result
overflow_add-result c = omega (arith, parts_fit c.args.t.bytes.now c.args.t.checked, c.requires)
