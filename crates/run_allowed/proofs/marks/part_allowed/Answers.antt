-- `part_allowed` meets its contract: a marked part is judged by its marked children, any other by whether something inside it is marked.
use Rattle.std.proofs.Common.{arith}
use Rattle.program_part.proofs.Places.{parts_fit}
use Rattle.run_record.proofs.Marks.{mark_inside}
use Rattle.run_allowed.proofs.Markings.{inner_order, inner_long, marked_allowed, unmarked_allowed}
use Rattle.run_allowed.proofs.marks.part_allowed.Goals as goal

pub is_marked-requires : goal.is_marked-requires
is_marked-requires c = search mark_inside

pub any_marked-requires-clause-order : goal.any_marked-requires-clause-order
any_marked-requires-clause-order c = inner_order c.args.t.bytes.now c.args.p _ c.args.t.checked c.requires c.end.ensures

pub any_marked-requires-clause-inside : goal.any_marked-requires-clause-inside
any_marked-requires-clause-inside c = inner_long c.args.t.bytes.now c.args.r.bytes.now c.args.p _ c.args.t.checked c.args.r.long c.requires c.end.ensures

pub returns-then-is_marked : goal.returns-then-is_marked
returns-then-is_marked c = search marked_allowed

pub returns-else-is_marked : goal.returns-else-is_marked
returns-else-is_marked c = search unmarked_allowed

pub overflow_add-p : goal.overflow_add-p
overflow_add-p c = omega (arith, parts_fit c.args.t.bytes.now c.args.t.checked, c.requires)
