-- `marked_children` meets its contract: at each turn the count so far and the marked children among the parts that are left are all of them.
use Rattle.std.proofs.Common.{arith}
use Rattle.program_part.proofs.Places.{parts_fit}
use Prim.Native.Nat.{◌<◌}
use borrow.Author.Rules.{rules}
use Rattle.run_allowed.proofs.Markings.{count_starts, count_marked, child_there, count_later, count_next, count_ends}
use Rattle.run_allowed.proofs.marks.marked_children.Goals as goal

pub loop-q-init : goal.loop-q-init
loop-q-init c = search count_starts

pub is_marked-requires : goal.is_marked-requires
is_marked-requires c = search count_marked

pub end-q-requires : goal.end-q-requires
end-q-requires c = search child_there

pub loop-q-smaller : goal.loop-q-smaller
loop-q-smaller c =
    let h : c.loop-q.q < c.end-q.result = search count_later in search rules

pub loop-q-preserved : goal.loop-q-preserved
loop-q-preserved c = search count_next

pub returns : goal.returns
returns c = search count_ends

pub overflow_add-q : goal.overflow_add-q
overflow_add-q c = omega (arith, parts_fit c.args.t.bytes.now c.args.t.checked, c.requires)
