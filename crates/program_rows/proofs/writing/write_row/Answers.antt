-- `write_row` meets its contract. The loop's invariant: the rows of the children that are left stand in the buffer, and complete those of the part.
use Prim.Native.Nat.{◌<◌}
use native.Mathlib.Omega.{arith}
use mathlib.Core.Path.{refl}
use Rattle.meaning.specs.declared.Form.TheVariants.{File}
use Rattle.meaning.specs.Sizes.{number_limit}
use Rattle.meaning.specs.Program.{parts}
use Rattle.program_walk.proofs.Standing.{stands_below, walkable_readable}
use Rattle.program_rows.proofs.Forests.{rowing_first, rowing_stands, end_read, link_child, others_stand, row_done}
use Rattle.program_rows.proofs.writing.write_row.Goals as goal

pub entry_at-part-requires : goal.entry_at-part-requires
entry_at-part-requires c = walkable_readable File _ _ c.requires.walkable

pub overflow_add-q : goal.overflow_add-q
overflow_add-q c =
    omega (arith, stands_below File _ _ c.requires.walkable.stands, c.type_inv.s 0)

pub loop-remaining-init : goal.loop-remaining-init
loop-remaining-init c =
    (refl, (rowing_first _ _ _ _ _ c.requires.walkable.stands c.entry_at-part.ensures c.arity-remaining.ensures, c.requires.forest))

pub read_number-e-requires : goal.read_number-e-requires
read_number-e-requires c =
    let here = rowing_stands _ _ _ _ _ _ _ _ c.loop-remaining.invariant.1.0 c.loop-remaining-test.true in
    omega (arith, stands_below File _ _ here, c.requires.s_in_bounds, c.loop-remaining.invariant.0, c.row_place.ensures)

pub put_links-requires : goal.put_links-requires
put_links-requires c =
    let here = rowing_stands _ _ _ _ _ _ _ _ c.loop-remaining.invariant.1.0 c.loop-remaining-test.true in
    omega (arith, stands_below File _ _ here, c.requires.s_in_bounds, c.loop-remaining.invariant.0)

pub loop-remaining-preserved : goal.loop-remaining-preserved
loop-remaining-preserved c =
    let small : parts c.args.s.now < number_limit = omega (arith, c.type_inv.s 0) in
    let ends = end_read _ _ _ _ _ _ _ _ c.loop-remaining.invariant.1.0 c.loop-remaining-test.true c.loop-remaining.invariant.1.1 small _ _ c.row_place.ensures c.read_number-e.ensures in (
      omega (arith, c.put_links.auto, c.loop-remaining.invariant.0),
      (
        link_child _ _ _ _ _ _ _ _ c.loop-remaining.invariant.1.0 c.loop-remaining-test.true c.loop-remaining.invariant.1.1 small _ _ _ ends c.put_links.ensures _ refl c.next_of-next.ensures,
        others_stand _ _ _ _ _ _ _ _ c.loop-remaining.invariant.1.0 c.loop-remaining-test.true c.loop-remaining.invariant.1.1 small _ _ _ ends c.put_links.ensures,
      ),
    )

pub put_row-requires : goal.put_row-requires
put_row-requires c =
    omega (arith, stands_below File _ _ c.requires.walkable.stands, c.requires.s_in_bounds, c.loop-remaining.invariant.0)

pub returns : goal.returns
returns c =
    row_done _ _ _ _ _ _ _ _ _ c.loop-remaining.invariant.1.0 c.loop-remaining-test.false c.entry_at-part.ensures c.put_row.ensures
