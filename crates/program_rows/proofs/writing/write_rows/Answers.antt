-- `write_rows` meets its contract. The loop's invariant: the rows from the part at hand on are written, and nothing else.
use Prim.Native.Nat.{◌-◌, ◌<◌}
use native.Mathlib.Omega.{arith}
use mathlib.Core.Path.{refl}
use Rattle.meaning.specs.Program.{parts}
use Rattle.program_rows.proofs.Forests.{grow_first, grow_walkable, grow_forest, grow_next, grow_all}
use Rattle.program_rows.proofs.writing.write_rows.Goals as goal

pub loop-p-init : goal.loop-p-init
loop-p-init c = (refl, (omega (arith, c.parts-p.ensures), grow_first _ _ c.requires.one_tree _ c.parts-p.ensures))

pub write_row-requires-clause-walkable : goal.write_row-requires-clause-walkable
write_row-requires-clause-walkable c =
    let below : c.loop-p.p - 1 < parts c.args.s.now = omega (arith, c.loop-p.invariant.1.0, c.loop-p-test.true) in
    grow_walkable _ c.args.out.now c.requires.one_tree _ below

pub write_row-requires-clause-forest : goal.write_row-requires-clause-forest
write_row-requires-clause-forest c =
    let below : c.loop-p.p - 1 < parts c.args.s.now = omega (arith, c.loop-p.invariant.1.0, c.loop-p-test.true) in
    grow_forest _ _ c.requires.one_tree _ below _ (omega (arith, c.loop-p-test.true)) _ c.loop-p.invariant.1.1 c.requires.s_in_bounds

pub loop-p-preserved : goal.loop-p-preserved
loop-p-preserved c =
    let below : c.loop-p.p - 1 < parts c.args.s.now = omega (arith, c.loop-p.invariant.1.0, c.loop-p-test.true) in
    (omega (arith, c.write_row.auto, c.loop-p.invariant.0), (omega (arith, c.loop-p.invariant.1.0), grow_next _ _ c.requires.one_tree _ below _ (omega (arith, c.loop-p-test.true)) _ c.loop-p.invariant.1.1 c.requires.s_in_bounds _ c.write_row.ensures))

pub returns : goal.returns
returns c =
    grow_all _ _ _ _ c.requires.one_tree c.loop-p.invariant.1.1 c.loop-p-test.false
