-- `write_arrays` meets its contract. The loop's invariant: the kinds and the operands still to be written, stored onto what is there now, give the whole.
use Rattle.program_decompile.proofs.Writes.{arrays_left, turn_stored, none_left}
use Rattle.program_decompile.proofs.arrays.write_arrays.Goals as goal

pub loop-p-init : goal.loop-p-init
loop-p-init c = arrays_left _ _ c.parts-n.ensures _

pub loop-p-preserved : goal.loop-p-preserved
loop-p-preserved c =
    turn_stored _ _ c.parts-n.ensures _ _ _ _ _ _ _ _ c.loop-p.invariant c.loop-p-test.true c.entry-part.ensures c.kind_place.ensures c.store.ensures c.operand_place.ensures c.put_operand.ensures

pub returns : goal.returns
returns c = none_left _ _ c.parts-n.ensures _ _ _ c.loop-p.invariant c.loop-p-test.false
