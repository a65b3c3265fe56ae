-- `write_arrays` meets its contract. The loop's invariant: the kinds and the operands still to be written, stored onto what is there now, give the whole.
use mathlib.Core.Path.{◌≡◌}
use lib.Seq.{sets}
use Rattle.meaning.specs.declared.Form.TheVariants.{Table}
use Rattle.meaning.specs.Sizes.{header_length}
use Rattle.meaning.specs.Program.{entries, arrays}
use Rattle.program_decompile.proofs.Writes.{stored_from}
use Rattle.program_decompile.proofs.arrays.write_arrays.Given as goal

abbrev pub invariant-loop-p : goal.invariant-loop-p
invariant-loop-p l = stored_from l.table.bytes.now l.n l.p l.file ≡ sets l.initial.file header_length (arrays (entries Table l.table.bytes.now))
