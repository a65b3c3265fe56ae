-- `write_program` meets its contract: what is packed is the program file.
use Rattle.text_assemble.proofs.Operation.{program_written}
use native.Mathlib.Omega.{arith}
use Rattle.text_assemble.proofs.write_program.Goals as goal

pub returns : goal.returns
returns c =
    program_written _ _ _ _ _ _ _ _ _ _ c.length_of.ensures c.pack.ensures c.write_checked.ensures (omega arith)
