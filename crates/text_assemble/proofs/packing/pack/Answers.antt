-- `pack` meets its contract.
use Rattle.text_assemble.proofs.Arrays.{file_packed}
use Rattle.text_assemble.proofs.packing.pack.Goals as goal

pub returns : goal.returns
returns c = search file_packed
