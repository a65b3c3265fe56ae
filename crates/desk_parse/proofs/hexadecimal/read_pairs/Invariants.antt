-- `read_pairs` meets its contract: at each turn what is left completes the bytes, their number and the verdict.
use lib.ListN.{length}
use Rattle.desk_parse.proofs.Counted.{Reading}
use Rattle.desk_parse.proofs.hexadecimal.read_pairs.Given as goal

abbrev pub invariant-loop-rest : goal.invariant-loop-rest
invariant-loop-rest l = Reading l.s l.initial.bytes l.bytes l.rest l.n

abbrev pub decreases-loop-rest : goal.decreases-loop-rest
decreases-loop-rest l = length l.rest
