-- `run` meets its contract: at each turn those before it were taken, each while the run went on.
use Rattle.rehearse.specs.Standing.{Ran}
use Rattle.rehearse.proofs.lines.run.Given as goal

abbrev pub invariant-loop : goal.invariant-loop
invariant-loop l = Ran l.t l.initial.r l.asked l.initial.input l.counter l.r l.input l.s
