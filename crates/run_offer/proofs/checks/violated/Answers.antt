-- `violated` meets its contract: the part of the record that is lent is the estimate of the program's variables.
use Rattle.run_record.proofs.Marks.{clocks_fit}
use Rattle.run_offer.proofs.Checking.{lent_length, judged_lent}
use Rattle.run_offer.proofs.checks.violated.Goals as goal

pub invariant_of-situation : goal.invariant_of-situation
invariant_of-situation c =
    record {
      estimated = lent_length c.args.t.bytes.now c.args.r.bytes.now _ _ c.args.t.checked c.args.r.long c.variables.ensures c.from-stop.ensures;
      clocked = clocks_fit c.args.t.bytes.now c.args.t.checked;
    }

pub returns : goal.returns
returns c = judged_lent c.args.t.bytes.now c.args.r.bytes.now c.args.time _ _ c.args.o _ c.args.t.checked c.args.r.long c.variables.ensures c.from-stop.ensures c.violated.ensures
