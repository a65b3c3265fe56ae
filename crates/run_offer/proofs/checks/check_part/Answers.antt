-- `check_part` meets its contract: a mark that is to be dropped is dropped, and any other stays and may begin a run of marks that are.
use Rattle.run_offer.proofs.Checking.{mark_dropping}
use Rattle.run_offer.proofs.checks.check_part.Goals as goal

pub bounds-r-from : goal.bounds-r-from
bounds-r-from c = mark_dropping c.args.t.bytes.now _ _ _ c.args.t.checked c.requires.record_length_in_bounds c.requires.p_bound c.from.ensures
