-- `start_part` meets its contract: a marked START starts its clock, any other part nothing.
use borrow.Author.Rules.{rules}
use Rattle.run_record.proofs.Marks.{mark_inside}
use Rattle.run_clocks.proofs.Starting.{clock_named, part_starts, part_unmarked, part_other}
use Rattle.run_clocks.proofs.start_part.Goals as goal
use Rattle.run_clocks.proofs.start_part.Goals.{else-eq-via-then-eq+else-marked, else-eq-via-else-eq}

pub is_marked-marked-requires : goal.is_marked-marked-requires
is_marked-marked-requires c =
    mark_inside _ c.args.t.checked _ _ c.requires.record_length_in_bounds c.requires.p_bound

pub start_clock-requires-clause-c_lt_max_clocks : goal.start_clock-requires-clause-c_lt_max_clocks
start_clock-requires-clause-c_lt_max_clocks c =
    clock_named _ _ _ _ c.args.t.checked c.requires.p_bound c.kind.ensures (search rules) c.entry.ensures

pub returns-then-marked : goal.returns-then-marked
returns-then-marked c =
    part_starts _ _ _ _ _ c.is_marked-marked.ensures _ _ _ c.if-marked.true c.kind.ensures (search rules) c.entry.ensures c.start_clock.ensures

pub returns-else-eq : goal.returns-else-eq
returns-else-eq c =
    elim c.else-eq.branch [ else-eq-via-then-eq+else-marked w ↦ part_unmarked _ _ _ _ _ c.is_marked-marked.ensures w.if-marked.false | else-eq-via-else-eq w ↦ part_other _ _ _ _ _ c.is_marked-marked.ensures _ c.kind.ensures (search rules) ]
