-- `outcome` meets its contract: each test has its arm, and no other byte is a test.
use mathlib.Core.Logic.{inl, inr}
use Rattle.run_record.proofs.Judging.{variable_inside, clock_inside, judged_at_least, judged_below}
use Rattle.run_record.proofs.conditions.Situation.outcome.Goals as goal

pub is_known-requires : goal.is_known-requires
is_known-requires c = variable_inside c.args.self.table.now c.args.o c.requires _ c.from.ensures _ c.args.self.estimated (inl c.in-Equals.is)

pub has_value-requires : goal.has_value-requires
has_value-requires c = variable_inside c.args.self.table.now c.args.o c.requires _ c.from.ensures _ c.args.self.estimated (inl c.in-Equals.is)

pub is_known-requires-in-Differs : goal.is_known-requires-in-Differs
is_known-requires-in-Differs c = variable_inside c.args.self.table.now c.args.o c.requires _ c.from.ensures _ c.args.self.estimated (inr c.in-Differs.is)

pub has_value-requires-in-Differs : goal.has_value-requires-in-Differs
has_value-requires-in-Differs c = variable_inside c.args.self.table.now c.args.o c.requires _ c.from.ensures _ c.args.self.estimated (inr c.in-Differs.is)

pub is_started-requires : goal.is_started-requires
is_started-requires c = clock_inside c.args.self.table.now c.args.o c.requires _ c.from.ensures c.args.self.clocked (inl c.in-AtLeast.is)

pub at_least-requires : goal.at_least-requires
at_least-requires c = clock_inside c.args.self.table.now c.args.o c.requires _ c.from.ensures c.args.self.clocked (inl c.in-AtLeast.is)

pub is_started-requires-in-Below : goal.is_started-requires-in-Below
is_started-requires-in-Below c = clock_inside c.args.self.table.now c.args.o c.requires _ c.from.ensures c.args.self.clocked (inr c.in-Below.is)

pub below-requires : goal.below-requires
below-requires c = clock_inside c.args.self.table.now c.args.o c.requires _ c.from.ensures c.args.self.clocked (inr c.in-Below.is)

pub returns-in-AtLeast : goal.returns-in-AtLeast
returns-in-AtLeast c = judged_at_least c.args.self.table.now c.args.o c.requires _ c.from.ensures _ _ _ _ _ _ c.is_started.ensures c.open_unless-in-AtLeast.ensures c.in-AtLeast.is c.at_least.ensures

pub returns-in-Below : goal.returns-in-Below
returns-in-Below c = search judged_below
