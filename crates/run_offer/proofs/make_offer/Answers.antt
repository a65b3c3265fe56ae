-- `make_offer` meets its contract: the goals are those of the marks that the check has left, and the name is read off the goal bytes.
use Rattle.run_offer.proofs.Offering.{offer_long, offer_kept, offer_room, goals_kept, names_fit, goals_offered, name_offered}
use Rattle.run_offer.proofs.make_offer.Goals as goal

pub advance-requires : goal.advance-requires
advance-requires c = offer_long _ _ _ _ c.requires

pub invariant_of-write_goals : goal.invariant_of-write_goals
invariant_of-write_goals c = record { long = offer_kept c.args.t.bytes.now c.args.r.now c.args.time _ c.requires c.advance.new.r c.advance.auto.r }

pub write_goals-requires : goal.write_goals-requires
write_goals-requires c = offer_room c.args.t.bytes.now c.args.r.now c.args.time _ c.requires

pub lowest_contested-requires-clause-n_in_bounds :
    goal.lowest_contested-requires-clause-n_in_bounds
lowest_contested-requires-clause-n_in_bounds c = goals_kept c.args.t.bytes.now c.args.r.now c.args.time _ c.requires _ _ c.write_goals.auto.g c.variables.ensures

pub lowest_contested-requires-clause-n_le_max_variables :
    goal.lowest_contested-requires-clause-n_le_max_variables
lowest_contested-requires-clause-n_le_max_variables c = names_fit c.args.t.bytes.now c.args.r.now c.args.time _ c.requires _ c.variables.ensures

pub returns-clause-result_value : goal.returns-clause-result_value
returns-clause-result_value c = name_offered c.args.t.bytes.now c.args.r.now _ c.args.goals.now _ c.args.time c.requires c.advance.ensures c.write_goals.ensures _ _ c.variables.ensures c.lowest_contested.ensures.result_value

pub returns-clause-goals_after : goal.returns-clause-goals_after
returns-clause-goals_after c = goals_offered c.args.t.bytes.now c.args.r.now _ c.args.goals.now _ c.args.time c.requires c.advance.ensures c.write_goals.ensures
