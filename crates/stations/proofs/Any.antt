-- Stations 2 and 3 as document 01 says them: whatever the settling's estimate, and whatever the first time. The table of stations has them at the bounds.
use native.Mathlib.Omega.{arith}
use mathlib.Core.Path.{refl}
use borrow.Author.Tests.{le-leb}
use Rattle.meaning.specs.Conditions.{outcome, reached, satisfied, violated}
use Rattle.meaning.specs.Record.{estimate_byte_allowed}
use Rattle.meaning.specs.Cycle.{values_for, goal_bytes, estimate_allowed}
use Rattle.meaning.proofs.Computed.{read}
use Rattle.agreement.specs.Unfolding.{afresh, check, working, settle}
use Rattle.agreement.specs.Runs.{tree_next, tree_reply, tree_finishing, lowest_at_work, start_each}
use Rattle.stations.specs.Stations.{finishes_with, offers_at, AnyHold, same_reply, same_replies, by_tree}
use Rattle.stations.proofs.ByTree.{by_tree_alone}

-- stations 2 and 3, for all
pub any_hold : AnyHold
unfolding tree_finishing lowest_at_work start_each same_reply same_replies by_tree read outcome reached satisfied violated values_for goal_bytes estimate_byte_allowed estimate_allowed afresh check working settle tree_next tree_reply
any_hold =
    record {
      any_settling = λ time e short fits. by_tree_alone (finishes_with time e) refl refl (short, tt) refl (rw (le-leb 0 time (omega arith), fits));
      any_first_time = λ time short. by_tree_alone (offers_at time) refl refl (short, tt) refl (rw (le-leb 0 time (omega arith)));
    }
