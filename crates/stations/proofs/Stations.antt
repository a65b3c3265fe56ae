-- The ten stations and the further programs hold, by the table's definitions and by the unfolding: one fact over the tables of them, computed table by
-- table. The runs of document 02's R-2 and R-4 are computed by the unfolding alone; by the table they hold because the two runs are alike.
use mathlib.Core.Path.{◌≡◌, refl}
use mathlib.Core.Bool.{Bool, true}
use mathlib.Core.List.{List}
use Rattle.base.specs.Lists.{all}
use Rattle.meaning.proofs.Computed.{settle as settle_call}
use Rattle.agreement.specs.Unfolding.{afresh, check, working, settle}
use Rattle.agreement.specs.Runs.{tree_next, tree_reply, table_finishing, tree_finishing, lowest_at_work, start_each}
use Rattle.stations.specs.Stations.{Station, stations, further, contested_stations, restarted_stations, silent_stations, same_reply, same_replies, by_table, by_tree, holds, all_hold}
use Rattle.stations.proofs.ByTree.{timely, all_hold_lem}

-- to unfold this is to unfold all that a station is computed with
unfoldable all_of : List Station → Bool
unfolding lowest_at_work start_each table_finishing tree_finishing same_reply same_replies by_table by_tree holds settle_call afresh check working settle tree_next tree_reply
all_of xs = all holds xs

ten_hold : all_of stations ≡ true
unfolding stations all_of
ten_hold = refl

further_hold : all_of further ≡ true
unfolding further all_of
further_hold = refl

contested_hold : all_of contested_stations ≡ true
unfolding contested_stations all_of
contested_hold = refl

restarted_hold : all_of restarted_stations ≡ true
unfolding restarted_stations all_of timely
restarted_hold = all_hold_lem restarted_stations refl

silent_hold : all_of silent_stations ≡ true
unfolding silent_stations all_of timely
silent_hold = all_hold_lem silent_stations refl

pub ten_stations : all_hold ≡ true
unfolding all_of
ten_stations = rw (ten_hold, further_hold, contested_hold, restarted_hold, silent_hold)
