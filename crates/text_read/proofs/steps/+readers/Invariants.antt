-- The bytes that are left fall at each call; where a call begins at the same place, the readers stand in the order body, sequence, step.
-- At each turn of `body`'s loop some of the brackets are closed, and at each turn of `items`'s some of those that are joined are read.
use Rattle.std.proofs.Common.{◌≡◌, ◌+◌, ◌-◌, ◌*◌, ◌≤◌, length}
use Rattle.text_stops.specs.Places.{cut_at}
use Rattle.text_read.specs.Reading.{Moves}
use Rattle.text_read.proofs.Readers.{Joining, Enclosing}
use Rattle.text_read.proofs.steps.+readers.Given as goal

abbrev pub decreases-body : goal.decreases-body
decreases-body l = 3 * (length l.t.now - l.from.place) + 2

abbrev pub decreases-choice : goal.decreases-choice
decreases-choice l = 3 * (length l.t.now - l.from.place) + 2

abbrev pub decreases-item : goal.decreases-item
decreases-item l = 3 * (length l.t.now - l.from.place) + 2

abbrev pub decreases-items : goal.decreases-items
decreases-items l = 3 * (length l.t.now - l.first.place)

abbrev pub decreases-sequence : goal.decreases-sequence
decreases-sequence l = 3 * (length l.t.now - l.from.place) + 1

abbrev pub decreases-step : goal.decreases-step
decreases-step l = 3 * (length l.t.now - l.from.place)

abbrev pub decreases-tail : goal.decreases-tail
decreases-tail l = 3 * (length l.t.now - l.first.place) + 1

abbrev pub invariant-body-loop : goal.invariant-body-loop
invariant-body-loop l = Enclosing l.t l.from.parts l.initial.at l.initial.parts l.count l.at l.parts (l.count - l.counter) × (l.from.place + l.count ≤ l.at.place) × Moves l.t l.from.place l.from.parts l.at.place l.at.parts × (length l.parts ≡ length l.initial.parts)

abbrev pub invariant-items-loop-joining : goal.invariant-items-loop-joining
invariant-items-loop-joining l = Joining l.t l.level l.n l.initial.at.place l.initial.parts l.initial.at.parts l.at.place l.parts l.at.parts l.count × (l.initial.at.place ≤ l.at.place) × (l.at.place ≤ length l.t) × (l.at.parts + l.count + l.initial.at.place ≤ l.initial.at.parts + l.at.place + 1) × (1 ≤ l.count) × (length l.parts ≡ length l.initial.parts) × (cut_at l.t l.at.place ≡ 0)

abbrev pub decreases-items-loop-joining : goal.decreases-items-loop-joining
decreases-items-loop-joining l = length l.t - l.at.place
