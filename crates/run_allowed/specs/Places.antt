-- The test that the code makes of clocks in turn.
use Rattle.std.specs.Prelude.{ℕ, ◌+◌, ◌*◌, Bool, List, get_or}
use Rattle.meaning.specs.Sizes.{time_width}
use Rattle.meaning.specs.Record.{started_place, starts_place, time_at, last_time, clock_allowed}

unfoldable pub clock_at : List ℕ → ℕ → Bool
clock_at r c = clock_allowed (last_time r) (get_or r (started_place + c) 0) (time_at r (starts_place + time_width * c))
