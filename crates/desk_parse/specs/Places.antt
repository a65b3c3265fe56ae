-- Where a byte stands in a buffer.
use Rattle.std.specs.Prelude.{ℕ, ◌+◌, ◌-◌, cond, List, leb}
use Rattle.base.specs.Lists.{bytes_at}
use Rattle.desk_parse.specs.Words.{is_other, leading}

-- the place of the first byte b from place `from` on and before place `to`, or `to` where there is none
unfoldable pub place_of : ℕ → List ℕ → ℕ → ℕ → ℕ
place_of b l from to = cond (leb from to) (from + leading (is_other b) (bytes_at l from (to - from))) to
