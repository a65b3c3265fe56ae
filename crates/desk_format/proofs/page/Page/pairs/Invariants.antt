-- `pairs` meets its contract: at each turn the bytes before this one are written.
use Prim.Native.Nat.{◌-◌, ◌≤◌}
use Rattle.desk_format.specs.Pages.{Adds}
use Rattle.desk_format.specs.Writing.{texts_from}
use Rattle.desk_format.proofs.Pairs.{pair_at}
use Rattle.desk_format.proofs.page.Page.pairs.Given as goal

abbrev pub invariant-loop-k : goal.invariant-loop-k
invariant-loop-k l = (l.from ≤ l.k) × Adds (texts_from (pair_at l.bytes) l.from (l.k - l.from)) l.fn.self l.self
