-- `number` ends: n falls at each call.
use Rattle.desk_format.proofs.page.Page.+number.Given as goal

abbrev pub decreases-number : goal.decreases-number
decreases-number l = l.n
