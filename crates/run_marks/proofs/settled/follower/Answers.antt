-- `follower` meets its contract: each transition has its arm, and a part's first child has a number.
use native.Mathlib.Omega.{arith}
use Rattle.program_part.proofs.Places.{parts_fit}
use Rattle.run_marks.proofs.settled.follower.Goals as goal

pub overflow_add-result : goal.overflow_add-result
overflow_add-result c = omega (arith, parts_fit _ c.args.t.checked, c.requires.p_bound)

pub overflow_add-p : goal.overflow_add-p
overflow_add-p c = omega (arith, parts_fit _ c.args.t.checked, c.requires.p_bound)
