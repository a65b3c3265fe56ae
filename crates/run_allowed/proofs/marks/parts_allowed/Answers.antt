-- `parts_allowed` meets its contract: at each turn the parts that are left are allowed exactly where all parts are.
use Prim.Native.Nat.{◌<◌}
use borrow.Author.Rules.{rules}
use Rattle.run_allowed.proofs.Markings.{parts_allowed_pass, parts_fail, parts_later, parts_allowed_end}
use Rattle.run_allowed.proofs.marks.parts_allowed.Goals as goal

pub returns-then-not-part_allowed : goal.returns-then-not-part_allowed
returns-then-not-part_allowed c = search parts_fail

pub loop-p-smaller : goal.loop-p-smaller
loop-p-smaller c =
    let h : c.loop-p.p < c.part_after-p.result = search parts_later in search rules

pub loop-p-preserved : goal.loop-p-preserved
loop-p-preserved c = search parts_allowed_pass

pub returns : goal.returns
returns c = search parts_allowed_end
