-- `expect` meets its contract: one law for each answer.
use Rattle.text_read.proofs.Plain.{expect_missing, expect_passed}
use Rattle.text_read.proofs.leaves.expect.Goals as goal

pub returns-then-not-stands_at-clause-passes : goal.returns-then-not-stands_at-clause-passes
returns-then-not-stands_at-clause-passes c = search expect_missing

pub returns-clause-passes : goal.returns-clause-passes
returns-clause-passes c = search expect_passed
