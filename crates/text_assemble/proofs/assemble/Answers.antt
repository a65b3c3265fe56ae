-- `assemble` meets its contract: one law for each answer.
use native.Mathlib.Omega.{arith}
use Rattle.text_assemble.proofs.Operation.{text_too_long, text_not_read, sizes_refused, assembled}
use Rattle.text_assemble.proofs.assemble.Goals as goal

pub returns-then-text-gt-MAX_TEXT : goal.returns-then-text-gt-MAX_TEXT
returns-then-text-gt-MAX_TEXT c = search text_too_long

pub returns-in_default : goal.returns-in_default
returns-in_default c = text_not_read _ _ (omega arith) _ _ c.in_default.field-0 c.in_default.ensures

pub returns-then-not-sizes_in_range : goal.returns-then-not-sizes_in_range
returns-then-not-sizes_in_range c =
    sizes_refused _ _ (omega arith) _ _ c.in-Ok.program c.in-Ok.ensures _ c.sizes_in_range.ensures c.if-not-sizes_in_range.true

pub returns : goal.returns
returns c =
    assembled _ _ (omega arith) _ _ c.in-Ok.program c.in-Ok.ensures _ c.sizes_in_range.ensures c.if-not-sizes_in_range.false _ _ c.write_program.ensures (omega arith)
