-- `program_refusal` meets its contract: one law of Refusals for each answer.
use Rattle.meaning.specs.declared.Form.TheVariants.{File}
use Rattle.program_refusals.proofs.Refusals.{too_short, has_parts_lem, sizes_refused, length_refused, parts_refused}
use mathlib.Core.Path.{ap}
use mathlib.Core.Bool.{not}
use Rattle.program_refusals.proofs.program_refusal.Goals as goal

pub returns-then-s-lt-HEADER : goal.returns-then-s-lt-HEADER
returns-then-s-lt-HEADER c = too_short File _ c.if-s-lt-HEADER.true

pub returns-then-not-sizes_allowed : goal.returns-then-not-sizes_allowed
returns-then-not-sizes_allowed c = sizes_refused File _ _ c.if-s-lt-HEADER.false c.sizes_allowed.ensures (ap not c.if-not-sizes_allowed.true)

pub returns-then-s-length_of : goal.returns-then-s-length_of
returns-then-s-length_of c =
    length_refused File _ _ _ _ c.if-s-lt-HEADER.false c.sizes_allowed.ensures (ap not c.if-not-sizes_allowed.false) c.parts.ensures c.length_of.ensures c.if-s-length_of.true

pub parts_refusal-requires : goal.parts_refusal-requires
parts_refusal-requires c =
    search has_parts_lem

pub returns : goal.returns
returns c =
    parts_refused File _ _ _ _ c.if-s-lt-HEADER.false c.sizes_allowed.ensures (ap not c.if-not-sizes_allowed.false) c.parts.ensures c.length_of.ensures _ c.if-s-length_of.false c.parts_refusal.ensures
