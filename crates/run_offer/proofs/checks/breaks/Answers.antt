-- `breaks` meets its contract: of a marked MAINTAIN the condition decides.
use borrow.Author.Rules.{rules}
use mathlib.Core.Path.{refl, ◌∙◌}
use Rattle.run_record.proofs.Marks.{mark_inside}
use Rattle.run_offer.proofs.Checking.{maintained, breaks_unmarked, breaks_other, breaks_if}
use Rattle.run_offer.proofs.checks.breaks.Goals as goal
use Rattle.run_offer.proofs.checks.breaks.Goals.{then-eq, else-eq}

pub is_marked-requires : goal.is_marked-requires
is_marked-requires c = mark_inside _ c.args.t.checked _ _ c.args.r.long c.requires

pub violated-requires : goal.violated-requires
violated-requires c =
    elim c.if-eq.branch [ then-eq w ↦ maintained _ _ _ _ c.args.t.checked c.requires c.kind.ensures (search rules) c.entry.ensures | else-eq w ↦ search rules ]

pub returns-then-is_marked : goal.returns-then-is_marked
returns-then-is_marked c =
    elim c.if-eq.branch [ then-eq w ↦ breaks_if c.args.t.bytes.now _ c.args.p _ _ w.is_marked.ensures _ c.kind.ensures _ _ (search rules) (search rules) c.entry.ensures c.violated.ensures | else-eq w ↦ search rules ]

pub returns-else-is_marked : goal.returns-else-is_marked
returns-else-is_marked c =
    elim c.if-eq.branch [ then-eq w ↦ c.if-is_marked.false ∙ breaks_unmarked c.args.t.bytes.now _ c.args.p _ _ w.is_marked.ensures (search rules) | else-eq w ↦ c.if-is_marked.false ∙ breaks_other c.args.t.bytes.now _ c.args.p _ _ refl _ c.kind.ensures (search rules) ]
