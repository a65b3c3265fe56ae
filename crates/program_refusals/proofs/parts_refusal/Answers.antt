-- `parts_refusal` meets its contract: a walk that ends at the last part passes all tests.
use Rattle.meaning.specs.declared.Form.TheVariants.{File}
use Rattle.program_walk.specs.Walk.{any_end}
use Rattle.program_refusals.proofs.Refusals.{parts_pass}
use Rattle.program_refusals.proofs.parts_refusal.Goals as goal

pub returns-then-root_extent-parts : goal.returns-then-root_extent-parts
returns-then-root_extent-parts c =
    parts_pass File _ any_end _ _ c.root_extent.ensures c.parts.ensures c.requires c.if-root_extent-parts.true
