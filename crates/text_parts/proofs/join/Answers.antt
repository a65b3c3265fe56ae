-- `join` meets its contract: one part stays as it is, and more get one over them, with their number.
use mathlib.Core.Path.{ap, ◌∙◌}
use Rattle.meaning.specs.Kinds.{number_of}
use Rattle.text_parts.proofs.Joining.{one_joined, more_joined}
use Rattle.text_parts.proofs.join.Goals as goal

pub returns-then-count-eq1 : goal.returns-then-count-eq1
returns-then-count-eq1 c = search one_joined

pub returns : goal.returns
returns c =
    more_joined _ _ _ _ _ _ _ _ _ c.if-count-eq1.false c.make_room.ensures (c.into.ensures ∙ ap number_of c.joining_kind.ensures) c.clamped.ensures c.put_part.ensures
