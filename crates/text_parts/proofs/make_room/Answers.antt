-- `make_room` meets its contract: it moves what stands before the end, and there is nothing to move beyond.
use Rattle.text_parts.proofs.Room.{none_moved, moved_to_the_end}
use Rattle.text_parts.proofs.make_room.Goals as goal

pub returns-then-end-from : goal.returns-then-end-from
returns-then-end-from c = search none_moved

pub returns-else-to-end : goal.returns-else-to-end
returns-else-to-end c = search moved_to_the_end
