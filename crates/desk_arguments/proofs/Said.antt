-- Laws of messages: each fits its buffer.
use Prim.Native.Nat.{◌≤◌}
use native.Mathlib.Omega.{arith}
use mathlib.Core.Path.{◌≡◌}
use mathlib.Core.Logic.{◌⊎◌, inl, inr}
use mathlib.Core.List.{[]}
use lib.ListN.{length}
use Rattle.desk_arguments.specs.declared.Command.{Command}
use Rattle.desk_arguments.specs.declared.Command.TheVariants.{Assemble, Listing, Rehearse}
use Rattle.desk_arguments.specs.declared.Request.{Request}
use Rattle.desk_arguments.specs.declared.Request.TheVariants.{Help, Usage, LongName, Input, File, FileWithParts}
use Rattle.desk_arguments.specs.Messages.{usage_text, purpose_text, help_text, message_text, max_message}

pub message_fits : (command : Command) (request : Request) → length (message_text command request) ≤ max_message
unfolding message_text help_text usage_text purpose_text
message_fits Assemble Help = omega arith
message_fits Listing Help = omega arith
message_fits Rehearse Help = omega arith
message_fits Assemble Usage = omega arith
message_fits Listing Usage = omega arith
message_fits Rehearse Usage = omega arith
message_fits command LongName = omega arith
message_fits command Input = omega arith
message_fits command File = omega arith
message_fits command FileWithParts = omega arith

-- a request for a file, or for standard input, has none
pub message_none : (command : Command) (request : Request) → (request ≡ Input) ⊎ ((request ≡ File) ⊎ (request ≡ FileWithParts)) → message_text command request ≡ []
unfolding message_text
message_none command request (inl e) = rw e
message_none command request (inr (inl e)) = rw e
message_none command request (inr (inr e)) = rw e
