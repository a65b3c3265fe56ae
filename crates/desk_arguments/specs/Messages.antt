-- What a command prints where its arguments name no file to work on.
use Rattle.std.specs.Prelude.{ℕ, Bool, true, false, List, [], ◌++◌}
use Rattle.desk_format.specs.Words.{word}
use Rattle.desk_arguments.specs.declared.Command.{Command}
use Rattle.desk_arguments.specs.declared.Command.TheVariants.{Assemble, Listing, Rehearse}
use Rattle.desk_arguments.specs.declared.Request.{Request}
use Rattle.desk_arguments.specs.declared.Request.TheVariants.{Help, Usage, LongName, Input, File, FileWithParts}

-- A message that was asked for goes to standard output, any other to standard error
abbrev pub is_asked : Request → Bool
is_asked Help = true
is_asked Usage = false
is_asked LongName = false
is_asked Input = false
is_asked File = false
is_asked FileWithParts = false

unfoldable pub usage_text : Command → List ℕ
usage_text Assemble = word "usage: assemble [TEXT]\n"
usage_text Listing = word "usage: listing [PROGRAM]\n"
usage_text Rehearse = word "usage: rehearse PROGRAM [parts]\n"

unfoldable pub purpose_text : Command → List ℕ
purpose_text Assemble = word "Writes the program file of the program that is typed as text in the file TEXT to standard output.\nWithout TEXT it reads the text from standard input.\nA text that is refused gives no output; why it is refused is printed on standard error.\n"
purpose_text Listing = word "Prints the location table of the program in the file PROGRAM, or the number of its refusal.\nWithout PROGRAM it reads the file from standard input.\n"
purpose_text Rehearse = word "Makes the calls on standard input, one a line, on the program in the file PROGRAM, and prints each answer.\nPROGRAM is a program file, or a program that is typed as text.\nCalls: begin HEX, offer TIME, offer TIME LENGTH, settle HEX.\nWith the word parts it prints the marked parts under each answer.\n"

unfoldable pub help_text : Command → List ℕ
help_text command = usage_text command ++ purpose_text command

-- a request for a file, or for standard input, has no message
unfoldable pub message_text : Command → Request → List ℕ
message_text command Help = help_text command
message_text command Usage = usage_text command
message_text command LongName = word "the file name has more than 4095 bytes\n"
message_text command Input = []
message_text command File = []
message_text command FileWithParts = []

-- room for the longest
abbrev pub max_message : ℕ
max_message = 512
