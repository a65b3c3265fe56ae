-- What the arguments of the commands ask for.
use Rattle.std.specs.Prelude.{ℕ, Bool, false, cond, ◌&&◌, ◌||◌, List, eqb, ltb, length}
use Rattle.base.specs.Lists.{same}
use Rattle.desk_format.specs.Words.{word}
use Rattle.desk_arguments.specs.declared.Request.{Request}
use Rattle.desk_arguments.specs.declared.Request.TheVariants.{Help, Usage, LongName, Input, File, FileWithParts}

-- The number of arguments counts the command's own name, argument 0: with a file name, and with a word after it
abbrev pub with_name : ℕ
with_name = 2

abbrev pub with_word : ℕ
with_word = 3

-- Argument 1 asks for help by this word, and names a file otherwise; argument 2 asks for the marked parts by this one
abbrev pub help_word : List ℕ
help_word = word "--help"

abbrev pub parts_word : List ℕ
parts_word = word "parts"

-- a file name is not empty, and not longer than its buffer
unfoldable pub name_request : List ℕ → Bool → Bool → Request
name_request name cut parts = cond cut LongName (cond (eqb (length name) 0) Usage (cond parts FileWithParts File))

-- `assemble` and `listing`: nothing, so that the file is on standard input, or a file name
unfoldable pub source_request : ℕ → List ℕ → Bool → Request
source_request count name cut =
    cond (ltb count with_name) Input
    (cond (same name help_word) Help
    (cond (eqb count with_name) (name_request name cut false) Usage))

-- `rehearse`: a file name, or a file name and the word that asks for the marked parts
abbrev pub asks_parts : ℕ → List ℕ → Bool
asks_parts count second = eqb count with_word && same second parts_word

unfoldable pub rehearse_request : ℕ → List ℕ → Bool → List ℕ → Request
rehearse_request count name cut second =
    cond (same name help_word) Help
    (cond (eqb count with_name || asks_parts count second) (name_request name cut (asks_parts count second)) Usage)
