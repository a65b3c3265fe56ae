-- The numbers of the papers that stand for a limit, a width, no part or an unknown variable. They stand here alone.
use Rattle.std.specs.Prelude.{ℕ, zero, suc, ◌+◌, ◌-◌, ◌*◌, ◌/◌, ◌%◌, ◌^◌, List, [], ◌∷◌, get_or}
pub use Rattle.base.specs.Lists.{bytes_at}
use Rattle.meaning.specs.declared.Form.{Form}
use Rattle.meaning.specs.declared.Form.TheVariants.{File, Table}

-- "N parts (1 to 200), V variables (1 to 32), K clocks (0 to 16)"; the deepest part allowed has depth 16
abbrev pub max_parts : ℕ
max_parts = 200

abbrev pub max_variables : ℕ
max_variables = 32

abbrev pub max_clocks : ℕ
max_clocks = 16

abbrev pub max_depth : ℕ
max_depth = 16

-- the largest value that a variable has, and that a goal or a condition over a variable names
abbrev pub max_value : ℕ
max_value = 250

-- "Estimate byte 255 now means that the variable is unknown" (document 02, R-4)
abbrev pub unknown_value : ℕ
unknown_value = 255

-- How many values a byte has
abbrev pub byte_values : ℕ
byte_values = 256

-- How many bytes hold a number of parts or a part's number; such numbers are below `number_limit`
abbrev pub number_width : ℕ
number_width = 1

abbrev pub number_limit : ℕ
number_limit = byte_values ^ number_width

-- "255 stands for no parent or no next": the largest number of that width
abbrev pub no_part : ℕ
no_part = number_limit - 1

-- The three sizes: a number of parts, and a byte each for the numbers of variables and of clocks
abbrev pub header_length : ℕ
header_length = number_width + 2

-- A kind, an operand, and a row: kind, end, parent, next, operand
abbrev pub kind_length : ℕ
kind_length = 1

abbrev pub operand_length : ℕ
operand_length = 4

abbrev pub links_length : ℕ
links_length = 3 * number_width

abbrev pub row_length : ℕ
row_length = kind_length + links_length + operand_length

-- Where a part's end, parent and next stand in its row
abbrev pub end_place : ℕ
end_place = kind_length

abbrev pub parent_place : ℕ
parent_place = end_place + number_width

abbrev pub next_place : ℕ
next_place = parent_place + number_width

-- Length 3 + 5 × N for a file, 3 + 8 × N for a table
abbrev pub length_of : Form → ℕ → ℕ
length_of File n = header_length + (kind_length + operand_length) * n
length_of Table n = header_length + row_length * n

-- Where part p's kind byte stands, and the first byte of its operand
abbrev pub kind_place : Form → ℕ → ℕ → ℕ
kind_place File n p = header_length + p
kind_place Table n p = header_length + row_length * p

abbrev pub operand_place : Form → ℕ → ℕ → ℕ
operand_place File n p = header_length + n + operand_length * p
operand_place Table n p = header_length + row_length * p + (kind_length + links_length)

-- "Numbers of several bytes have their low byte first"
abbrev pub little_endian : ℕ → ℕ → List ℕ
little_endian zero x = []
little_endian (suc w) x = (x % byte_values) ∷ little_endian w (x / byte_values)

abbrev pub little_endian_value : ℕ → List ℕ → ℕ
little_endian_value b [] = b
little_endian_value b (c ∷ cs) = b + byte_values * little_endian_value c cs

-- "Times are whole seconds of 32 bits", below `time_limit`
abbrev pub time_width : ℕ
time_width = 4

abbrev pub time_limit : ℕ
time_limit = byte_values ^ time_width

-- A part's number as bytes, and the number that stands at place i of s
abbrev pub number_bytes : ℕ → List ℕ
number_bytes x = little_endian number_width x

abbrev pub number_at : List ℕ → ℕ → ℕ
number_at s i = little_endian_value (get_or s i 0) (bytes_at s (suc i) (number_width - 1))
