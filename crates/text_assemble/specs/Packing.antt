-- The program file that is made of parts in a buffer.
use Rattle.std.specs.Prelude.{ℕ, ◌+◌, ◌*◌, ◌≡◌, cond, List, ◌++◌, eqb, leb, length, get_or}
use Rattle.std.proofs.lemmas.List.Edits.{sets}
use Rattle.base.specs.Lists.{tabulate}
use Rattle.meaning.specs.declared.Entry.{Entry}
use Rattle.meaning.specs.declared.Form.TheVariants.{File}
use Rattle.meaning.specs.Sizes.{kind_length}
use Rattle.meaning.specs.Program.{operand_at, size_bytes, arrays, program_refusal}
use Rattle.meaning.specs.Answers.{buffer_too_short}
use Rattle.text_parts.specs.Stored.{part_length}

-- the entry of part p in the buffer, and those of the first n parts
abbrev pub packed_entry : List ℕ → ℕ → Entry
packed_entry b p = record { kind = get_or b (part_length * p) 0; operand = operand_at b (part_length * p + kind_length) }

unfoldable pub packed_entries : List ℕ → ℕ → List Entry
packed_entries b n = tabulate (packed_entry b) 0 n

unfoldable pub packed_file : List ℕ → ℕ → ℕ → ℕ → List ℕ
packed_file b n v k = size_bytes n v k ++ arrays (packed_entries b n)

-- the refusal of writing that file: its own, then 8
unfoldable pub packed_refusal : List ℕ → ℕ → ℕ
packed_refusal f room = cond (eqb (program_refusal File f) 0) (cond (leb (length f) room) 0 buffer_too_short) (program_refusal File f)

-- Writing a file f, or refusing to
pub record Written (f out : List ℕ) (answer : ℕ) (out' : List ℕ) : Type 0 where
  pub answer_is : answer ≡ packed_refusal f (length out)
  pub buffer_is : out' ≡ cond (eqb (packed_refusal f (length out)) 0) (sets out 0 f) out
