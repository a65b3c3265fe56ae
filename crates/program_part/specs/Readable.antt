-- Where a part can be read without a test of its place: in bytes that are as long as their parts need, below their number.
use Rattle.std.specs.Prelude.{ℕ, ◌<◌, ◌≤◌, List, length}
use Rattle.meaning.specs.declared.Form.{Form}
use Rattle.meaning.specs.Sizes.{length_of}
use Rattle.meaning.specs.Program.{parts, variables, clocks}
use Rattle.program_part.specs.declared.layout.Sizes.{Sizes}

pub record Readable (form : Form) (s : List ℕ) (p : ℕ) : Type 0 where
  pub long : length_of form (parts s) ≤ length s
  pub there : p < parts s

abbrev pub sizes_in : List ℕ → Sizes
sizes_in s = record { parts = parts s; variables = variables s; clocks = clocks s }
