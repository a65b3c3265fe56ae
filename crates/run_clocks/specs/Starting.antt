-- What the code makes of a record on the way: a clock is started, a part starts its clock, and so do all parts.
use Rattle.std.specs.Prelude.{ℕ, zero, suc, ◌+◌, ◌*◌, cond, ◌&&◌, List, get_or, set}
use Rattle.std.proofs.lemmas.List.Edits.{sets}
use Rattle.base.specs.Lists.{flat}
use Rattle.meaning.specs.declared.Form.TheVariants.{Table}
use Rattle.meaning.specs.Sizes.{time_width, little_endian}
use Rattle.meaning.specs.declared.kinds.Kind.TheVariants.{Start as START}
use Rattle.meaning.specs.Program.{entry_at}
use Rattle.meaning.specs.Table.{operand_of}
use Rattle.meaning.specs.Record.{started_place, starts_place, marks_place, is_mark, started_flag}
use Rattle.meaning.specs.Cycle.{is_kind, settled_flags, settled_starts}

-- clock c is started at a time
unfoldable pub clock_started : ℕ → ℕ → List ℕ → List ℕ
clock_started c time r = sets (set r (started_place + c) started_flag) (starts_place + time_width * c) (little_endian time_width time)

-- the clock of part p, where p is a marked START
unfoldable pub part_started : List ℕ → ℕ → ℕ → List ℕ → List ℕ
part_started t time p r = cond (is_mark (get_or r (marks_place + p) 0) && is_kind START (entry_at Table t p)) (clock_started (operand_of t p).b1 time r) r

-- the clocks of n parts from p on
unfoldable pub parts_started : List ℕ → ℕ → ℕ → ℕ → List ℕ → List ℕ
parts_started t time p zero r = r
parts_started t time p (suc n) r = parts_started t time (suc p) n (part_started t time p r)

-- the record with the flags and the starts that a settling leaves
abbrev pub clocks_settled : List ℕ → List ℕ → List ℕ
clocks_settled t r = sets (sets r started_place (settled_flags t r)) starts_place (flat (little_endian time_width) (settled_starts t r))
