-- What the code looks at, part by part: the marks inside a part, and the part that it goes on to.
use Rattle.std.specs.Prelude.{ℕ, suc, cond, List, take, drop}
use Rattle.meaning.specs.Table.{end_at, inside_of}
use Rattle.meaning.specs.Record.{is_mark, marks_in}

-- the marks of the parts inside part p
unfoldable pub inner_marks : List ℕ → List ℕ → ℕ → List ℕ
inner_marks t r p = take (inside_of t p) (drop (suc p) (marks_in t r))

-- the part to look at after part p, marked m: where p is not marked, the one after all that is inside it
unfoldable pub part_after : List ℕ → ℕ → ℕ → ℕ
part_after t p m = cond (is_mark m) (suc p) (end_at t p)
