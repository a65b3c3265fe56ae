-- The lowest marked part. A pass from the last part down keeps its number, so that it need not look into a part to see whether something inside it is marked.
use Rattle.std.specs.Prelude.{ℕ, suc, cond, List, [], ◌∷◌}
use Rattle.meaning.specs.Record.{is_mark}

-- the lowest marked part, by the marks of the parts from p on; one past the last of them where none is marked
unfoldable pub lowest : ℕ → List ℕ → ℕ
lowest p [] = p
lowest p (m ∷ ms) = cond (is_mark m) p (lowest (suc p) ms)
