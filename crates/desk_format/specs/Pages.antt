-- What it is to write a text on a page.
use Rattle.std.specs.Prelude.{ℕ, ◌+◌, ◌-◌, ◌^◌, ◌≤◌, ◌≡◌, min, List, length}
use Rattle.std.proofs.lemmas.List.Edits.{sets}
use Rattle.desk_format.specs.declared.page.Page.{Page}

-- the largest length: it does not grow any more
abbrev pub max_length : ℕ
max_length = 2 ^ 64 - 1

-- `text` stands after what the old page had, as far as the page goes, and is counted. The page is the same buffer, and no longer than the largest
-- length
pub record Adds (text : List ℕ) (old new : Page) : Type 0 where
  pub same_page : new.out.ghost_name ≡ old.out.ghost_name
  pub fits : length old.out.now ≤ max_length
  pub bytes : new.out.now ≡ sets old.out.now old.length text
  pub after : min new.length max_length ≡ min (old.length + length text) max_length
