-- What it is to write a text into a buffer, and texts that others are made of.
use Rattle.std.specs.Prelude.{ℕ, ◌+◌, ◌≡◌, List, length}
use Rattle.std.proofs.lemmas.List.Edits.{sets}
use Rattle.base.specs.Lists.{concat, tabulate}

-- `text` stored into l from place i on gives m, and j is the place after it
pub record Written (text l : List ℕ) (i : ℕ) (m : List ℕ) (j : ℕ) : Type 0 where
  pub bytes : m ≡ sets l i text
  pub after : j ≡ i + length text

-- the n texts from number i on, one after the other
unfoldable pub texts_from : (ℕ → List ℕ) → ℕ → ℕ → List ℕ
texts_from f i n = concat (tabulate f i n)
