-- What the walk over the parts of a program finds, in terms of the trees that its entries form.
use Rattle.std.specs.Prelude.{ℕ, zero, suc, ◌≤◌, ◌≡◌, Bool, true, cond, List, [], ◌∷◌, eqb, ltb, length, drop}
use Rattle.std.proofs.Math.Option.{Option, none, some}
use Rattle.meaning.specs.declared.Entry.{Entry}
use Rattle.meaning.specs.declared.Form.{Form}
use Rattle.meaning.specs.declared.Form.TheVariants.{File}
use Rattle.meaning.specs.Sizes.{length_of}
use Rattle.meaning.specs.Tree.{Part, goal, count_operand}
use Rattle.meaning.specs.Program.{parts, variables, clocks, trees, entry_at, entries}
use Rattle.std.specs.Prelude.{Option as StdOption, None, Some}
use Rattle.program_part.specs.Children.{children_of}

-- A tree begins at entry p: the walk is asked of such places alone
pub record TreeAt (es : List Entry) (p : ℕ) : Type 0 where
  pub part : Part
  pub later : List Part
  pub is : trees (drop p es) ≡ some (part ∷ later)

-- a file is as long as its parts need
abbrev pub Long : List ℕ → Type 0
Long s = length_of File (parts s) ≤ length s

-- the same in bytes that are as long as their parts need
pub record Walkable (form : Form) (s : List ℕ) (p : ℕ) : Type 0 where
  pub long : length_of form (parts s) ≤ length s
  pub stands : TreeAt (entries form s) p

-- one tree stands in a file that is as long as its parts need, and nothing else
pub record OneTree (s : List ℕ) : Type 0 where
  pub long : Long s
  pub part : Part
  pub is : trees (entries File s) ≡ some (part ∷ [])

abbrev pub first_of : Option (List Part) → Part
first_of none = goal (count_operand 0)
first_of (some []) = goal (count_operand 0)
first_of (some (p ∷ ps)) = p

-- that tree
unfoldable pub part_at : List Entry → ℕ → Part
part_at es p = first_of (trees (drop p es))

-- The walk. Where parts that stand one after the other end, if each of them ends somewhere; 0 says that it does not
unfoldable pub along : (ℕ → ℕ) → ℕ → ℕ → ℕ
along end zero q = q
along end (suc count) q = cond (eqb (end q) 0) 0 (along end count (end q))

abbrev pub accepted_by : (ℕ → Bool) → ℕ → ℕ
accepted_by test e = cond (test e) e 0

-- part p ends where its children do, or right after itself
abbrev pub end_with : (ℕ → ℕ → ℕ) → StdOption ℕ → ℕ → ℕ
end_with inside None p = 0
end_with inside (Some n) p = cond (eqb n 0) (suc p) (inside n (suc p))

-- where part p ends, if it is allowed and its end passes a test
unfoldable pub part_end : Form → List ℕ → (ℕ → ℕ → Bool) → (ℕ → ℕ → ℕ) → ℕ → ℕ
part_end form s test inside p = cond (ltb p (parts s)) (accepted_by (test p) (end_with inside (children_of (variables s) (clocks s) (entry_at form s p)) p)) 0

-- where so many parts from q on end, if none of them stands in more than the levels that are left
unfoldable pub parts_end : Form → List ℕ → (ℕ → ℕ → Bool) → ℕ → ℕ → ℕ → ℕ
parts_end form s test zero count q = 0
parts_end form s test (suc levels) count q = along (part_end form s test (parts_end form s test levels)) count q

-- a file says nothing of where its parts end
abbrev pub any_end : ℕ → ℕ → Bool
any_end p e = true
