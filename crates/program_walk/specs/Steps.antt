-- The steps of the walk that reads a file: down into a part, and up out of it (document 02, R-3: "Keep the current depth while walking down and up").
use Rattle.std.specs.Prelude.{ℕ, zero, suc, ◌+◌, ◌-◌, ◌≡◌, Bool, true, false, cond, Option, None, Some, List, [], ◌∷◌, ◌++◌, map, eqb, ltb, drop}
use Rattle.base.specs.Lists.{sum, concat, tabulate, flag}
use Rattle.meaning.specs.declared.Operand.{Operand}
use Rattle.meaning.specs.declared.Form.TheVariants.{File}
use Rattle.meaning.specs.Sizes.{max_depth}
use Rattle.meaning.specs.declared.kinds.Kind.{Kind}
use Rattle.meaning.specs.Tree.{Part, fold}
use Rattle.meaning.specs.Program.{parts, variables, clocks, entry_at}
use Rattle.meaning.specs.Table.{end_at}
use Rattle.program_part.specs.Children.{children_of}
use Rattle.program_walk.specs.declared.walk.Way.{Way}
use Rattle.program_walk.specs.declared.walk.Way.TheVariants.{Down, Up, Through}
use Rattle.program_walk.specs.Walk.{Long, any_end, part_end, parts_end}

-- A step: whether it goes down, into or out of which part, and the depth that is kept at that part
pub record Step : Type 0 where
  pub goes_down : Bool
  pub part : ℕ
  pub kept : ℕ

abbrev pub down : ℕ → ℕ → Step
down p d = record { goes_down = true; part = p; kept = d }

abbrev pub up : ℕ → ℕ → Step
up p d = record { goes_down = false; part = p; kept = d }

-- A walk over a tree: how many parts it goes over, and its steps, once its first part's number and depth are known
pub record Tour : Type 0 where
  pub parts : ℕ
  pub steps : ℕ → ℕ → List Step

abbrev pub tour_parts : Tour → ℕ
tour_parts t = t.parts

-- over parts one after the other, from number q on, at one depth
abbrev pub each_steps : ℕ → ℕ → List Tour → List Step
each_steps q d [] = []
each_steps q d (t ∷ ts) = t.steps q d ++ each_steps (q + t.parts) d ts

-- down into the part, over its children one deeper, and up out of it
abbrev pub tour_of : Kind → Operand → List Tour → Tour
tour_of k o ts = record { parts = suc (sum (map tour_parts ts)); steps = λ p d. down p d ∷ (each_steps (suc p) (suc d) ts ++ (up p d ∷ [])) }

unfoldable pub tour : Part → Tour
tour t = fold tour_of t

-- the root is part 0, and has depth 1
abbrev pub tree_steps : Part → List Step
tree_steps t = (tour t).steps 0 1

-- "the number of parts it stands in", for each part of a tree in order: the root stands in none, and a part inside a child in one more than it does there
unfoldable pub around : Part → List ℕ
around t = fold (λ k o ns. 0 ∷ map suc (concat ns)) t

-- The same by a table's ends: part p stands in each q with q < p < end of q
unfoldable pub around_by : List ℕ → ℕ → ℕ
around_by t p = sum (tabulate (λ q. flag (ltb p (end_at t q))) 0 p)

-- "reading a file shall not count each part's depth anew from the root": the walk over a file goes into a child at one more than the depth that it keeps.
-- It stops where no part is, in a part that is not allowed, and in one whose children would stand too deep: no end is found then, and no further step taken
abbrev pub if_ended : ℕ → List Step → List Step
if_ended e ms = cond (eqb e 0) [] ms

-- what a file says of the children of part p
abbrev pub children_at : List ℕ → ℕ → Option ℕ
children_at s p = children_of (variables s) (clocks s) (entry_at File s p)

-- over children that stand from q on
abbrev pub inside_steps : (ℕ → ℕ → List Step) → Option ℕ → ℕ → List Step
inside_steps inside None q = []
inside_steps inside (Some n) q = cond (eqb n 0) [] (inside n q)

-- over part p at depth d, which ends at e
unfoldable pub part_steps : List ℕ → (ℕ → ℕ → List Step) → ℕ → ℕ → ℕ → List Step
part_steps s inside d p e = cond (ltb p (parts s)) (down p d ∷ (inside_steps inside (children_at s p) (suc p) ++ if_ended e (up p d ∷ []))) []

-- over parts that stand one after the other
unfoldable pub along_steps : (ℕ → ℕ) → (ℕ → ℕ → List Step) → ℕ → ℕ → List Step
along_steps end over zero q = []
along_steps end over (suc count) q = over q (end q) ++ if_ended (end q) (along_steps end over count (end q))

-- over so many parts from q on, at depth d, with so many levels left
unfoldable pub parts_steps : List ℕ → ℕ → ℕ → ℕ → ℕ → List Step
parts_steps s zero d count q = []
parts_steps s (suc levels) d count q = along_steps (part_end File s any_end (parts_end File s any_end levels)) (part_steps s (parts_steps s levels (suc d)) d) count q

-- from the root on: "at most 2 × N steps, down and up together" (the law `walk_bounded`), and with the depth "kept at each part" (`depth_kept`, `depth_by_ends`)
unfoldable pub walk_steps : List ℕ → List Step
walk_steps s = parts_steps s max_depth 1 1 0

-- After k steps of the walk these come next: the contracts of the code that walks say so of every step that it takes
pub record Next (s : List ℕ) (k : ℕ) (ms : List Step) : Type 0 where
  pub later : List Step
  pub is : drop k (walk_steps s) ≡ ms ++ later

-- down into a part, up out of it, or both where it has no children
abbrev pub taking : Way → ℕ → ℕ → List Step
taking Down p d = down p d ∷ []
taking Up p d = up p d ∷ []
taking Through p d = down p d ∷ up p d ∷ []

-- over so many parts from p on, the children of a part at depth `outer`, or the root, where it is 0
abbrev pub row_steps : List ℕ → ℕ → ℕ → ℕ → List Step
row_steps s outer count p = parts_steps s (max_depth - outer) (suc outer) count p

-- the walk begins at the root of a file
pub record AtRoot (s : List ℕ) (p : ℕ) : Type 0 where
  pub long : Long s
  pub root : p ≡ 0
