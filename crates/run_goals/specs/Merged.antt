-- Goal bytes made by one pass over the marked leaves, as the code makes them.
use Rattle.std.specs.Prelude.{ℕ, cond, ◌&&◌, List, [], ◌∷◌, eqb, get_or, set}
use Rattle.meaning.specs.declared.Operand.{Operand}
use Rattle.meaning.specs.declared.Entry.{Entry}
use Rattle.meaning.specs.declared.Form.TheVariants.{Table}
use Rattle.meaning.specs.declared.kinds.Kind.TheVariants.{Goal as GOAL}
use Rattle.meaning.specs.Kinds.{value}
use Rattle.meaning.specs.Program.{entry_at}
use Rattle.meaning.specs.Record.{is_mark}
use Rattle.meaning.specs.Cycle.{no_goal, contested, is_kind, is_leaf}

-- goal byte b merged with the value x of one more GOAL
unfoldable pub merged_byte : ℕ → ℕ → ℕ
merged_byte b x = cond (eqb b no_goal) x (cond (eqb b x) b contested)

-- the goal bytes with one more value, that of a GOAL's operand
unfoldable pub goal_merged : List ℕ → Operand → List ℕ
goal_merged g o = set g o.b1 (merged_byte (get_or g o.b1 0) (value o))

-- the goal bytes with the values of all GOALs among the entries
unfoldable pub goals_merged : List ℕ → List Entry → List ℕ
goals_merged g [] = g
goals_merged g (e ∷ es) = goals_merged (cond (is_kind GOAL e) (goal_merged g e.operand) g) es

-- part p among the marked leaves, marked m
unfoldable pub leaf_at : List ℕ → ℕ → ℕ → List Entry
leaf_at t p m = cond (is_mark m && is_leaf (entry_at Table t p)) (entry_at Table t p ∷ []) []
