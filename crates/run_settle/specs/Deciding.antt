-- Refusal 15, decided in one pass over the marks. The pass keeps one number, `pending`: the end of the last marked
-- CHOICE while no marked part has come after it, and none otherwise.
use Rattle.std.specs.Prelude.{ℕ, ◌-◌, Bool, true, false, cond, not, ◌&&◌, ◌||◌, List, leb, take, Option, None, Some}
use Rattle.base.specs.Lists.{any}
use Rattle.meaning.specs.declared.Form.TheVariants.{Table}
use Rattle.meaning.specs.declared.kinds.Kind.{Kind}
use Rattle.meaning.specs.declared.kinds.Kind.TheVariants.{Unknown as UNKNOWN, Goal as GOAL, Start as START, Wait as WAIT, Seq as SEQ, Par as PAR, Maintain as MAINTAIN, Choice as CHOICE, Repeat as REPEAT}
use Rattle.meaning.specs.Program.{entry_at}
use Rattle.meaning.specs.Table.{end_at}
use Rattle.meaning.specs.Record.{is_mark}
use Rattle.meaning.specs.Cycle.{is_kind, is_leaf, works_from}

-- "Kinds 1 to 3 are the leaves"
unfoldable pub leaf : Kind → Bool
leaf UNKNOWN = false
leaf GOAL = true
leaf START = true
leaf WAIT = true
leaf SEQ = false
leaf PAR = false
leaf MAINTAIN = false
leaf CHOICE = false
leaf REPEAT = false

-- what is kept after part p, marked m
unfoldable pub pending_after : List ℕ → ℕ → ℕ → Option ℕ → Option ℕ
pending_after t p m pending = cond (is_mark m) (cond (is_kind CHOICE (entry_at Table t p)) (Some (end_at t p)) None) pending

-- part p comes after the end of the pending CHOICE
abbrev pub passed : Option ℕ → ℕ → Bool
passed None p = false
passed (Some end) p = leb end p

-- part p is marked, and is a leaf or comes after the end of the pending CHOICE, in which then nothing is marked
unfoldable pub shows : List ℕ → ℕ → ℕ → Option ℕ → Bool
shows t p m pending = is_mark m && (is_leaf (entry_at Table t p) || passed pending p)

-- the pending CHOICE is deciding: none of the marks from part p on is set before its end
abbrev pub deciding : Option ℕ → ℕ → List ℕ → Bool
deciding None p ms = false
deciding (Some end) p ms = not (any is_mark (take (end - p) ms))

-- whether the pending CHOICE is deciding, or a leaf or a deciding CHOICE is marked from part p on
unfoldable pub works_with : List ℕ → Option ℕ → ℕ → List ℕ → Bool
works_with t pending p ms = deciding pending p ms || works_from t p ms
