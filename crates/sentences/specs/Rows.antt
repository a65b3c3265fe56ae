-- The location table that document 01 lays down, by part number.
use Rattle.std.specs.Prelude.{ℕ, ◌≤◌, ◌<◌, ◌≡◌, ◌↔◌, ◌≢◌, true, List, eqb, length}
use Rattle.base.specs.Lists.{sum, tabulate, flag, bytes_at}
use Rattle.meaning.specs.declared.Form.TheVariants.{File, Table}
use Rattle.meaning.specs.Sizes.{no_part, header_length, length_of}
use Rattle.meaning.specs.declared.kinds.Kind.{Kind}
use Rattle.meaning.specs.declared.kinds.Kind.TheVariants.{Seq as SEQ, Repeat as REPEAT}
use Rattle.meaning.specs.Kinds.{arity}
use Rattle.meaning.specs.Program.{parts, entry_at, program_refusal}
use Rattle.meaning.specs.Table.{kind_at, operand_of, end_at, parent_at, next_at, compiled, file_in, is_table}

-- part q is a child of part p: p is its parent. That it stands inside p is said below
pub record ChildOf (t : List ℕ) (p q : ℕ) : Type 0 where
  pub parent_there : p < parts t
  pub child_there : q < parts t
  pub parent_is : parent_at t q ≡ p

-- a part's descendants: its children, and the children of its descendants
pub data Descendant (t : List ℕ) (p : ℕ) : ℕ → Type 0 where
  child : {q : ℕ} → ChildOf t p q → Descendant t p q
  further : {r q : ℕ} → Descendant t p r → ChildOf t r q → Descendant t p q

-- part p is a child of a part of a kind
abbrev pub ChildOfKind : List ℕ → Kind → ℕ → Type 0
ChildOfKind t k p = (q : ℕ) × ChildOf t q p × (kind_at t q ≡ k)

-- part s is the following sibling of part p
pub record Following (t : List ℕ) (p s : ℕ) : Type 0 where
  pub there : s < parts t
  pub after : p < s
  pub sibling : parent_at t s ≡ parent_at t p
  pub none_between : (r : ℕ) → p < r → r < s → parent_at t r ≢ parent_at t p

-- how many children part p has: the parts of which it is the parent
unfoldable pub number_of_children : List ℕ → ℕ → ℕ
number_of_children t p = sum (tabulate (λ q. flag (eqb (parent_at t q) p)) 0 (parts t))

-- "The three sizes, then one 8-byte row per part, same order": what the rows say
pub record LaidDown (t : List ℕ) : Type 0 where
  -- "Length 3 + 8 × N"
  pub length_is : length t ≡ length_of Table (parts t)
  -- the sizes, the kinds and the operands are those of the file
  pub sizes_are : bytes_at t 0 header_length ≡ bytes_at (file_in t) 0 header_length
  pub entries_are : (p : ℕ) → p < parts t → entry_at Table t p ≡ entry_at File (file_in t) p
  -- "end (one past the part's last descendant)": the parts from the one after it up to its end are its descendants, and no other
  pub end_after : (p : ℕ) → p < parts t → p < end_at t p
  pub end_within_lem : (p : ℕ) → p < parts t → end_at t p ≤ parts t
  pub end_is : (p q : ℕ) → p < parts t → Descendant t p q ↔ ((p < q) × (q < end_at t p))
  -- "parent": the part around it, with no other between; "255 stands for no parent or no next"
  pub root_parent : parent_at t 0 ≡ no_part
  pub parent_before : (p : ℕ) → 0 < p → p < parts t → parent_at t p < p
  pub parent_around : (p : ℕ) → 0 < p → p < parts t → Descendant t (parent_at t p) p
  pub parent_nearest : (p r : ℕ) → parent_at t p < r → Descendant t r p → ⊥
  -- "Next is the following sibling for a child of SEQ, and the child itself for a child of REPEAT"
  pub next_sibling : (p s : ℕ) → p < parts t → s < parts t → s ≢ p → (next_at t p ≡ s) ↔ (ChildOfKind t SEQ p × Following t p s)
  pub next_itself : (p : ℕ) → p < parts t → (next_at t p ≡ p) ↔ ChildOfKind t REPEAT p
  pub next_none : (p : ℕ) → p < parts t → (next_at t p ≡ no_part) ↔ ((ChildOfKind t REPEAT p → ⊥) × ((s : ℕ) → ChildOfKind t SEQ p → Following t p s → ⊥))
  -- "Children": SEQ and PAR as many as their count, MAINTAIN and REPEAT one, CHOICE two, the leaves none
  pub children_are : (p : ℕ) → p < parts t → number_of_children t p ≡ arity (kind_at t p) (operand_of t p)

-- Reading gives, of all byte lists that hold a file, the one that is laid down
abbrev pub CompilingLaysDown : Type 0
CompilingLaysDown = (f t : List ℕ) → program_refusal File f ≡ 0 → (compiled File f ≡ t) ↔ ((file_in t ≡ f) × LaidDown t)

-- and the tables are those that hold an accepted file and are laid down
abbrev pub TablesLaidDown : Type 0
TablesLaidDown = (t : List ℕ) → (is_table t ≡ true) ↔ ((program_refusal File (file_in t) ≡ 0) × LaidDown t)
