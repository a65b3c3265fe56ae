-- Program file: what it holds, and which byte lists are one (refusals 1 to 7).
use Rattle.std.specs.Prelude.{ℕ, ◌+◌, ◌≤◌, ◌≡◌, Bool, true, false, cond, ◌&&◌, List, [], ◌∷◌, ◌++◌, eqb, leb, length, get_or, take, drop}
use Rattle.std.proofs.Math.Option.{Option, none, some, map}
use Rattle.base.specs.Lists.{all, concat, flat, tabulate, first_failing}
use Rattle.meaning.specs.declared.Operand.{Operand}
use Rattle.meaning.specs.declared.Entry.{Entry}
use Rattle.meaning.specs.declared.Form.{Form}
use Rattle.meaning.specs.Sizes.{max_parts, max_variables, max_clocks, max_depth, number_width, header_length, length_of, kind_place, operand_place, number_bytes, number_at}
use Rattle.meaning.specs.declared.kinds.Kind.{Kind}
use Rattle.meaning.specs.declared.kinds.Kind.TheVariants.{Unknown as UNKNOWN, Goal as GOAL, Start as START, Wait as WAIT, Seq as SEQ, Par as PAR, Maintain as MAINTAIN, Choice as CHOICE, Repeat as REPEAT}
use Rattle.meaning.specs.Kinds.{kind_of, number_of, known, arity, operand_allowed}
use Rattle.meaning.specs.Tree.{Part, Parts, goal, start, wait, seq, par, maintain, choice, repeat, one, more, fold, depth, size}
use Rattle.meaning.specs.Answers.{file_too_short, size_out_of_range, wrong_length, unknown_kind, operand_not_allowed, not_one_tree, too_deep}

-- "Sizes first: N parts, V variables, K clocks"
abbrev pub parts : List ℕ → ℕ
parts s = number_at s 0

abbrev pub variables : List ℕ → ℕ
variables s = get_or s number_width 0

abbrev pub clocks : List ℕ → ℕ
clocks s = get_or s (number_width + 1) 0

abbrev pub size_bytes : ℕ → ℕ → ℕ → List ℕ
size_bytes n v k = number_bytes n ++ (v ∷ k ∷ [])

abbrev pub sizes_in_range : ℕ → ℕ → ℕ → Bool
sizes_in_range n v k = leb 1 n && (leb n max_parts && (leb 1 v && (leb v max_variables && leb k max_clocks)))

unfoldable pub sizes_allowed : List ℕ → Bool
sizes_allowed s = sizes_in_range (parts s) (variables s) (clocks s)

-- What the arrays hold of one part: its kind byte and its operand
abbrev pub operand_at : List ℕ → ℕ → Operand
operand_at s i = record { b0 = get_or s i 0; b1 = get_or s (i + 1) 0; b2 = get_or s (i + 2) 0; b3 = get_or s (i + 3) 0 }

abbrev pub entry_at : Form → List ℕ → ℕ → Entry
entry_at form s p = record { kind = get_or s (kind_place form (parts s) p) 0; operand = operand_at s (operand_place form (parts s) p) }

-- "Parts stand in preorder, numbered from 0"
unfoldable pub entries : Form → List ℕ → List Entry
entries form s = tabulate (entry_at form s) 0 (parts s)

unfoldable pub preorder : Part → List Entry
preorder p = fold (λ k o es. record { kind = number_of k; operand = o } ∷ concat es) p

unfoldable pub entry_known : Entry → Bool
entry_known e = known (kind_of e.kind)

unfoldable pub entry_allowed : ℕ → ℕ → Entry → Bool
entry_allowed v k e = operand_allowed v k (kind_of e.kind) e.operand

unfoldable pub arity_of : Entry → ℕ
arity_of e = arity (kind_of e.kind) e.operand

-- What a part takes for children: none, one, two, or at least one
abbrev pub of_none : Part → List Part → Option Part
of_none part [] = some part
of_none part (p ∷ ps) = none

abbrev pub of_one : (Part → Part) → List Part → Option Part
of_one part [] = none
of_one part (p ∷ []) = some (part p)
of_one part (p ∷ q ∷ ps) = none

abbrev pub of_two : (Part → Part → Part) → List Part → Option Part
of_two part [] = none
of_two part (p ∷ []) = none
of_two part (p ∷ q ∷ []) = some (part p q)
of_two part (p ∷ q ∷ r ∷ ps) = none

abbrev pub group : Part → List Part → Parts
group p [] = one p
group p (q ∷ ps) = more p (group q ps)

abbrev pub of_some : (Parts → Part) → List Part → Option Part
of_some part [] = none
of_some part (p ∷ ps) = some (part (group p ps))

-- A part of a kind with an operand and children, where the kind takes so many
unfoldable pub make_part : Kind → Operand → List Part → Option Part
make_part UNKNOWN o ps = none
make_part GOAL o ps = of_none (goal o) ps
make_part START o ps = of_none (start o) ps
make_part WAIT o ps = of_none (wait o) ps
make_part SEQ o ps = of_some seq ps
make_part PAR o ps = of_some par ps
make_part MAINTAIN o ps = of_one (maintain o) ps
make_part CHOICE o ps = of_two (choice o) ps
make_part REPEAT o ps = of_one repeat ps

-- A part stands before the parts that follow it, of which the first are its children; none where there are too few
unfoldable pub take_children : Entry → List Part → Option (List Part)
take_children e ps =
    cond (leb (arity_of e) (length ps))
    (map (λ p. p ∷ drop (arity_of e) ps) (make_part (kind_of e.kind) e.operand (take (arity_of e) ps)))
    none

abbrev pub follow : {A B : Type 0} → (A → Option B) → Option A → Option B
follow f none = none
follow f (some a) = f a

-- The trees that the entries form, one after the other
unfoldable pub trees : List Entry → Option (List Part)
trees [] = some []
trees (e ∷ es) = follow (take_children e) (trees es)

-- "exactly one tree"
abbrev pub single : List Part → Option Part
single [] = none
single (p ∷ []) = some p
single (p ∷ q ∷ ps) = none

unfoldable pub tree_of : Form → List ℕ → Option Part
tree_of form s = follow single (trees (entries form s))

abbrev pub is_tree : Option Part → Bool
is_tree none = false
is_tree (some p) = true

abbrev pub depth_allowed : Option Part → Bool
depth_allowed none = true
depth_allowed (some p) = leb (depth p) max_depth

-- Refusals 1 to 7, "each over all parts", in order: each number with the test that must pass
abbrev pub part_tests : Form → List ℕ → List (ℕ × Bool)
part_tests form s =
    (unknown_kind, all entry_known (entries form s))
    ∷ (operand_not_allowed, all (entry_allowed (variables s) (clocks s)) (entries form s))
    ∷ (not_one_tree, is_tree (tree_of form s))
    ∷ (too_deep, depth_allowed (tree_of form s))
    ∷ []

abbrev pub program_tests : Form → List ℕ → List (ℕ × Bool)
program_tests form s =
    (file_too_short, leb header_length (length s))
    ∷ (size_out_of_range, sizes_allowed s)
    ∷ (wrong_length, eqb (length s) (length_of form (parts s)))
    ∷ part_tests form s

-- the refusal of bytes that are to hold a program, 0 where they do
unfoldable pub program_refusal : Form → List ℕ → ℕ
program_refusal form s = first_failing (program_tests form s)

-- A tree within the limits, for V variables and K clocks
pub record Within (v k : ℕ) (p : Part) : Type 0 where
  pub one_variable : 1 ≤ v
  pub variables_fit : v ≤ max_variables
  pub clocks_fit : k ≤ max_clocks
  pub size_fits : size p ≤ max_parts
  pub depth_fits : depth p ≤ max_depth
  pub entries_allowed : all (entry_allowed v k) (preorder p) ≡ true

-- The file of a tree with V variables and K clocks: "two parallel arrays: N kind bytes, then N operands"
abbrev pub kind_byte : Entry → List ℕ
kind_byte e = e.kind ∷ []

abbrev pub operand_bytes : Operand → List ℕ
operand_bytes o = o.b0 ∷ o.b1 ∷ o.b2 ∷ o.b3 ∷ []

abbrev pub entry_operand : Entry → List ℕ
entry_operand e = operand_bytes e.operand

abbrev pub arrays : List Entry → List ℕ
arrays es = flat kind_byte es ++ flat entry_operand es

unfoldable pub file_of : ℕ → ℕ → Part → List ℕ
file_of v k p = size_bytes (size p) v k ++ arrays (preorder p)
