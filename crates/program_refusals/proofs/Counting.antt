-- Counting decides one tree: entries fill as many places as they form trees.
use Prim.Native.Nat.{ℕ, suc, ◌+◌, ◌-◌}
use native.Mathlib.Omega.{arith}
use mathlib.Core.Path.{◌≡◌, refl, sym, ap, ◌∙◌}
use mathlib.Core.Bool.{Bool, true, false, not, false≢true, and-eq-true_iff}
use mathlib.Core.Option.{Option, none, some, none-ne-some}
use mathlib.Core.List.{List, [], ◌∷◌}
use lib.Dec.{eqb}
use lib.ListN.{length, length-append}
use borrow.Author.Tests.{eqb-true, eqb-false, ne_eqb, not-true}
use Rattle.base.specs.Lists.{all}
use Rattle.base.proofs.Lists.{and_left, and_right}
use Rattle.meaning.specs.declared.Entry.{Entry}
use Rattle.meaning.specs.declared.Form.{Form}
use Rattle.meaning.specs.declared.kinds.Kind.{Kind}
use Rattle.meaning.specs.declared.kinds.Kind.TheVariants.{Unknown as UNKNOWN, Goal as GOAL, Start as START, Wait as WAIT, Seq as SEQ, Par as PAR, Maintain as MAINTAIN, Choice as CHOICE, Repeat as REPEAT}
use Rattle.meaning.specs.Kinds.{kind_of, known, operand_allowed}
use Rattle.meaning.specs.Tree.{Part, children}
use Rattle.meaning.specs.Program.{entries, entry_known, entry_allowed, arity_of, take_children, follow, trees, single, tree_of, is_tree}
use Rattle.meaning.proofs.Parsing.{Placed, placed, makes}
use Rattle.program_refusals.specs.Counting.{fills}

-- A part that is placed takes its children's places and gives its own
placed_length : (e : Entry) (ps qs : List Part) → Placed e ps qs → length qs + arity_of e ≡ suc (length ps)
placed_length e ps qs w = omega (arith, ap length w.result, ap length w.inner ∙ length-append (children w.part) w.later, w.arity_is)

-- The entries form n trees
abbrev Forms : List Entry → ℕ → Type 0
Forms es n = (ps : List Part) × (trees es ≡ some ps) × (length ps ≡ n)

form_more : (v k : ℕ) (e : Entry) (es : List Entry) (remaining : ℕ) → entry_known e ≡ true → entry_allowed v k e ≡ true → (remaining ≡ 0 → ⊥) → Forms es (remaining - 1 + arity_of e) → Forms (e ∷ es) remaining
unfolding trees
form_more v k e es remaining known allowed some-remaining w =
    let q : (qs : List Part) × (take_children e w.0 ≡ some qs) = makes e v k w.0 known allowed (omega arith) in
    (q.0, rw w.1 q.1, omega (arith, placed_length e w.0 q.0 (placed e w.0 q.0 q.1)))

all_cons : (f : Entry → Bool) (e : Entry) (es : List Entry) → all f (e ∷ es) ≡ true → (f e ≡ true) × (all f es ≡ true)
all_cons f e es h = (and-eq-true_iff (f e) (all f es)).0 h

fills_cons : (e : Entry) (es : List Entry) (remaining : ℕ) → fills (e ∷ es) remaining ≡ true → (remaining ≡ 0 → ⊥) × (fills es (remaining - 1 + arity_of e) ≡ true)
unfolding fills
fills_cons e es remaining f =
    let both = (and-eq-true_iff (not (eqb remaining 0)) (fills es (remaining - 1 + arity_of e))).0 f in
    (eqb-false remaining 0 (not-true (eqb remaining 0) both.0), both.1)

pub fills_trees : (v k : ℕ) (es : List Entry) (remaining : ℕ) → all entry_known es ≡ true → all (entry_allowed v k) es ≡ true → fills es remaining ≡ true → Forms es remaining
unfolding fills trees
fills_trees v k [] remaining known allowed f = ([], refl, sym (eqb-true remaining 0 f))
fills_trees v k (e ∷ es) remaining known allowed f =
    let n = all_cons entry_known e es known in
    let a = all_cons (entry_allowed v k) e es allowed in
    let d = fills_cons e es remaining f in
    form_more v k e es remaining n.0 a.0 d.0 (fills_trees v k es (remaining - 1 + arity_of e) n.1 a.1 d.1)

fills_more : (e : Entry) (es : List Entry) (ps qs : List Part) → fills es (length qs) ≡ true → Placed e qs ps → fills (e ∷ es) (length ps) ≡ true
unfolding fills
fills_more e es ps qs f w =
    let l : length ps + arity_of e ≡ suc (length qs) = placed_length e qs ps w in
    let m : length ps - 1 + arity_of e ≡ length qs = omega (arith, ap length w.result) in
    rw (ne_eqb (length ps) 0 (λ z. omega (arith, ap length w.result)), m) f

pub trees_fill : (es : List Entry) (ps : List Part) → trees es ≡ some ps → fills es (length ps) ≡ true
unfolding fills trees
trees_fill [] ps t = let n : ps ≡ [] = cc in rw n
trees_fill (e ∷ es) ps t = go (trees es) (λ qs q. trees_fill es qs q) refl t
  where
    go : (m : Option (List Part)) → ((qs : List Part) → trees es ≡ some qs → fills es (length qs) ≡ true) → trees es ≡ m → follow (take_children e) m ≡ some ps → fills (e ∷ es) (length ps) ≡ true
    go none ih q h = absurd (none-ne-some ps h)
    go (some qs) ih q h = fills_more e es ps qs (ih qs q) (placed e qs ps h)

-- Exactly one tree: a list of one
single_one : (ps : List Part) → length ps ≡ 1 → is_tree (single ps) ≡ true
single_one [] l = absurd (omega arith)
single_one (p ∷ []) l = refl
single_one (p ∷ q ∷ ps) l = absurd (omega arith)

single_other : (m : Option (List Part)) → ((ps : List Part) → m ≡ some ps → length ps ≡ 1 → ⊥) → is_tree (follow single m) ≡ false
single_other none h = refl
single_other (some []) h = refl
single_other (some (p ∷ [])) h = absurd (h (p ∷ []) refl refl)
single_other (some (p ∷ q ∷ ps)) h = refl

pub one_tree : (v k : ℕ) (form : Form) (s : List ℕ) → all entry_known (entries form s) ≡ true → all (entry_allowed v k) (entries form s) ≡ true → is_tree (tree_of form s) ≡ fills (entries form s) 1
unfolding tree_of
one_tree v k form s known allowed = go (fills (entries form s) 1) refl
  where
    go : (b : Bool) → fills (entries form s) 1 ≡ b → is_tree (follow single (trees (entries form s))) ≡ b
    go true f = let w = fills_trees v k (entries form s) 1 known allowed f in rw w.1 (single_one w.0 w.2)
    go false f = single_other (trees (entries form s)) (λ ps t l. false≢true (sym f ∙ (rw l at (trees_fill (entries form s) ps t))))

-- an operand that is allowed is that of a kind that is known
allowed_known : (v k : ℕ) (e : Entry) → entry_allowed v k e ≡ true → entry_known e ≡ true
unfolding entry_allowed entry_known operand_allowed known
allowed_known v k e h = go (kind_of e.kind) h
  where
    go : (x : Kind) → operand_allowed v k x e.operand ≡ true → known x ≡ true
    go UNKNOWN f = f
    go GOAL f = refl
    go START f = refl
    go WAIT f = refl
    go SEQ f = refl
    go PAR f = refl
    go MAINTAIN f = refl
    go CHOICE f = refl
    go REPEAT f = refl

pub all_known_lem : (v k : ℕ) (es : List Entry) → all (entry_allowed v k) es ≡ true → all entry_known es ≡ true
all_known_lem v k [] h = refl
all_known_lem v k (e ∷ es) h =
    rw (allowed_known v k e (and_left (entry_allowed v k e) (all (entry_allowed v k) es) h), all_known_lem v k es (and_right (entry_allowed v k e) (all (entry_allowed v k) es) h))
