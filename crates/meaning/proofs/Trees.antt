-- Laws of trees: induction over parts, and what each count over a tree is of a part and its children.
use Prim.Native.Nat.{ℕ, suc, ◌+◌}
use native.Mathlib.Omega.{arith}
use mathlib.Core.Path.{◌≡◌, refl, ap, ◌∙◌}
use mathlib.Core.List.{List, [], ◌∷◌, map, map-map}
use lib.ListN.{length}
use Rattle.base.specs.Lists.{sum, largest, concat, flat}
use Rattle.base.proofs.Lists.{length-flat}
use Rattle.meaning.specs.declared.Operand.{Operand}
use Rattle.meaning.specs.declared.Entry.{Entry}
use Rattle.meaning.specs.declared.kinds.Kind.{Kind}
use Rattle.meaning.specs.Kinds.{number_of}
use Rattle.meaning.specs.Tree.{Part, Parts, goal, start, wait, seq, par, maintain, choice, repeat, one, more, list_of, kind, children, operand, fold, fold_all, size, depth}
use Rattle.meaning.specs.Program.{preorder}
use Rattle.meaning.specs.Table.{block_parts, block_of, siblings, block}

-- a property of each part in a list
abbrev pub All : (Part → Type 0) → List Part → Type 0
All P [] = Unit {0}
All P (p ∷ ps) = P p × All P ps

-- what holds of a part wherever it holds of its children holds of every part
module _ (P : Part → Type 0) (step : (p : Part) → All P (children p) → P p) where
  mutual
    pub part_ind : (p : Part) → P p
    part_ind (goal o) = step (goal o) tt
    part_ind (start o) = step (start o) tt
    part_ind (wait o) = step (wait o) tt
    part_ind (seq ps) = step (seq ps) (parts_ind ps)
    part_ind (par ps) = step (par ps) (parts_ind ps)
    part_ind (maintain o p) = step (maintain o p) (part_ind p, tt)
    part_ind (choice o p q) = step (choice o p q) (part_ind p, (part_ind q, tt))
    part_ind (repeat p) = step (repeat p) (part_ind p, tt)

    parts_ind : (ps : Parts) → All P (list_of ps)
    parts_ind (one p) = (part_ind p, tt)
    parts_ind (more p ps) = (part_ind p, parts_ind ps)

module _ {A : Type 0} (f : Kind → Operand → List A → A) where
  fold-all : (ps : Parts) → fold_all f ps ≡ map (fold f) (list_of ps)
  unfolding fold_all fold
  fold-all (one p) = refl
  fold-all (more p ps) = rw (fold-all ps)

  -- what a part comes to, from what its children come to
  pub fold_law : (p : Part) → fold f p ≡ f (kind p) (operand p) (map (fold f) (children p))
  unfolding fold
  fold_law (goal o) = refl
  fold_law (start o) = refl
  fold_law (wait o) = refl
  fold_law (seq ps) = rw (fold-all ps)
  fold_law (par ps) = rw (fold-all ps)
  fold_law (maintain o p) = refl
  fold_law (choice o p q) = refl
  fold_law (repeat p) = refl

-- a part's size is one more than its children's sizes together
pub size_law : (p : Part) → size p ≡ suc (sum (map size (children p)))
unfolding size
size_law p = fold_law (λ k o ns. suc (sum ns)) p

-- a part's depth is one more than its deepest child's
pub depth_law : (p : Part) → depth p ≡ suc (largest (map depth (children p)))
unfolding depth
depth_law p = fold_law (λ k o ns. suc (largest ns)) p

-- what the arrays hold of a part
abbrev pub entry_of : Part → Entry
entry_of p = record { kind = number_of (kind p); operand = operand p }

-- the preorder of a part is its entry, then its children's preorders
pub preorder_law : (p : Part) → preorder p ≡ entry_of p ∷ flat preorder (children p)
unfolding preorder
preorder_law p = fold_law (λ k o es. record { kind = number_of k; operand = o } ∷ concat es) p

-- a part's block, from its children's blocks
pub block_law : (p : Part) → block p ≡ block_of (kind p) (operand p) (map block (children p))
unfolding block
block_law p = fold_law block_of p

-- two functions that agree on each part of a list
pub map-all : {A : Type 0} (f g : Part → A) (ps : List Part) → All (λ p. f p ≡ g p) ps → map f ps ≡ map g ps
map-all f g [] h = refl
map-all f g (p ∷ ps) h = rw (h.0, map-all f g ps h.1)

-- a property that holds of every part holds of each in a list
pub all_of : (P : Part → Type 0) → ((p : Part) → P p) → (ps : List Part) → All P ps
all_of P h [] = tt
all_of P h (p ∷ ps) = (h p, all_of P h ps)

-- a block counts as many parts as its part has
pub block_parts_lem : (p : Part) → (block p).parts ≡ size p
block_parts_lem = part_ind (λ p. (block p).parts ≡ size p) (λ p h. rw (block_law p, size_law p, map-map block_parts block) (rw (map-all (λ q. (block q).parts) size (children p) h)))

-- the rows of a part are its own, then its children's
pub rows_law : (p : Part) (n q x : ℕ)
    → (block p).rows n q x ≡ record { kind = number_of (kind p); end = n + size p; parent = q; next = x; operand = operand p } ∷ siblings (kind p) n (suc n) (map block (children p))
rows_law p n q x = rw (← block_parts_lem p, block_law p)

-- the preorder has an entry per part
pub length_preorder : (p : Part) → length (preorder p) ≡ size p
length_preorder = part_ind (λ p. length (preorder p) ≡ size p) (λ p h. rw (preorder_law p, size_law p, length-flat preorder) (rw (map-all (λ q. length (preorder q)) size (children p) h)))

-- how many parts stand in parts one after the other
abbrev pub sizes : Parts → ℕ
sizes (one p) = size p
sizes (more p ps) = size p + sizes ps

-- how many parts stand inside a part
abbrev pub inner : Part → ℕ
inner (goal o) = 0
inner (start o) = 0
inner (wait o) = 0
inner (seq ps) = sizes ps
inner (par ps) = sizes ps
inner (maintain o p) = size p
inner (choice o p q) = size p + size q
inner (repeat p) = size p

sizes_list : (ps : Parts) → sum (map size (list_of ps)) ≡ sizes ps
sizes_list (one p) = omega arith
sizes_list (more p ps) = rw (sizes_list ps)

-- a part is one more than what stands inside it
pub size_inner : (p : Part) → size p ≡ suc (inner p)
size_inner (goal o) = size_law (goal o)
size_inner (start o) = size_law (start o)
size_inner (wait o) = size_law (wait o)
size_inner (seq ps) = size_law (seq ps) ∙ ap suc (sizes_list ps)
size_inner (par ps) = size_law (par ps) ∙ ap suc (sizes_list ps)
size_inner (maintain o p) = omega (arith, size_law (maintain o p))
size_inner (choice o p q) = omega (arith, size_law (choice o p q))
size_inner (repeat p) = omega (arith, size_law (repeat p))
