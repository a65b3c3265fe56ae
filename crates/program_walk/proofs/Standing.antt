-- The walk over a tree: what stands at a part, inside it and after it, and the loop over its children.
use Prim.Native.Nat.{ℕ, suc, ◌+◌, ◌-◌, ◌<◌, ◌≤◌}
use native.Mathlib.Omega.{arith}
use native.Mathlib.Numerals.{add-one}
use mathlib.Core.Path.{◌≡◌, refl, sym, ap, ◌∙◌}
use mathlib.Core.Bool.{Bool, true, false}
use mathlib.Core.Option.{Option, none, some}
use mathlib.Core.List.{List, [], ◌∷◌, ◌++◌, map}
use lib.Dec.{ltb}
use lib.ListN.{length, drop}
use lib.Seq.{drop-drop}
use borrow.Author.Tests.{ltb-true, ltb-false}
use Rattle.base.specs.Lists.{sum}
use Rattle.meaning.specs.declared.Entry.{Entry}
use Rattle.meaning.specs.declared.Form.{Form}
use Rattle.meaning.specs.Sizes.{length_of}
use Rattle.meaning.specs.Kinds.{kind_of}
use Rattle.meaning.specs.Tree.{Part, kind, children, size}
use Rattle.meaning.specs.Program.{parts, entries, entry_at, take_children, trees, follow, tree_of, is_tree, arity_of}
use Rattle.program_walk.specs.Walk.{TreeAt, Walkable, first_of, part_at}
use Rattle.program_part.specs.Readable.{Readable}
use Rattle.meaning.proofs.Trees.{All, part_ind, size_law}
use Rattle.meaning.proofs.Parsing.{Placed, placed}
use Rattle.meaning.proofs.Files.{some_part, single_part}
use Rattle.program_walk.proofs.Entries.{entries_at, entries_past}

-- What the first entry says of the part that stands there, and which parts stand after the entry
pub record Peeled (e : Entry) (es : List Entry) (p : Part) (ps : List Part) : Type 0 where
  pub kind_is : kind_of e.kind ≡ kind p
  pub arity_is : arity_of e ≡ length (children p)
  pub inside : trees es ≡ some (children p ++ ps)

pub peel : (e : Entry) (es : List Entry) (p : Part) (ps : List Part) → trees (e ∷ es) ≡ some (p ∷ ps) → Peeled e es p ps
unfolding trees
peel e es p ps h = go (trees es) refl h
  where
    known : (qs : List Part) → trees es ≡ some qs → Placed e qs (p ∷ ps) → Peeled e es p ps
    known qs is d =
        let same-part : p ≡ d.part = cc d.result in
        let same_rest : ps ≡ d.later = cc d.result in
        record {
          kind_is = d.kind_is ∙ ap kind (sym same-part);
          arity_is = d.arity_is ∙ ap (λ (x : Part). length (children x)) (sym same-part);
          inside = is ∙ ap some (d.inner ∙ cc (same-part, same_rest));
        }

    go : (o : Option (List Part)) → trees es ≡ o → follow (take_children e) o ≡ some (p ∷ ps) → Peeled e es p ps
    go none is q = absurd (let z : ◌≡◌ {A = ℕ} 0 1 = cc in omega arith)
    go (some qs) is q = known qs is (placed e qs (p ∷ ps) q)

-- The entries after those of a part, and of all inside it, form the parts that follow it
abbrev Past : Part → Type 0
Past p = (es : List Entry) (ps : List Part) → trees es ≡ some (p ∷ ps) → trees (drop (size p) es) ≡ some ps

past_all : (cs : List Part) → All Past cs → (es : List Entry) (ps : List Part) → trees es ≡ some (cs ++ ps) → trees (drop (sum (map size cs)) es) ≡ some ps
past_all [] hs es ps h = h
past_all (c ∷ cs) hs es ps h =
    ap trees (sym (drop-drop (sum (map size cs)) (size c) es)) ∙ past_all cs hs.1 (drop (size c) es) ps (hs.0 es (cs ++ ps) h)

past_step : (p : Part) → All Past (children p) → Past p
unfolding trees
past_step p hs [] ps h = cc
past_step p hs (e ∷ es) ps h =
    ap (λ (k : ℕ). trees (drop k (e ∷ es))) (size_law p) ∙ past_all (children p) hs es ps (peel e es p ps h).inside

pub past : (p : Part) → Past p
past p = part_ind Past past_step p

-- The part at a number, once it is known
pub part_is : (es : List Entry) (n : ℕ) (p : Part) (ps : List Part) → trees (drop n es) ≡ some (p ∷ ps) → part_at es n ≡ p
unfolding part_at
part_is es n p ps h = ap first_of h

-- A part stands only below the number of parts
pub stands_below : (form : Form) (s : List ℕ) (n : ℕ) → TreeAt (entries form s) n → n < parts s
unfolding trees
stands_below form s n st = go (ltb n (parts s)) refl
  where
    go : (b : Bool) → ltb n (parts s) ≡ b → n < parts s
    go true e = ltb-true n (parts s) e
    go false e = absurd (let z : ◌≡◌ {A = ℕ} 0 1 = cc (st.is, ap trees (entries_past form s n (ltb-false n (parts s) e))) in omega arith)

-- and can be read there
pub tree_readable : (form : Form) (s : List ℕ) (n : ℕ) → length_of form (parts s) ≤ length s → TreeAt (entries form s) n → Readable form s n
tree_readable form s n long st = record { long = long; there = stands_below form s n st }

pub walkable_readable : (form : Form) (s : List ℕ) (n : ℕ) → Walkable form s n → Readable form s n
walkable_readable form s n w = tree_readable form s n w.long w.stands

-- The entry of the part that stands at a number, and the parts inside it
pub stands_entry : (form : Form) (s : List ℕ) (n : ℕ) (st : TreeAt (entries form s) n)
    → Peeled (entry_at form s n) (drop (suc n) (entries form s)) st.part st.later
stands_entry form s n st =
    peel (entry_at form s n) (drop (suc n) (entries form s)) st.part st.later
    (ap trees (sym (entries_at form s n (stands_below form s n st))) ∙ st.is)

-- What is left of a part's children while the walk goes over them
pub record ChildrenLeft (es : List Entry) (q remaining : ℕ) : Type 0 where
  pub parts : List Part
  pub later : List Part
  pub is : trees (drop q es) ≡ some (parts ++ later)
  pub many : remaining ≡ length parts

-- all children are left at first
abbrev pub left_first : (form : Form) (s : List ℕ) (n remaining : ℕ) → TreeAt (entries form s) n → remaining ≡ arity_of (entry_at form s n) → ChildrenLeft (entries form s) (n + 1) remaining
left_first form s n remaining st e =
    record {
      parts = children st.part;
      later = st.later;
      is = ap (λ (k : ℕ). trees (drop k (entries form s))) (add-one n) ∙ (stands_entry form s n st).inside;
      many = e ∙ (stands_entry form s n st).arity_is;
    }

-- The first of the children that are left
pub record First (es : List Entry) (q remaining : ℕ) (left : ChildrenLeft es q remaining) : Type 0 where
  pub part : Part
  pub rest : List Part
  pub are : left.parts ≡ part ∷ rest

pub left_head : (es : List Entry) (q remaining : ℕ) (left : ChildrenLeft es q remaining) → 0 < remaining → First es q remaining left
left_head es q remaining left h = go left.parts refl
  where
    go : (ps : List Part) → left.parts ≡ ps → First es q remaining left
    go [] e = absurd (omega (arith, left.many ∙ ap length e))
    go (p ∷ ps) e = record { part = p; rest = ps; are = e }

module _ (es : List Entry) (q remaining : ℕ) (left : ChildrenLeft es q remaining) (f : First es q remaining left) where
  pub head_is : trees (drop q es) ≡ some (f.part ∷ (f.rest ++ left.later))
  head_is = left.is ∙ ap (λ (ps : List Part). some (ps ++ left.later)) f.are

  pub head_stands : TreeAt es q
  head_stands = record { part = f.part; later = f.rest ++ left.later; is = head_is }

  pub head_part : part_at es q ≡ f.part
  head_part = part_is es q f.part (f.rest ++ left.later) head_is

  -- after it come the other children
  abbrev pub left_more : ChildrenLeft es (q + size f.part) (remaining - 1)
  left_more =
      record {
        parts = f.rest;
        later = left.later;
        is = ap trees (sym (drop-drop (size f.part) q es)) ∙ past f.part (drop q es) (f.rest ++ left.later) head_is;
        many = omega (arith, left.many ∙ ap length f.are);
      }

-- A program's tree stands alone, from the first part on
pub record Alone (form : Form) (s : List ℕ) : Type 0 where
  pub part : Part
  pub tree : tree_of form s ≡ some part
  pub is : trees (entries form s) ≡ some (part ∷ [])

pub alone : (form : Form) (s : List ℕ) → is_tree (tree_of form s) ≡ true → Alone form s
unfolding tree_of
alone form s t =
    let p = some_part (tree_of form s) t in
    record { part = p.0; tree = p.1; is = single_part (trees (entries form s)) p.0 p.1 }

pub alone_part : (form : Form) (s : List ℕ) → Alone form s → tree_of form s ≡ some (part_at (entries form s) 0)
alone_part form s a = a.tree ∙ ap some (sym (part_is (entries form s) 0 a.part [] a.is))
