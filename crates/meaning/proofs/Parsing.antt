-- Laws of kinds, of placing an entry before the parts that follow it, and of the trees that entries form.
use Prim.Native.Nat.{ℕ, zero, suc, ◌≤◌}
use native.Mathlib.Omega.{arith}
use mathlib.Core.Path.{◌≡◌, refl, sym, ap}
use mathlib.Core.Bool.{Bool, true, false, cond, not, ◌&&◌, false≢true}
use mathlib.Core.Option.{Option, none, some, map, none-ne-some}
use mathlib.Core.List.{List, [], ◌∷◌, ◌++◌, append_assoc, append-nil}
use lib.Dec.{eqb, leb}
use lib.ListN.{length, take, drop, length-append, take-append-drop}
use lib.Seq.{length-take-le, take-append_seam, drop-append_seam}
use borrow.Author.Tests.{leb-true, le-leb, eqb-true, eqb-false, not-true}
use Rattle.base.specs.Lists.{flat, all}
use Rattle.base.proofs.Lists.{and_left, and_right, flat_append}
use Rattle.meaning.specs.declared.Operand.{Operand}
use Rattle.meaning.specs.declared.Entry.{Entry}
use Rattle.meaning.specs.declared.kinds.Kind.{Kind}
use Rattle.meaning.specs.declared.kinds.Kind.TheVariants.{Unknown as UNKNOWN, Goal as GOAL, Start as START, Wait as WAIT, Seq as SEQ, Par as PAR, Maintain as MAINTAIN, Choice as CHOICE, Repeat as REPEAT}
use Rattle.meaning.specs.Kinds.{kind_of, number_of, known, arity, value, count_allowed, empty_allowed, operand_allowed}
use Rattle.meaning.specs.Tree.{Part, Parts, goal, start, wait, seq, par, maintain, choice, repeat, one, more, list_of, count_operand, count, kind, children, operand}
use Rattle.meaning.specs.Program.{preorder, entry_known, entry_allowed, arity_of, group, of_some, make_part, take_children, follow, trees}
use Rattle.meaning.proofs.Trees.{All, part_ind, entry_of, preorder_law}

-- the kind byte of a part's kind stands for that kind
pub kind_number_lem : (p : Part) → kind_of (number_of (kind p)) ≡ kind p
unfolding kind_of number_of
kind_number_lem (goal o) = refl
kind_number_lem (start o) = refl
kind_number_lem (wait o) = refl
kind_number_lem (seq ps) = refl
kind_number_lem (par ps) = refl
kind_number_lem (maintain o p) = refl
kind_number_lem (choice o p q) = refl
kind_number_lem (repeat p) = refl

-- a part's kind is known
pub known_kind : (p : Part) → known (kind p) ≡ true
unfolding known
known_kind (goal o) = refl
known_kind (start o) = refl
known_kind (wait o) = refl
known_kind (seq ps) = refl
known_kind (par ps) = refl
known_kind (maintain o p) = refl
known_kind (choice o p q) = refl
known_kind (repeat p) = refl

-- a known kind has one byte
pub number_known : (b : ℕ) → known (kind_of b) ≡ true → number_of (kind_of b) ≡ b
unfolding kind_of number_of known
number_known zero h = refl
number_known (suc zero) h = refl
number_known (suc (suc zero)) h = refl
number_known (suc (suc (suc zero))) h = refl
number_known (suc (suc (suc (suc zero)))) h = refl
number_known (suc (suc (suc (suc (suc zero))))) h = refl
number_known (suc (suc (suc (suc (suc (suc zero)))))) h = refl
number_known (suc (suc (suc (suc (suc (suc (suc zero))))))) h = refl
number_known (suc (suc (suc (suc (suc (suc (suc (suc zero)))))))) h = refl
number_known (suc (suc (suc (suc (suc (suc (suc (suc (suc b))))))))) h = cc

count_length : (ps : Parts) → count ps ≡ length (list_of ps)
count_length (one p) = refl
count_length (more p ps) = ap suc (count_length ps)

-- a part has as many children as its kind and operand say
pub arity_children : (p : Part) → arity (kind p) (operand p) ≡ length (children p)
unfolding arity
arity_children (goal o) = refl
arity_children (start o) = refl
arity_children (wait o) = refl
arity_children (seq ps) = count_length ps
arity_children (par ps) = count_length ps
arity_children (maintain o p) = refl
arity_children (choice o p q) = refl
arity_children (repeat p) = refl

group_list : (p : Part) (ps : Parts) → group p (list_of ps) ≡ more p ps
group_list p (one q) = refl
group_list p (more q ps) = ap (more p) (group_list q ps)

list_group : (p : Part) (ps : List Part) → list_of (group p ps) ≡ p ∷ ps
list_group p [] = refl
list_group p (q ∷ ps) = rw (list_group q ps)

some_list : (part : Parts → Part) (ps : Parts) → of_some part (list_of ps) ≡ some (part ps)
some_list part (one p) = refl
some_list part (more p ps) = rw (group_list p ps)

-- a part is made of its kind, its operand and its children
pub make_children : (p : Part) → make_part (kind p) (operand p) (children p) ≡ some p
unfolding make_part
make_children (goal o) = refl
make_children (start o) = refl
make_children (wait o) = refl
make_children (seq ps) = some_list seq ps
make_children (par ps) = some_list par ps
make_children (maintain o p) = refl
make_children (choice o p q) = refl
make_children (repeat p) = refl

-- an operand with b1, b2 and b3 all 0 is a count
only_count : (o : Operand) (n : ℕ) → n ≡ o.b0 → (eqb o.b1 0 && eqb (value o) 0) ≡ true → count_operand n ≡ o
only_count o n e h =
    let z1 : o.b1 ≡ 0 = eqb-true o.b1 0 (and_left (eqb o.b1 0) (eqb (value o) 0) h) in
    let zv : value o ≡ 0 = eqb-true (value o) 0 (and_right (eqb o.b1 0) (eqb (value o) 0) h) in
    let z2 : o.b2 ≡ 0 = omega arith in
    let z3 : o.b3 ≡ 0 = omega arith in
    λ i. record { b0 = e i; b1 = sym z1 i; b2 = sym z2 i; b3 = sym z3 i }

-- the count of children that an allowed SEQ or PAR has
allowed_count : (o : Operand) (n : ℕ) → n ≡ o.b0 → count_allowed o ≡ true → count_operand n ≡ o
unfolding count_allowed
allowed_count o n e h = only_count o n e (and_right (not (eqb o.b0 0)) (eqb o.b1 0 && eqb (value o) 0) h)

count_group : (p : Part) (ps : List Part) → count (group p ps) ≡ suc (length ps)
count_group p ps = rw (count_length, list_group)

allowed_group : (o : Operand) (p : Part) (ps : List Part) → suc (length ps) ≡ o.b0 → count_allowed o ≡ true → count_operand (count (group p ps)) ≡ o
allowed_group o p ps e h = rw (count_group p ps) (allowed_count o (suc (length ps)) e h)

allowed_empty : (o : Operand) → empty_allowed o ≡ true → count_operand 0 ≡ o
unfolding empty_allowed
allowed_empty o h =
    let z : o.b0 ≡ 0 = eqb-true o.b0 0 (and_left (eqb o.b0 0) (eqb o.b1 0 && eqb (value o) 0) h) in
    only_count o 0 (sym z) (and_right (eqb o.b0 0) (eqb o.b1 0 && eqb (value o) 0) h)

module _ (v c : ℕ) where
  made_as : (k : Kind) (o : Operand) (ps : List Part) (p : Part) → make_part k o ps ≡ some p → (kind p ≡ k) × (children p ≡ ps) × (length ps ≡ arity k o → operand_allowed v c k o ≡ true → operand p ≡ o)
  unfolding make_part arity operand_allowed
  made_as UNKNOWN o ps p h = (cc, cc, λ l a. cc)
  made_as GOAL o [] p h = (cc, cc, λ l a. cc)
  made_as GOAL o (q ∷ ps) p h = (cc, cc, λ l a. cc)
  made_as START o [] p h = (cc, cc, λ l a. cc)
  made_as START o (q ∷ ps) p h = (cc, cc, λ l a. cc)
  made_as WAIT o [] p h = (cc, cc, λ l a. cc)
  made_as WAIT o (q ∷ ps) p h = (cc, cc, λ l a. cc)
  made_as SEQ o [] p h = (cc, cc, λ l a. cc)
  made_as SEQ o (q ∷ ps) p h = (cc, cc (list_group q ps), λ l a. cc (allowed_group o q ps l a))
  made_as PAR o [] p h = (cc, cc, λ l a. cc)
  made_as PAR o (q ∷ ps) p h = (cc, cc (list_group q ps), λ l a. cc (allowed_group o q ps l a))
  made_as MAINTAIN o [] p h = (cc, cc, λ l a. cc)
  made_as MAINTAIN o (q ∷ []) p h = (cc, cc, λ l a. cc)
  made_as MAINTAIN o (q ∷ r ∷ ps) p h = (cc, cc, λ l a. cc)
  made_as CHOICE o [] p h = (cc, cc, λ l a. cc)
  made_as CHOICE o (q ∷ []) p h = (cc, cc, λ l a. cc)
  made_as CHOICE o (q ∷ r ∷ []) p h = (cc, cc, λ l a. cc)
  made_as CHOICE o (q ∷ r ∷ s ∷ ps) p h = (cc, cc, λ l a. cc)
  made_as REPEAT o [] p h = (cc, cc, λ l a. cc)
  made_as REPEAT o (q ∷ []) p h = (cc, cc, λ l a. cc (allowed_empty o a))
  made_as REPEAT o (q ∷ r ∷ ps) p h = (cc, cc, λ l a. cc)

-- what is made has the kind and the children that it was made of
pub made : (k : Kind) (o : Operand) (ps : List Part) (p : Part) → make_part k o ps ≡ some p → (kind p ≡ k) × (children p ≡ ps)
made k o ps p h = let m = made_as 0 0 k o ps p h in (m.0, m.1)

-- what is made with an allowed operand, and as many children as that says, has that operand
pub made_operand : (v c : ℕ) (k : Kind) (o : Operand) (ps : List Part) (p : Part) → make_part k o ps ≡ some p → length ps ≡ arity k o → operand_allowed v c k o ≡ true → operand p ≡ o
made_operand v c k o ps p h = (made_as v c k o ps p h).2

counts : (o : Operand) → 0 ≡ o.b0 → count_allowed o ≡ true → ⊥
unfolding count_allowed
counts o z h = eqb-false o.b0 0 (not-true (eqb o.b0 0) (and_left (not (eqb o.b0 0)) (eqb o.b1 0 && eqb (value o) 0) h)) (sym z)

-- what placing an entry gives: a part with its children taken from the parts that follow, and the parts after those
pub record Placed (e : Entry) (ps qs : List Part) : Type 0 where
  pub part : Part
  pub later : List Part
  pub result : qs ≡ part ∷ later
  pub inner : ps ≡ children part ++ later
  pub kind_is : kind_of e.kind ≡ kind part
  pub arity_is : arity_of e ≡ length (children part)
  pub made_of : make_part (kind_of e.kind) e.operand (children part) ≡ some part

module _ (e : Entry) (ps qs : List Part) where
  placed_part : (p : Part) → arity_of e ≤ length ps → make_part (kind_of e.kind) e.operand (take (arity_of e) ps) ≡ some p → p ∷ drop (arity_of e) ps ≡ qs → Placed e ps qs
  placed_part p l m r =
      let w : (kind p ≡ kind_of e.kind) × (children p ≡ take (arity_of e) ps) = made (kind_of e.kind) e.operand (take (arity_of e) ps) p m in
      record {
        part = p;
        later = drop (arity_of e) ps;
        result = sym r;
        inner = rw w.1 (sym (take-append-drop (arity_of e) ps));
        kind_is = sym w.0;
        arity_is = rw w.1 (sym (length-take-le (arity_of e) ps l));
        made_of = rw w.1 m;
      }

  placed_case : (b : Bool) (m : Option Part) → leb (arity_of e) (length ps) ≡ b → make_part (kind_of e.kind) e.operand (take (arity_of e) ps) ≡ m
      → cond b (map (λ p. p ∷ drop (arity_of e) ps) m) none ≡ some qs → Placed e ps qs
  placed_case true (some p) l m h = placed_part p (leb-true (arity_of e) (length ps) l) m (cc)
  placed_case true none l m h = absurd (none-ne-some qs h)
  placed_case false m l n h = absurd (none-ne-some qs h)

  -- an entry that is placed is placed so
  pub placed : take_children e ps ≡ some qs → Placed e ps qs
  unfolding take_children
  placed h = placed_case (leb (arity_of e) (length ps)) (make_part (kind_of e.kind) e.operand (take (arity_of e) ps)) refl refl h

pub arity_entry : (p : Part) → arity_of (entry_of p) ≡ length (children p)
unfolding arity_of
arity_entry p = rw (kind_number_lem p) (arity_children p)

-- a part's entry is placed before its children
pub place_children : (p : Part) (ps : List Part) → take_children (entry_of p) (children p ++ ps) ≡ some (p ∷ ps)
unfolding take_children
place_children p ps =
    let l : leb (length (children p)) (length (children p ++ ps)) ≡ true = le-leb (length (children p)) (length (children p ++ ps)) (rw length-append (omega arith)) in
    rw (arity_entry p, l, take-append_seam, drop-append_seam, kind_number_lem p, make_children p)

module _ (v c : ℕ) where
  -- an allowed operand, and as many children as it says, make a part
  makes_part : (k : Kind) (o : Operand) (ps : List Part) → length ps ≡ arity k o → operand_allowed v c k o ≡ true → (p : Part) × (make_part k o ps ≡ some p)
  unfolding make_part arity operand_allowed count_allowed
  makes_part UNKNOWN o ps l a = absurd (false≢true a)
  makes_part GOAL o [] l a = (goal o, refl)
  makes_part GOAL o (q ∷ ps) l a = absurd (omega arith)
  makes_part START o [] l a = (start o, refl)
  makes_part START o (q ∷ ps) l a = absurd (omega arith)
  makes_part WAIT o [] l a = (wait o, refl)
  makes_part WAIT o (q ∷ ps) l a = absurd (omega arith)
  makes_part SEQ o [] l a = absurd (counts o l a)
  makes_part SEQ o (q ∷ ps) l a = (seq (group q ps), refl)
  makes_part PAR o [] l a = absurd (counts o l a)
  makes_part PAR o (q ∷ ps) l a = (par (group q ps), refl)
  makes_part MAINTAIN o [] l a = absurd (omega arith)
  makes_part MAINTAIN o (q ∷ []) l a = (maintain o q, refl)
  makes_part MAINTAIN o (q ∷ r ∷ ps) l a = absurd (omega arith)
  makes_part CHOICE o [] l a = absurd (omega arith)
  makes_part CHOICE o (q ∷ []) l a = absurd (omega arith)
  makes_part CHOICE o (q ∷ r ∷ []) l a = (choice o q r, refl)
  makes_part CHOICE o (q ∷ r ∷ s ∷ ps) l a = absurd (omega arith)
  makes_part REPEAT o [] l a = absurd (omega arith)
  makes_part REPEAT o (q ∷ []) l a = (repeat q, refl)
  makes_part REPEAT o (q ∷ r ∷ ps) l a = absurd (omega arith)

-- where an allowed entry has enough parts after it, it is placed
pub makes : (e : Entry) (v c : ℕ) (ps : List Part) → entry_known e ≡ true → entry_allowed v c e ≡ true → arity_of e ≤ length ps → (qs : List Part) × (take_children e ps ≡ some qs)
unfolding entry_allowed take_children
makes e v c ps k a l =
    let m : (p : Part) × (make_part (kind_of e.kind) e.operand (take (arity_of e) ps) ≡ some p) = makes_part v c (kind_of e.kind) e.operand (take (arity_of e) ps) (unfold arity_of in length-take-le (arity_of e) ps l) a in
    (m.0 ∷ drop (arity_of e) ps, rw (le-leb (arity_of e) (length ps) l, m.1))

-- and where the first of those parts are as many as it takes, they are its children
pub makes_of : (e : Entry) (v c : ℕ) (cs ps : List Part) → entry_allowed v c e ≡ true → length cs ≡ arity_of e → (p : Part) × (children p ≡ cs) × (take_children e (cs ++ ps) ≡ some (p ∷ ps))
unfolding entry_allowed take_children
makes_of e v c cs ps a l =
    let m : (p : Part) × (make_part (kind_of e.kind) e.operand cs ≡ some p) = makes_part v c (kind_of e.kind) e.operand cs (unfold arity_of in l) a in
    let b : leb (length cs) (length (cs ++ ps)) ≡ true = le-leb (length cs) (length (cs ++ ps)) (rw length-append (omega arith)) in
    (m.0, (made (kind_of e.kind) e.operand cs m.0 m.1).1, rw (← l, b, take-append_seam, drop-append_seam, m.1))

Reads : Part → Type 0
Reads p = (es : List Entry) (ps : List Part) → trees es ≡ some ps → trees (preorder p ++ es) ≡ some (p ∷ ps)

trees_all : (cs : List Part) → All Reads cs → (es : List Entry) (ps : List Part) → trees es ≡ some ps → trees (flat preorder cs ++ es) ≡ some (cs ++ ps)
unfolding Reads
trees_all [] h es ps t = t
trees_all (c ∷ cs) h es ps t = rw append_assoc (h.0 (flat preorder cs ++ es) (cs ++ ps) (trees_all cs h.1 es ps t))

trees_part : (p : Part) → All Reads (children p) → Reads p
unfolding Reads trees
trees_part p h es ps t = rw (preorder_law p, trees_all (children p) h es ps t) (place_children p ps)

-- entries that form trees, with a tree's preorder before them, form that tree and those
pub trees_preorder : (p : Part) (es : List Entry) (ps : List Part) → trees es ≡ some ps → trees (preorder p ++ es) ≡ some (p ∷ ps)
unfolding Reads
trees_preorder p = part_ind Reads trees_part p

-- a tree's preorder forms that tree
pub trees_alone : (p : Part) → trees (preorder p) ≡ some (p ∷ [])
unfolding trees
trees_alone p = rw append-nil at (trees_preorder p [] [] refl)

module _ (v c : ℕ) where
  -- an entry that is known and allowed is the entry of the part that it is placed as
  placed_entry : (e : Entry) (ps qs : List Part) → entry_known e ≡ true → entry_allowed v c e ≡ true → (w : Placed e ps qs) → entry_of w.part ≡ e
  unfolding entry_known entry_allowed arity_of
  placed_entry e ps qs k a w =
      let n : number_of (kind w.part) ≡ e.kind = rw (← w.kind_is) (number_known e.kind k) in
      let o : operand w.part ≡ e.operand = made_operand v c (kind_of e.kind) e.operand (children w.part) w.part w.made_of (sym w.arity_is) a in
      λ i. record { kind = n i; operand = o i }

  trees_are_one : (e : Entry) (es : List Entry) (ps qs : List Part) → entry_known e ≡ true → entry_allowed v c e ≡ true → es ≡ flat preorder ps → Placed e ps qs → e ∷ es ≡ flat preorder qs
  trees_are_one e es ps qs k a h w = rw (w.result, preorder_law w.part, placed_entry e ps qs k a w, h, w.inner, flat_append preorder)

  -- entries that are known and allowed are the preorders of the trees that they form
  pub trees_are : (es : List Entry) (ps : List Part) → trees es ≡ some ps → all entry_known es ≡ true → all (entry_allowed v c) es ≡ true → es ≡ flat preorder ps
  unfolding trees
  trees_are [] ps t k a = let n : ps ≡ [] = cc in rw n
  trees_are (e ∷ es) ps t k a = go (trees es) (λ qs q. trees_are es qs q (and_right (entry_known e) (all entry_known es) k) (and_right (entry_allowed v c e) (all (entry_allowed v c) es) a)) refl t
    where
      go : (m : Option (List Part)) → ((qs : List Part) → trees es ≡ some qs → es ≡ flat preorder qs) → trees es ≡ m → follow (take_children e) m ≡ some ps → e ∷ es ≡ flat preorder ps
      go none ih q h = absurd (none-ne-some ps h)
      go (some qs) ih q h = trees_are_one e es qs ps (and_left (entry_known e) (all entry_known es) k) (and_left (entry_allowed v c e) (all (entry_allowed v c) es) a) (ih qs q) (placed e qs ps h)
