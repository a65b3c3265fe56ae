-- A program as a tree of parts, and what is counted over it.
use Rattle.std.specs.Prelude.{ℕ, suc, List, [], ◌∷◌}
use Rattle.base.specs.Lists.{sum, largest}
use Rattle.meaning.specs.declared.Operand.{Operand}
use Rattle.meaning.specs.declared.kinds.Kind.{Kind}
use Rattle.meaning.specs.declared.kinds.Kind.TheVariants.{Goal as GOAL, Start as START, Wait as WAIT, Seq as SEQ, Par as PAR, Maintain as MAINTAIN, Choice as CHOICE, Repeat as REPEAT}

-- SEQ and PAR have at least one child
mutual
  pub data Part : Type 0 where
    goal start wait : Operand → Part
    seq par : Parts → Part
    maintain : Operand → Part → Part
    choice : Operand → Part → Part → Part
    repeat : Part → Part

  pub data Parts : Type 0 where
    one : Part → Parts
    more : Part → Parts → Parts

abbrev pub list_of : Parts → List Part
list_of (one p) = p ∷ []
list_of (more p ps) = p ∷ list_of ps

-- the operand of a SEQ or PAR is its child count, that of a REPEAT all 0
abbrev pub count_operand : ℕ → Operand
count_operand n = record { b0 = n; b1 = 0; b2 = 0; b3 = 0 }

abbrev pub kind : Part → Kind
kind (goal o) = GOAL
kind (start o) = START
kind (wait o) = WAIT
kind (seq ps) = SEQ
kind (par ps) = PAR
kind (maintain o p) = MAINTAIN
kind (choice o p q) = CHOICE
kind (repeat p) = REPEAT

abbrev pub children : Part → List Part
children (goal o) = []
children (start o) = []
children (wait o) = []
children (seq ps) = list_of ps
children (par ps) = list_of ps
children (maintain o p) = p ∷ []
children (choice o p q) = p ∷ q ∷ []
children (repeat p) = p ∷ []

abbrev pub count : Parts → ℕ
count (one p) = 1
count (more p ps) = suc (count ps)

abbrev pub operand : Part → Operand
operand (goal o) = o
operand (start o) = o
operand (wait o) = o
operand (seq ps) = count_operand (count ps)
operand (par ps) = count_operand (count ps)
operand (maintain o p) = o
operand (choice o p q) = o
operand (repeat p) = count_operand 0

-- "A part's meaning is made of the meanings of its children": what a part comes to, from its kind, its operand and what its children come to
unfoldable mutual
  pub fold : {A : Type 0} → (Kind → Operand → List A → A) → Part → A
  fold f (goal o) = f GOAL o []
  fold f (start o) = f START o []
  fold f (wait o) = f WAIT o []
  fold f (seq ps) = f SEQ (count_operand (count ps)) (fold_all f ps)
  fold f (par ps) = f PAR (count_operand (count ps)) (fold_all f ps)
  fold f (maintain o p) = f MAINTAIN o (fold f p ∷ [])
  fold f (choice o p q) = f CHOICE o (fold f p ∷ fold f q ∷ [])
  fold f (repeat p) = f REPEAT (count_operand 0) (fold f p ∷ [])

  pub fold_all : {A : Type 0} → (Kind → Operand → List A → A) → Parts → List A
  fold_all f (one p) = fold f p ∷ []
  fold_all f (more p ps) = fold f p ∷ fold_all f ps

-- how many parts stand in it, itself included
unfoldable pub size : Part → ℕ
size p = fold (λ k o ns. suc (sum ns)) p

-- "The root has depth 1": how deep its deepest part stands
unfoldable pub depth : Part → ℕ
depth p = fold (λ k o ns. suc (largest ns)) p
