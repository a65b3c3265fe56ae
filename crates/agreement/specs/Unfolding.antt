-- Unfolding the tree: the meaning of a run without rows or marks. A part's meaning is made of the meanings of its children.
use Rattle.std.specs.Prelude.{cond, ◌⊎◌, List, [], ◌∷◌, ◌++◌}
use Rattle.std.proofs.Common.{inl, inr}
use Rattle.std.proofs.Math.Option.{Option, none, some, map}
use Rattle.meaning.specs.declared.Entry.{Entry}
use Rattle.meaning.specs.declared.kinds.Kind.TheVariants.{Goal as GOAL, Start as START, Wait as WAIT}
use Rattle.meaning.specs.Kinds.{number_of}
use Rattle.meaning.specs.Tree.{Part, Parts, goal, start, wait, seq, par, maintain, choice, repeat, one, more}
use Rattle.meaning.specs.Conditions.{Situation, reached, satisfied, violated}

-- What remains of the children of a PAR, of which at least one is left: of the first and of the others
pub data Left (A B : Type 0) : Type 0 where
  this : A → Left A B
  that : B → Left A B
  both : A → B → Left A B

-- What remains of a MAINTAIN: "whether this cycle's offer found it violated", and else what remains of its child
pub data Maintained (A : Type 0) : Type 0 where
  broken : Maintained A
  holding : A → Maintained A

-- What remains of a CHOICE: "undecided or its chosen child"
pub data Chosen (A B : Type 0) : Type 0 where
  undecided : Chosen A B
  first : A → Chosen A B
  second : B → Chosen A B

-- "what remains of the tree: SEQ's current child, PAR's children not ended, ..."
abbrev mutual
  pub Rest : Part → Type 0
  Rest (goal o) = Unit {0}
  Rest (start o) = Unit {0}
  Rest (wait o) = Unit {0}
  Rest (seq ps) = Current ps
  Rest (par ps) = Running ps
  Rest (maintain o p) = Maintained (Rest p)
  Rest (choice o p q) = Chosen (Rest p) (Rest q)
  Rest (repeat p) = Rest p

  -- a SEQ is at its first child, or further on
  pub Current : Parts → Type 0
  Current (one p) = Rest p
  Current (more p ps) = Rest p ⊎ Current ps

  pub Running : Parts → Type 0
  Running (one p) = Rest p
  Running (more p ps) = Left (Rest p) (Running ps)

-- "Afresh, SEQ is at its first child, PAR has all its children, CHOICE is undecided, MAINTAIN not violated"
unfoldable mutual
  pub afresh : (p : Part) → Rest p
  afresh (goal o) = tt
  afresh (start o) = tt
  afresh (wait o) = tt
  afresh (seq ps) = afresh_first ps
  afresh (par ps) = afresh_all ps
  afresh (maintain o p) = holding (afresh p)
  afresh (choice o p q) = undecided
  afresh (repeat p) = afresh p

  pub afresh_first : (ps : Parts) → Current ps
  afresh_first (one p) = afresh p
  afresh_first (more p ps) = inl (afresh p)

  pub afresh_all : (ps : Parts) → Running ps
  afresh_all (one p) = afresh p
  afresh_all (more p ps) = both (afresh p) (afresh_all ps)

-- "MAINTAIN is its child, checked at each offer; once violated it offers nothing"; "an open MAINTAIN goes on" (document 02, R-4)
unfoldable mutual
  pub check : Situation → (p : Part) → Rest p → Rest p
  check sit (goal o) r = r
  check sit (start o) r = r
  check sit (wait o) r = r
  check sit (seq ps) r = check_current sit ps r
  check sit (par ps) r = check_running sit ps r
  check sit (maintain o p) broken = broken
  check sit (maintain o p) (holding r) = cond (violated sit o) broken (holding (check sit p r))
  check sit (choice o p q) undecided = undecided
  check sit (choice o p q) (first r) = first (check sit p r)
  check sit (choice o p q) (second r) = second (check sit q r)
  check sit (repeat p) r = check sit p r

  pub check_current : Situation → (ps : Parts) → Current ps → Current ps
  check_current sit (one p) r = check sit p r
  check_current sit (more p ps) (inl r) = inl (check sit p r)
  check_current sit (more p ps) (inr c) = inr (check_current sit ps c)

  pub check_running : Situation → (ps : Parts) → Running ps → Running ps
  check_running sit (one p) r = check sit p r
  check_running sit (more p ps) (this r) = this (check sit p r)
  check_running sit (more p ps) (that c) = that (check_running sit ps c)
  check_running sit (more p ps) (both r c) = both (check sit p r) (check_running sit ps c)

-- The leaves that are at work, in order: GOALs offer, STARTs start their clocks
unfoldable mutual
  pub working : (p : Part) → Rest p → List Entry
  working (goal o) r = record { kind = number_of GOAL; operand = o } ∷ []
  working (start o) r = record { kind = number_of START; operand = o } ∷ []
  working (wait o) r = record { kind = number_of WAIT; operand = o } ∷ []
  working (seq ps) r = working_current ps r
  working (par ps) r = working_running ps r
  working (maintain o p) broken = []
  working (maintain o p) (holding r) = working p r
  working (choice o p q) undecided = []
  working (choice o p q) (first r) = working p r
  working (choice o p q) (second r) = working q r
  working (repeat p) r = working p r

  pub working_current : (ps : Parts) → Current ps → List Entry
  working_current (one p) r = working p r
  working_current (more p ps) (inl r) = working p r
  working_current (more p ps) (inr c) = working_current ps c

  pub working_running : (ps : Parts) → Running ps → List Entry
  working_running (one p) r = working p r
  working_running (more p ps) (this r) = working p r
  working_running (more p ps) (that c) = working_running ps c
  working_running (more p ps) (both r c) = working p r ++ working_running ps c

-- A settling, in which a part ends (none) or something of it remains.

-- what follows a child that ends, or what remains of it
abbrev pub onward : {A B : Type 0} → B → (A → B) → Option A → B
onward ended remains none = ended
onward ended remains (some a) = remains a

-- "PAR [ends] in the one after which no child is left running"
abbrev pub rest_of_both : {A B : Type 0} → Option A → Option B → Option (Left A B)
rest_of_both none none = none
rest_of_both none (some b) = some (that b)
rest_of_both (some a) none = some (this a)
rest_of_both (some a) (some b) = some (both a b)

-- "An open WAIT stays", "an open CHOICE takes its second child, and a GOAL on an unknown variable is not reached" (document 02, R-4)
unfoldable mutual
  pub settle : Situation → (p : Part) → Rest p → Option (Rest p)
  settle sit (goal o) r = cond (reached sit o) none (some tt)
  settle sit (start o) r = none
  settle sit (wait o) r = cond (satisfied sit o) none (some tt)
  settle sit (seq ps) r = settle_current sit ps r
  settle sit (par ps) r = settle_running sit ps r
  settle sit (maintain o p) broken = none
  settle sit (maintain o p) (holding r) = map holding (settle sit p r)
  settle sit (choice o p q) undecided = some (cond (satisfied sit o) (first (afresh p)) (second (afresh q)))
  settle sit (choice o p q) (first r) = map first (settle sit p r)
  settle sit (choice o p q) (second r) = map second (settle sit q r)
  settle sit (repeat p) r = some (onward (afresh p) (λ a. a) (settle sit p r))

  -- "when that ends, the following one begins afresh"; "SEQ ends in the settling in which its last child ends"
  pub settle_current : Situation → (ps : Parts) → Current ps → Option (Current ps)
  settle_current sit (one p) r = settle sit p r
  settle_current sit (more p ps) (inl r) = some (onward (inr (afresh_first ps)) inl (settle sit p r))
  settle_current sit (more p ps) (inr c) = map inr (settle_current sit ps c)

  pub settle_running : Situation → (ps : Parts) → Running ps → Option (Running ps)
  settle_running sit (one p) r = settle sit p r
  settle_running sit (more p ps) (this r) = map this (settle sit p r)
  settle_running sit (more p ps) (that c) = map that (settle_running sit ps c)
  settle_running sit (more p ps) (both r c) = rest_of_both (settle sit p r) (settle_running sit ps c)
