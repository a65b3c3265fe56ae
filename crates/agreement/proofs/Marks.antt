-- The marks of what remains of a tree: a mark for each part that is at work, in the order of the parts.
use Prim.Native.Nat.{ℕ}
use mathlib.Core.Logic.{inl, inr}
use mathlib.Core.List.{List, [], ◌∷◌, ◌++◌}
use lib.ListN.{replicate}
use Rattle.meaning.specs.Tree.{Part, Parts, goal, start, wait, seq, par, maintain, choice, repeat, one, more, size}
use Rattle.meaning.proofs.Trees.{sizes}
use Rattle.agreement.specs.Unfolding.{Rest, Current, Running, this, that, both, broken, holding, undecided, first, second}

-- of n parts none is marked
abbrev pub blank : ℕ → List ℕ
blank n = replicate n 0

unfoldable mutual
  pub marks_of : (p : Part) → Rest p → List ℕ
  marks_of (goal o) r = 1 ∷ []
  marks_of (start o) r = 1 ∷ []
  marks_of (wait o) r = 1 ∷ []
  marks_of (seq ps) r = 1 ∷ marks_current ps r
  marks_of (par ps) r = 1 ∷ marks_running ps r
  marks_of (maintain o p) broken = 1 ∷ blank (size p)
  marks_of (maintain o p) (holding r) = 1 ∷ marks_of p r
  marks_of (choice o p q) undecided = 1 ∷ (blank (size p) ++ blank (size q))
  marks_of (choice o p q) (first r) = 1 ∷ (marks_of p r ++ blank (size q))
  marks_of (choice o p q) (second r) = 1 ∷ (blank (size p) ++ marks_of q r)
  marks_of (repeat p) r = 1 ∷ marks_of p r

  pub marks_current : (ps : Parts) → Current ps → List ℕ
  marks_current (one p) r = marks_of p r
  marks_current (more p ps) (inl r) = marks_of p r ++ blank (sizes ps)
  marks_current (more p ps) (inr c) = blank (size p) ++ marks_current ps c

  pub marks_running : (ps : Parts) → Running ps → List ℕ
  marks_running (one p) r = marks_of p r
  marks_running (more p ps) (this r) = marks_of p r ++ blank (sizes ps)
  marks_running (more p ps) (that c) = blank (size p) ++ marks_running ps c
  marks_running (more p ps) (both r c) = marks_of p r ++ marks_running ps c
