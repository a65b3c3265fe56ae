-- The finishing cycle, as the replies of a run tell it. Both runs count with the same definition (`settling_count`), so that `runs_alike` alone would not notice a wrong one.
use Prim.Native.Nat.{ℕ, ◌+◌}
use native.Mathlib.Nat.{add-zero}
use mathlib.Core.Path.{◌≡◌, refl}
use mathlib.Core.Bool.{Bool, true, false, cond}
use mathlib.Core.Option.{Option, none, some}
use mathlib.Core.List.{List, [], ◌∷◌}
use lib.Dec.{eqb}
use Rattle.meaning.specs.Tree.{Part}
use Rattle.meaning.specs.Record.{finished}
use Rattle.agreement.specs.Runs.{Call, offer, settling, Reply, refused, goals, running, done, State, fed, refusal_of, offered_state, settled_state, tree_next, tree_reply, tree_replies, settling_count, tree_finishing}

-- "the number of settlings not refused", each of which tells "running" or "finished", up to the first that tells "finished", after n of them
abbrev pub finishing_in : ℕ → List Reply → Option ℕ
finishing_in n [] = none
finishing_in n (refused m ∷ xs) = finishing_in n xs
finishing_in n (goals g name ∷ xs) = finishing_in n xs
finishing_in n (running ∷ xs) = finishing_in (n + 1) xs
finishing_in n (done ∷ xs) = some (n + 1)

module _ (p : Part) (v : ℕ) where
  -- the finishing cycle from a state on is the one that the replies tell
  abbrev Told : List Call → State p → Type 0
  Told cs st = (n : ℕ) → tree_finishing p v st n cs ≡ finishing_in n (tree_replies p v st cs)

  -- a run that has ended has its finishing cycle
  ended : (cs : List Call) (st : State p) (n : ℕ) → eqb st.phase finished ≡ true → tree_finishing p v st n cs ≡ some n
  unfolding tree_finishing
  ended [] st n h = rw h
  ended (c ∷ cs) st n h = rw h

  -- a settling that is not refused is counted, whether the run goes on or ends with it
  settling_counted : (cs : List Call) (st : State p) (n : ℕ) (b : Bool) → eqb st.phase finished ≡ b → (eqb st.phase finished ≡ false → Told cs st)
      → tree_finishing p v st (n + settling_count (cond b done running)) cs ≡ finishing_in n (cond b done running ∷ tree_replies p v st cs)
  settling_counted cs st n true h later = ended cs st (n + 1) h
  settling_counted cs st n false h later = later h (n + 1)

  -- one call of a run that goes on, whether it is refused or not
  call_counted : (c : Call) (cs : List Call) (st : State p) → eqb st.phase finished ≡ false → ((next : State p) → eqb next.phase finished ≡ false → Told cs next) → (b : Bool) → eqb (refusal_of p v st (fed c)) 0 ≡ b
      → (n : ℕ) → tree_finishing p v (tree_next p v st (fed c)) (n + settling_count (tree_reply p v st (fed c))) cs ≡ finishing_in n (tree_replies p v st (c ∷ cs))
  unfolding tree_next tree_reply
  call_counted c cs st h later false e n = rw (e, add-zero) (later st h n)
  call_counted (offer time buffer) cs st h later true e n = rw (e, add-zero) (later (offered_state p st time) refl n)
  call_counted (settling est) cs st h later true e n =
      let next = settled_state p st est in
      rw e (settling_counted cs next n (eqb next.phase finished) refl (later next))

  -- "The finishing cycle is the number of settlings not refused up to the moment at which the phase is first 2"
  pub finishing_told : (cs : List Call) (st : State p) → eqb st.phase finished ≡ false → (n : ℕ) → tree_finishing p v st n cs ≡ finishing_in n (tree_replies p v st cs)
  unfolding tree_finishing
  finishing_told [] st h n = rw h
  finishing_told (c ∷ cs) st h n = rw h (call_counted c cs st h (finishing_told cs) (eqb (refusal_of p v st (fed c)) 0) refl n)
