-- What a station says of the unfolding it says of the table too, since the two runs are alike.
use Prim.Native.Nat.{ℕ}
use mathlib.Core.Path.{◌≡◌, refl, ◌∙◌}
use mathlib.Core.Bool.{Bool, true, ◌&&◌}
use mathlib.Core.List.{List, [], ◌∷◌}
use lib.Dec.{eqb, ltb}
use lib.ListN.{replicate}
use borrow.Author.Tests.{eqb-true, ltb-true}
use Rattle.base.specs.Lists.{all}
use Rattle.base.proofs.Lists.{and_left, and_right}
use Rattle.meaning.specs.declared.Form.TheVariants.{File}
use Rattle.meaning.specs.Sizes.{time_limit}
use Rattle.meaning.specs.Program.{variables, tree_of, program_refusal}
use Rattle.meaning.specs.Table.{compiled}
use Rattle.meaning.specs.Record.{record_length}
use Rattle.meaning.specs.Cycle.{estimate_allowed, begin_refusal}
use Rattle.agreement.specs.Runs.{Call, offer, settling, Timed, RunsAlike}
use Rattle.agreement.proofs.Agreement.{runs_alike}
use Rattle.stations.specs.Stations.{Station, by_table, by_tree, holds}

module _ (x : Station) (accepted : program_refusal File x.file ≡ 0) (allowed : estimate_allowed (variables x.file) x.first ≡ true) (timed : Timed x.calls) where
  -- the buffer in which the table's run of a station begins
  abbrev buffer : List ℕ
  buffer = replicate record_length 9

  runs : RunsAlike x.file x.first buffer x.calls
  runs = runs_alike x.file x.first buffer x.calls accepted timed

  begins : begin_refusal (compiled File x.file) x.first record_length ≡ 0
  begins = runs.beginning ∙ rw allowed

  by_either : by_table x ≡ by_tree x (tree_of File x.file)
  unfolding by_table by_tree
  by_either =
      let a = runs.begun begins in
      rw (runs.tree_is, begins, a.replies, a.finishing, a.flags, a.clock_starts)

  pub by_tree_alone : x.answer ≡ 0 → by_tree x (tree_of File x.file) ≡ true → holds x ≡ true
  unfolding holds
  by_tree_alone none-refused h =
      let first : eqb (program_refusal File x.file) x.answer ≡ true = rw (accepted, none-refused) in
      let second : eqb x.answer 0 ≡ true = rw none-refused in
      rw (first, second, by_either, h)

-- whether each offer's time is one of 32 bits
unfoldable pub timely : List Call → Bool
timely [] = true
timely (offer time buffer ∷ cs) = ltb time time_limit && timely cs
timely (settling est ∷ cs) = timely cs

timed_so : (cs : List Call) → timely cs ≡ true → Timed cs
unfolding timely
timed_so [] h = tt
timed_so (offer time buffer ∷ cs) h = (ltb-true time time_limit (and_left (ltb time time_limit) (timely cs) h), timed_so cs (and_right (ltb time time_limit) (timely cs) h))
timed_so (settling est ∷ cs) h = timed_so cs h

-- All that is computed of a station by its tree
abbrev pub holds_by_tree : Station → Bool
holds_by_tree x =
    eqb (program_refusal File x.file) 0
    && (eqb x.answer 0
    && (estimate_allowed (variables x.file) x.first && (timely x.calls && by_tree x (tree_of File x.file))))

one_holds : (x : Station) → holds_by_tree x ≡ true → holds x ≡ true
one_holds x h =
    let a = eqb (program_refusal File x.file) 0 in
    let b = eqb x.answer 0 in
    let c = estimate_allowed (variables x.file) x.first in
    let d = timely x.calls in
    let behind = and_right a _ h in
    let later = and_right b _ behind in
    let last = and_right c _ later in
    by_tree_alone x (eqb-true _ 0 (and_left a _ h)) (and_left c _ later) (timed_so x.calls (and_left d _ last)) (eqb-true _ 0 (and_left b _ behind)) (and_right d _ last)

pub all_hold_lem : (xs : List Station) → all holds_by_tree xs ≡ true → all holds xs ≡ true
all_hold_lem [] h = refl
all_hold_lem (x ∷ xs) h = rw (one_holds x (and_left (holds_by_tree x) (all holds_by_tree xs) h), all_hold_lem xs (and_right (holds_by_tree x) (all holds_by_tree xs) h))
