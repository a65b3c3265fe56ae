-- The record after a settling: the stores, in the order in which the code makes them, give the definition's.
use Prim.Native.Nat.{ℕ, ◌+◌, ◌-◌, ◌≤◌}
use native.Mathlib.Omega.{arith}
use mathlib.Core.Path.{◌≡◌, refl, sym, ap, ◌∙◌}
use mathlib.Core.Bool.{true, cond, not}
use mathlib.Core.List.{List}
use lib.Dec.{eqb}
use lib.ListN.{length, get_or, set, take, length-set}
use lib.Seq.{sets, length-sets}
use borrow.Rule.Slice.PartMut.{put_mid}
use Rattle.base.specs.Lists.{flat, bytes_at}
use Rattle.base.proofs.Stores.{length_bytes, get_or_bytes, take_bytes, part_stored, set_before, sets_swap}
use Rattle.meaning.specs.Sizes.{max_variables, time_width, little_endian}
use Rattle.meaning.specs.Program.{parts, variables}
use Rattle.meaning.specs.Table.{is_table}
use Rattle.meaning.specs.Record.{record_length, estimate_place, started_place, starts_place, marks_place, waiting, finished}
use Rattle.meaning.specs.Cycle.{estimate_allowed, root_ended, settled_marks, settled_flags, settled_starts, settled_record}
use Rattle.program_part.proofs.Places.{parts_fit}
use Rattle.meaning.proofs.Records.{estimate_fits}
use Rattle.meaning.proofs.Tables.{table_held, root_there}

-- phase and estimate stand before the clocks' flags and starts
moved : (r es fs ss : List ℕ) (x : ℕ) → length es ≤ max_variables
    → sets (set (sets (sets r started_place fs) starts_place ss) 0 x) estimate_place es ≡ sets (sets (sets (set r 0 x) estimate_place es) started_place fs) starts_place ss
moved r es fs ss x l =
    ap (λ a. sets a estimate_place es) (set_before (sets r started_place fs) 0 starts_place x ss (omega arith) ∙ ap (λ a. sets a starts_place ss) (set_before r 0 started_place x fs (omega arith)))
    ∙ sets_swap (sets (set r 0 x) started_place fs) estimate_place starts_place es ss (omega arith)
    ∙ ap (λ a. sets a starts_place ss) (sets_swap (set r 0 x) estimate_place started_place es fs (omega arith))

module _ (t r est m : List ℕ) (table : is_table t ≡ true) (e : estimate_allowed (variables t) est ≡ true) (m-is : bytes_at m 0 (parts t) ≡ settled_marks t r est) where
  root_same : get_or m 0 0 ≡ get_or (settled_marks t r est) 0 0
  root_same = sym (get_or_bytes m 0 (parts t) 0 (root_there t table)) ∙ ap (λ a. get_or a 0 0) m-is

  -- the record once the clocks are set and the phase is x, then with the estimate, then with the marks of n parts
  module _ (r₁ : List ℕ) (x : ℕ) (long : record_length ≤ length r) (same : length r₁ ≡ length r) where
    pub estimate_room : estimate_place + length est ≤ length (set r₁ 0 x)
    estimate_room = rw length-set (omega (arith, (estimate_fits t est e).0, (table_held t table).1.within.variables_fit))

    module _ (a : List ℕ) (a-is : a ≡ est) (n : ℕ) (n-is : n ≡ parts t) where
      abbrev estimated : List ℕ
      estimated = put_mid estimate_place (estimate_place + length est - estimate_place) (set r₁ 0 x) a

      estimated_is : estimated ≡ sets (set r₁ 0 x) estimate_place est
      estimated_is = rw a-is (part_stored (set r₁ 0 x) est estimate_place (length est) refl estimate_room)

      pub marks_room : marks_place + n ≤ length estimated
      marks_room = rw (estimated_is, length-sets) (rw length-set (omega (arith, parts_fit t table)))

      pub record_committed : (b : List ℕ) → parts t ≤ length m → b ≡ take n m → r₁ ≡ sets (sets r started_place (settled_flags t r)) starts_place (flat (little_endian time_width) (settled_starts t r)) → x ≡ cond (root_ended m) finished waiting
          → put_mid marks_place (marks_place + n - marks_place) estimated b ≡ settled_record t r est
      record_committed b held b-is r₁-is x-is =
          let fs : List ℕ = settled_flags t r in
          let ss : List ℕ = flat (little_endian time_width) (settled_starts t r) in
          let y : ℕ = cond (root_ended (settled_marks t r est)) finished waiting in
          let x-same : x ≡ y = x-is ∙ ap (λ a. cond (not (not (eqb a 0))) finished waiting) root_same in
          let b-bytes : b ≡ bytes_at m 0 n = b-is ∙ take_bytes m 0 n (omega arith) in
          let third : sets (set r₁ 0 x) estimate_place est ≡ sets (sets (sets (set r 0 y) estimate_place est) started_place fs) starts_place ss =
          rw (r₁-is, x-same) (moved r est fs ss y (omega (arith, (estimate_fits t est e).0, (table_held t table).1.within.variables_fit)))
          in
          rw (b-bytes, part_stored estimated (bytes_at m 0 n) marks_place n (length_bytes m 0 n) marks_room, estimated_is, third, n-is, m-is)
