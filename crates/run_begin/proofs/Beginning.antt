-- Beginning a run: the bytes that are written, and one law for each answer.
use Prim.Native.Nat.{ℕ, zero, suc, ◌+◌, ◌-◌, ◌*◌, ◌≤◌, ◌<◌}
use native.Mathlib.Omega.{arith}
use mathlib.Core.Path.{◌≡◌, refl, sym, ◌∙◌}
use mathlib.Core.Bool.{Bool, true, false}
use mathlib.Core.List.{List, ◌++◌}
use lib.ListN.{length, drop, replicate, length-replicate, replicate-append-replicate}
use lib.Seq.{sets, length-sets}
use borrow.Rule.Slice.PartMut.{put_mid}
use borrow.Author.Tests.{ne_eqb, le-leb, lt-leb, leb-true}
use Rattle.base.specs.Lists.{flat}
use Rattle.base.proofs.Stores.{sets_start, part_stored}
use Rattle.meaning.specs.Sizes.{time_width, max_variables, max_clocks, max_parts, little_endian}
use Rattle.meaning.specs.Program.{parts, variables, clocks}
use Rattle.meaning.specs.Table.{is_table}
use Rattle.meaning.specs.Record.{estimate_place, marks_place, record_length, waiting, padded, record_bytes}
use Rattle.meaning.specs.Cycle.{initial_marks, estimate_allowed, begin_refusal, begun_into}
use Rattle.meaning.specs.Operations.{Begun}
use Rattle.meaning.specs.declared.Refusal.{Refusal}
use Rattle.meaning.specs.declared.Refusal.TheVariants.{NotATable}
use Rattle.meaning.specs.Answers.{refusal_number, buffer_too_short, not_a_table, estimate_not_allowed}
use Rattle.meaning.proofs.Tables.{table_held}
use Rattle.program_part.proofs.Places.{parts_fit}
use Rattle.meaning.proofs.Records.{Shaped, length_root, estimate_fits, begin_tests_lem, begun_fits, begun_bytes, estimate_written, marks_written}

-- a record that holds nothing but 0
padded_zeros : (n k : ℕ) → k ≤ n → padded n (replicate k 0) ≡ replicate n 0
padded_zeros n k h =
    let e : k + (n - k) ≡ n = omega arith in
    rw (length-replicate {A = ℕ} k 0, replicate-append-replicate {A = ℕ} k (n - k) 0, e)

time_zeros : (k : ℕ) → flat (little_endian time_width) (replicate k 0) ≡ replicate (time_width * k) 0
time_zeros zero = refl
time_zeros (suc k) =
    let e : time_width * suc k ≡ suc (suc (suc (suc (time_width * k)))) = omega arith in
    rw (e, time_zeros k)

zeros : (v k n : ℕ) → v ≤ max_variables → k ≤ max_clocks → n ≤ max_parts → record_bytes waiting 0 (replicate v 0) (replicate k 0) (replicate k 0) (replicate n 0) ≡ replicate record_length 0
unfolding record_bytes
zeros v k n hv hk hn =
    rw (
      time_zeros k,
      padded_zeros max_variables v hv,
      padded_zeros max_clocks k hk,
      padded_zeros (time_width * max_clocks) (time_width * k) (omega arith),
      padded_zeros max_parts n hn,
    )

-- there is room for the record, in it for the estimate and the marks, and the marks are made of a table with a root
module _ (t est : List ℕ) (room : ℕ) (h : begin_refusal t est room ≡ 0) where
  table : is_table t ≡ true
  table = (begin_tests_lem t est room h).0

  pub record_room : record_length ≤ room
  record_room = leb-true record_length room (begin_tests_lem t est room h).1.1.0

  module _ (n : ℕ) (kept : n ≡ room) where
    pub estimate_room : estimate_place + length est ≤ n
    estimate_room = omega (arith, record_room, (estimate_fits t est (begin_tests_lem t est room h).1.0).0, (table_held t table).1.within.variables_fit)

    pub marks_room : marks_place + parts t ≤ n
    marks_room = omega (arith, record_room, parts_fit t table)

module _ (t est r : List ℕ) where
  -- the bytes: 0 everywhere, then the estimate, then the marks
  module _ (h : begin_refusal t est (length r) ≡ 0) (cleared : List ℕ) (cleared_is : cleared ≡ sets r 0 (replicate record_length 0)) where
    module _ (x : List ℕ) (x-is : x ≡ est) where
      abbrev estimated : List ℕ
      estimated = put_mid estimate_place (estimate_place + length est - estimate_place) cleared x

      estimated_is : estimated ≡ sets (sets r 0 (replicate record_length 0)) estimate_place est
      estimated_is =
          let room : estimate_place + length est ≤ length cleared = estimate_room t est (length r) h (length cleared) (rw (cleared_is, length-sets)) in
          rw (x-is, part_stored cleared est estimate_place (length est) refl room, cleared_is)

      pub fresh_written : (w : List ℕ) → w ≡ sets estimated (marks_place + 0) (initial_marks t 0) → w ≡ begun_into t est r
      fresh_written w w-is =
          let whole : length (initial_marks t 0) ≡ parts t = length_root t (table t est (length r) h) in
          let new : Shaped t est (replicate (clocks t) 0) (replicate (clocks t) 0) (initial_marks t 0) = (begun_fits t est (length r) h whole).shape in
          let zs : List ℕ = replicate (clocks t) 0 in
          let empty : Shaped t (replicate (variables t) 0) zs zs (replicate (parts t) 0) = omega (arith, new, length-replicate {A = ℕ} (variables t) 0, length-replicate {A = ℕ} (parts t) 0) in
          let stored : Shaped t est zs zs (replicate (parts t) 0) = omega (arith, new, length-replicate {A = ℕ} (parts t) 0) in
          let more : List ℕ = drop record_length r in
          let a : sets r 0 (replicate record_length 0) ≡ record_bytes waiting 0 (replicate (variables t) 0) zs zs (replicate (parts t) 0) ++ more =
          sets_start r (replicate record_length 0) (record_room t est (length r) h) ∙ rw (zeros (variables t) (clocks t) (parts t) new.variables_fit new.clocks_fit new.parts_fit) in
          rw (w-is, estimated_is, a, estimate_written empty waiting 0 more est new.estimate_is, marks_written stored waiting 0 more (initial_marks t 0) whole)
          (sym (begun_bytes t est r h whole))

  -- the answers
  refused : (n : ℕ) → begin_refusal t est (length r) ≡ n → (n ≡ 0 → ⊥) → Begun t est r n r
  unfolding begun_into
  refused n e ne = record { answer_is = sym e; record_is = rw (e, ne_eqb n 0 ne) }

  pub begin_no_table : (why : Refusal) → (why ≡ NotATable) × (is_table t ≡ false) → Begun t est r (refusal_number why) r
  unfolding begin_refusal
  begin_no_table why err = rw err.0 (refused not_a_table (rw err.1) (λ e. omega arith))

  module _ (held : is_table t ≡ true) (c : Bool) (c-is : c ≡ estimate_allowed (variables t) est) where
    pub begin_no_estimate : c ≡ false → Begun t est r estimate_not_allowed r
    unfolding begin_refusal
    begin_no_estimate f = refused estimate_not_allowed (rw (held, sym c-is ∙ f)) (λ e. omega arith)

    module _ (f : c ≡ true) where
      pub begin_short : length r < record_length → Begun t est r buffer_too_short r
      unfolding begin_refusal
      begin_short l = refused buffer_too_short (rw (held, sym c-is ∙ f, lt-leb record_length (length r) l)) (λ e. omega arith)

      pub begin_not_refused : record_length ≤ length r → begin_refusal t est (length r) ≡ 0
      unfolding begin_refusal
      begin_not_refused l = rw (held, sym c-is ∙ f, le-leb record_length (length r) l)

      pub begin_done : (r' : List ℕ) → record_length ≤ length r → r' ≡ begun_into t est r → Begun t est r 0 r'
      begin_done r' l e = record { answer_is = sym (begin_not_refused l); record_is = e }
