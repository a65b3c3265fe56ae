-- The tests that go over bytes and over clocks: what the slices that code takes hold, and which of the clauses on a record the tests are.
use Prim.Native.Nat.{ℕ, zero, suc, ◌+◌, ◌-◌, ◌*◌, ◌<◌, ◌≤◌, min}
use mathlib.Core.Path.{◌≡◌, refl, ◌∙◌}
use mathlib.Core.Bool.{Bool, true, ◌&&◌}
use mathlib.Core.List.{List}
use native.Mathlib.Nat.{zero-add}
use native.Mathlib.Decide.{dec_le}
use native.Mathlib.Omega.{arith}
use lib.Dec.{leb}
use lib.ListN.{length, get_or, take, drop}
use borrow.Author.Tests.{eq-eqb}
use native.Mathlib.Numerals.{add-one}
use Rattle.std.specs.List.{list_all, range_with_len}
use Rattle.base.specs.Lists.{all, bytes_at, tabulate}
use Rattle.base.proofs.Lists.{get_or-tabulate}
use Rattle.base.proofs.Stores.{get_or_bytes, take_bytes}
use Rattle.meaning.specs.Sizes.{time_width, max_variables, max_clocks, max_parts}
use Rattle.meaning.specs.Program.{parts, variables, clocks}
use Rattle.meaning.specs.Table.{is_table}
use Rattle.meaning.specs.Record.{estimate_place, started_place, starts_place, marks_place, record_length, time_at, phase_of, finished, last_time, started_in, starts_in, is_zero, rest_zero, estimate_byte_allowed, values_allowed, clock_allowed, clocks_allowed}
use Rattle.meaning.specs.Cycle.{estimate_allowed}
use Rattle.meaning.proofs.Tables.{table_held}
use Rattle.program_part.proofs.Places.{parts_fit}
use Rattle.run_record.proofs.Marks.{marks_inside}
use Rattle.run_allowed.specs.Places.{clock_at}

-- n bytes that code takes as a slice
cut_bytes : (r : List ℕ) (i n : ℕ) → i + n ≤ length r → take (i + n - i) (drop i r) ≡ bytes_at r i n
cut_bytes r i n h = let e : i + n - i ≡ n = omega arith in rw (e, take_bytes r i n h)

-- the bytes from a place on, before another, are those between the two that code takes as a slice
module _ (f : ℕ → Bool) (r : List ℕ) (from to : ℕ) (b : Bool) where
  pub part_bytes : from ≤ to → to ≤ length r → b ≡ all f (take (to - from) (drop from r)) → b ≡ all f (bytes_at r from (to - from))
  part_bytes h long b-is = rw (← (take_bytes r from (to - from) (omega arith))) b-is

  pub bytes_from_least : (m : ℕ) → m ≡ min from to → to ≤ length r → b ≡ all f (take (to - m) (drop m r)) → b ≡ all f (bytes_at r from (to - from))
  bytes_from_least m m-is long b-is = go (dec_le from to)
    where
      go : Dec (from ≤ to) → b ≡ all f (bytes_at r from (to - from))
      go (yes h) = let e : m ≡ from = omega arith in part_bytes h long (rw e at b-is)
      go (no h) =
          let e : to - from ≡ 0 = omega arith in
          let k : to - m ≡ 0 = omega arith in
          rw e (rw k at b-is)

-- the marks of all parts stand in a record
pub marks_long : (t r : List ℕ) (n n₁ : ℕ) → is_table t ≡ true → record_length ≤ length r → n₁ ≡ parts t → n ≡ n₁ → marks_place + n ≤ length r
marks_long t r n n₁ table long n₁-is n-is = marks_inside t table r n long (omega arith)

-- the clauses on a record, at the sizes that were read, as bytes and then as numbers that index
module _ (t r : List ℕ) (v k n v₁ k₁ n₁ : ℕ) (v₁_is : v₁ ≡ variables t) (v-is : v ≡ v₁) (k₁-is : k₁ ≡ clocks t) (k-is : k ≡ k₁) (n₁-is : n₁ ≡ parts t) (n-is : n ≡ n₁) where
  pub rest_made : (a b c d : Bool) → a ≡ all is_zero (bytes_at r (estimate_place + v) (started_place - (estimate_place + v))) → b ≡ all is_zero (bytes_at r (started_place + k) (starts_place - (started_place + k))) → c ≡ all is_zero (bytes_at r (starts_place + time_width * k) (marks_place - (starts_place + time_width * k))) → d ≡ all is_zero (bytes_at r (marks_place + n) (record_length - (marks_place + n))) → (a && (b && (c && d))) ≡ rest_zero t r
  unfolding rest_zero
  rest_made a b c d a-is b-is c-is d-is =
      let x : started_place - (estimate_place + v) ≡ max_variables - v = omega arith in
      let y : starts_place - (started_place + k) ≡ max_clocks - k = omega arith in
      let z : marks_place - (starts_place + time_width * k) ≡ time_width * (max_clocks - k) = omega arith in
      let w : record_length - (marks_place + n) ≡ max_parts - n = omega arith in
      rw (a-is, b-is, c-is, d-is, x, y, z, w, v-is, v₁_is, k-is, k₁-is, n-is, n₁-is)

  pub values_made : is_table t ≡ true → record_length ≤ length r → (phase : ℕ) (b c d : Bool) → phase ≡ phase_of r → b ≡ all (λ b. leb b 1) (take (started_place + k - started_place) (drop started_place r)) → c ≡ all (λ b. leb b 1) (take (marks_place + n - marks_place) (drop marks_place r)) → d ≡ all estimate_byte_allowed (take (estimate_place + v - estimate_place) (drop estimate_place r)) → (leb phase finished && (b && (c && d))) ≡ values_allowed t r
  unfolding values_allowed
  values_made table long phase b c d phase_is b-is c-is d-is =
      let within = (table_held t table).1.within in
      let x : started_place + k ≤ length r = omega (arith, within.clocks_fit) in
      let y : marks_place + n ≤ length r = omega (arith, parts_fit t table) in
      let z : estimate_place + v ≤ length r = omega (arith, within.variables_fit) in
      rw (phase_is, b-is, c-is, d-is, cut_bytes r started_place k x, cut_bytes r marks_place n y, cut_bytes r estimate_place v z, v-is, v₁_is, k-is, k₁-is, n-is, n₁-is)

-- an estimate, at the number of variables that was read, as a byte and then as a number that indexes
module _ (t est : List ℕ) (v v₁ : ℕ) (v₁_is : v₁ ≡ variables t) (v-is : v ≡ v₁) where
  pub estimate_made : (b : Bool) → length est ≡ v → b ≡ all estimate_byte_allowed est → b ≡ estimate_allowed (variables t) est
  unfolding estimate_allowed
  estimate_made b h b-is = rw (b-is, eq-eqb (length est) (variables t) (h ∙ v-is ∙ v₁_is))

-- a clock's flag and start time, by its number and by their places
clock_is : (t r : List ℕ) (c : ℕ) → c < clocks t → clock_at r c ≡ clock_allowed (last_time r) (get_or (started_in t r) c 0) (get_or (starts_in t r) c 0)
unfolding clock_at
clock_is t r c h =
    rw (get_or_bytes r started_place (clocks t) c h, get_or-tabulate (λ c. time_at r (starts_place + time_width * c)) 0 (clocks t) c 0 h, zero-add)

-- a table has no more clocks than a record has room for
pub clock_below_limit : (t : List ℕ) (c k : ℕ) → is_table t ≡ true → k ≡ clocks t → c < k → c < max_clocks
clock_below_limit t c k table k-is h = omega (arith, (table_held t table).1.within.clocks_fit)

pub clocks_checked : (t r : List ℕ) (k : ℕ) → k ≡ clocks t → list_all (clock_at r) (range_with_len 0 k) ≡ clocks_allowed t r
unfolding clocks_allowed
clocks_checked t r k k-is = rw k-is (each 0 (clocks t) (omega arith))
  where
    each : (c n : ℕ) → c + n ≤ clocks t → list_all (clock_at r) (range_with_len c n) ≡ all (λ c. clock_allowed (last_time r) (get_or (started_in t r) c 0) (get_or (starts_in t r) c 0)) (tabulate (λ c. c) c n)
    each c zero h = refl
    each c (suc n) h = rw (add-one c, clock_is t r c (omega arith), each (suc c) n (omega arith))
