-- The pass over the parts makes the definition's flags and starts.
use Prim.Native.Nat.{ℕ, zero, suc, ◌+◌, ◌*◌, ◌/◌, ◌%◌, ◌≤◌, ◌<◌}
use native.Mathlib.Omega.{arith}
use mathlib.Core.Path.{◌≡◌, refl, sym, ap, ap₂, ◌∙◌}
use mathlib.Core.Logic.{inr}
use mathlib.Core.Bool.{Bool, true, false, cond, ◌&&◌}
use mathlib.Core.List.{List, [], ◌∷◌, ◌++◌}
use lib.ListN.{length, get_or, set}
use lib.Seq.{sets, set-get_or}
use Rattle.base.specs.Lists.{flat, tabulate, bytes_at}
use Rattle.base.proofs.Lists.{and_right, length-tabulate}
use Rattle.base.proofs.Stores.{length_bytes, set_before, sets_inside, sets_past, get_or-sets_out}
use Rattle.meaning.specs.declared.Form.TheVariants.{Table}
use Rattle.meaning.specs.Sizes.{max_clocks, time_width, little_endian, little_endian_value, byte_values}
use Rattle.meaning.specs.declared.kinds.Kind.TheVariants.{Start as START}
use Rattle.meaning.specs.Program.{parts, variables, clocks, entry_at}
use Rattle.meaning.specs.Table.{operand_of, is_table}
use Rattle.meaning.specs.Record.{started_place, starts_place, marks_place, record_length, time_at, last_time, started_in, starts_in, is_mark, started_flag}
use Rattle.meaning.specs.Cycle.{is_kind, leaves_from, clocks_after}
use Rattle.meaning.proofs.Clocks.{length_setting, none_after, part_after_lem}
use Rattle.meaning.proofs.Records.{length_times}
use Rattle.meaning.proofs.Entries.{entry_allowed_lem, start_fits}
use Rattle.run_record.proofs.Marks.{clocks_fit}
use Rattle.run_clocks.specs.Starting.{clock_started, part_started, parts_started, clocks_settled}

-- A time stored over one of several
times_set : (xs : List ℕ) (c x : ℕ) → c < length xs → sets (flat (little_endian time_width) xs) (time_width * c) (little_endian time_width x) ≡ flat (little_endian time_width) (set xs c x)
times_set [] c x h = absurd (omega arith)
times_set (y ∷ ys) zero x h = refl
times_set (y ∷ ys) (suc c) x h =
    let k : time_width * suc c ≡ time_width + time_width * c = omega arith in
    rw k (sets_past (little_endian time_width y) (flat (little_endian time_width) ys) (time_width * c) (little_endian time_width x) ∙ ap (λ l. little_endian time_width y ++ l) (times_set ys c x (omega arith)))

-- A record with flags and starts of n clocks
module _ (r : List ℕ) (n : ℕ) (long : record_length ≤ length r) (fits : n ≤ max_clocks) where
  with_clocks : List ℕ → List ℕ → List ℕ
  with_clocks fs ss = sets (sets r started_place fs) starts_place (flat (little_endian time_width) ss)

  module _ (fs ss : List ℕ) (f-long : length fs ≡ n) (s-long : length ss ≡ n) where
    mark_there : (p : ℕ) → get_or (with_clocks fs ss) (marks_place + p) 0 ≡ get_or r (marks_place + p) 0
    unfolding with_clocks
    mark_there p = get_or-sets_out (flat (little_endian time_width) ss) (sets r started_place fs) starts_place (marks_place + p) (inr (omega (arith, length_times ss))) ∙ get_or-sets_out fs r started_place (marks_place + p) (inr (omega arith))

    -- the stores of one clock change it in both
    clock_in_both : (c time : ℕ) → c < n → sets (set (with_clocks fs ss) (started_place + c) started_flag) (starts_place + time_width * c) (little_endian time_width time) ≡ with_clocks (set fs c started_flag) (set ss c time)
    unfolding with_clocks
    clock_in_both c time h =
        let w : List ℕ = flat (little_endian time_width) ss in
        let l : length w ≡ time_width * length ss = length_times ss in
        ap (λ a. sets a (starts_place + time_width * c) (little_endian time_width time)) (set_before (sets r started_place fs) (started_place + c) starts_place started_flag w (omega arith) ∙ ap (λ a. sets a starts_place w) (sets_inside r started_place c fs (started_flag ∷ []) (omega arith)))
        ∙ sets_inside (sets r started_place (set fs c started_flag)) starts_place (time_width * c) w (little_endian time_width time) (omega arith)
        ∙ ap (λ a. sets (sets r started_place (set fs c started_flag)) starts_place a) (times_set ss c time (omega arith))

-- Parts
module _ (t r : List ℕ) (table : is_table t ≡ true) (long : record_length ≤ length r) (time : ℕ) where
  abbrev with_started : List ℕ → List ℕ → List ℕ
  with_started = with_clocks r (clocks t) long (clocks_fit t table)

  -- whether part p is a marked START, and what clocks have once it has set its own
  abbrev starting : ℕ → Bool
  starting p = is_mark (get_or r (marks_place + p) 0) && is_kind START (entry_at Table t p)

  abbrev set_by : ℕ → ℕ → List ℕ → List ℕ
  set_by p x had = cond (starting p) (set had (operand_of t p).b1 x) had

  length_by : (p x : ℕ) (had : List ℕ) → length had ≡ clocks t → length (set_by p x had) ≡ clocks t
  length_by p x had l = length_setting (starting p) had (operand_of t p).b1 x ∙ l

  -- part p
  part_turn : (p : ℕ) (fs ss : List ℕ) → p < parts t → length fs ≡ clocks t → length ss ≡ clocks t → part_started t time p (with_started fs ss) ≡ with_started (set_by p started_flag fs) (set_by p time ss)
  unfolding part_started clock_started
  part_turn p fs ss h fl sl = rw (mark_there r (clocks t) long (clocks_fit t table) fs ss fl sl p) (go (starting p) refl)
    where
      go : (b : Bool) → starting p ≡ b → cond b (sets (set (with_started fs ss) (started_place + (operand_of t p).b1) started_flag) (starts_place + time_width * (operand_of t p).b1) (little_endian time_width time)) (with_started fs ss) ≡ with_started (cond b (set fs (operand_of t p).b1 started_flag) fs) (cond b (set ss (operand_of t p).b1 time) ss)
      go true e = clock_in_both r (clocks t) long (clocks_fit t table) fs ss fl sl (operand_of t p).b1 time (start_fits (variables t) (clocks t) (entry_at Table t p) (entry_allowed_lem t table p h) (and_right (is_mark (get_or r (marks_place + p) 0)) (is_kind START (entry_at Table t p)) e))
      go false e = refl

  -- n parts from p on
  parts_turn : (n p : ℕ) (fs ss : List ℕ) → p + n ≤ parts t → length fs ≡ clocks t → length ss ≡ clocks t
      → parts_started t time p n (with_started fs ss)
      ≡ with_started (clocks_after (clocks t) (leaves_from t p (bytes_at r (marks_place + p) n)) started_flag fs) (clocks_after (clocks t) (leaves_from t p (bytes_at r (marks_place + p) n)) time ss)
  unfolding parts_started leaves_from
  parts_turn zero p fs ss h fl sl = rw (none_after (clocks t) started_flag fs fl, none_after (clocks t) time ss sl)
  parts_turn (suc n) p fs ss h fl sl =
      let e : marks_place + suc p ≡ suc (marks_place + p) = omega arith in
      let m : ℕ = get_or r (marks_place + p) 0 in
      let ms : List ℕ = bytes_at r (suc (marks_place + p)) n in
      ap (parts_started t time (suc p) n) (part_turn p fs ss (omega arith) fl sl)
      ∙ rw e at (parts_turn n (suc p) (set_by p started_flag fs) (set_by p time ss) (omega arith) (length_by p started_flag fs fl) (length_by p time ss sl))
      ∙ sym (ap₂ with_started (part_after_lem (clocks t) started_flag t p m ms fs fl) (part_after_lem (clocks t) time t p m ms ss sl))

-- What stands in a record, stored again
stores_own : (r : List ℕ) (i n : ℕ) → sets r i (bytes_at r i n) ≡ r
stores_own r i zero = refl
stores_own r i (suc n) = ap (λ a. sets a (suc i) (bytes_at r (suc i) n)) (set-get_or r i 0) ∙ stores_own r (suc i) n

module _ (r : List ℕ) (bytes : (j : ℕ) → get_or r j 0 < byte_values) where
  value_own : (i w : ℕ) → little_endian (suc w) (little_endian_value (get_or r i 0) (bytes_at r (suc i) w)) ≡ bytes_at r i (suc w)
  value_own i zero = let e : get_or r i 0 % byte_values ≡ get_or r i 0 = omega (arith, bytes i) in rw e
  value_own i (suc w) =
      let x : ℕ = little_endian_value (get_or r (suc i) 0) (bytes_at r (suc (suc i)) w) in
      let low : (get_or r i 0 + byte_values * x) % byte_values ≡ get_or r i 0 = omega (arith, bytes i) in
      let high : (get_or r i 0 + byte_values * x) / byte_values ≡ x = omega (arith, bytes i) in
      rw (low, high) (ap (λ l. get_or r i 0 ∷ l) (value_own (suc i) w))

  times_own : (c n : ℕ) → flat (little_endian time_width) (tabulate (λ c. time_at r (starts_place + time_width * c)) c n) ≡ bytes_at r (starts_place + time_width * c) (time_width * n)
  times_own c zero = refl
  times_own c (suc n) =
      let i : ℕ = starts_place + time_width * c in
      let k : time_width * suc n ≡ suc (suc (suc (suc (time_width * n)))) = omega arith in
      let j : starts_place + time_width * suc c ≡ suc (suc (suc (suc i))) = omega arith in
      rw k (ap₂ (λ a b. a ++ b) (value_own i 3) (times_own (suc c) n ∙ ap (λ j. bytes_at r j (time_width * n)) j))

-- All parts
module _ (t r : List ℕ) (table : is_table t ≡ true) (long : record_length ≤ length r) (bytes : (j : ℕ) → get_or r j 0 < byte_values) where
  -- a record holds its own flags and starts
  own_clocks : with_clocks r (clocks t) long (clocks_fit t table) (started_in t r) (starts_in t r) ≡ r
  unfolding with_clocks
  own_clocks = ap₂ (λ a b. sets a starts_place b) (stores_own r started_place (clocks t)) (times_own r bytes 0 (clocks t)) ∙ stores_own r starts_place (time_width * clocks t)

  pub clocks_made : (w : List ℕ) (time : ℕ) → time ≡ last_time r → w ≡ parts_started t time 0 (parts t) r → w ≡ clocks_settled t r
  unfolding with_clocks
  clocks_made w time time_is w-is =
      w-is
      ∙ ap (λ (x : ℕ). parts_started t x 0 (parts t) r) time_is
      ∙ ap (parts_started t (last_time r) 0 (parts t)) (sym own_clocks)
      ∙ parts_turn t r table long (last_time r) (parts t) 0 (started_in t r) (starts_in t r) (omega arith) (length_bytes r started_place (clocks t)) (length-tabulate _ 0 (clocks t))
