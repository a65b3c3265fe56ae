-- The check of the MAINTAINs: what it is judged by stays while the marks change, and what a part's turn leaves to be done.
use Prim.Native.Nat.{ℕ, zero, suc, ◌+◌, ◌-◌, ◌*◌, ◌<◌, ◌≤◌}
use native.Mathlib.Nat.{sub-zero}
use native.Mathlib.Numerals.{add-one}
use native.Mathlib.Omega.{arith}
use mathlib.Core.Path.{◌≡◌, refl, sym, ap, ◌∙◌}
use mathlib.Core.Logic.{inl, inr}
use mathlib.Core.Bool.{Bool, true, false, cond, and-false}
use mathlib.Core.List.{List, [], ◌∷◌}
use lib.Dec.{eqb}
use lib.ListN.{length, get_or, take, drop, set}
use lib.Seq.{sets, set-get_or, get_or-set_other}
use borrow.Author.Tests.{eqb-true}
use Rattle.base.specs.Lists.{bytes_at}
use Rattle.base.proofs.Lists.{tabulate-same}
use Rattle.base.proofs.Stores.{length_bytes, bytes_same, take_bytes, bytes_sets_out}
use Rattle.meaning.specs.declared.Operand.{Operand}
use Rattle.meaning.specs.declared.Entry.{Entry}
use Rattle.meaning.specs.declared.Form.TheVariants.{Table}
use Rattle.meaning.specs.Sizes.{max_variables, max_clocks, time_width, little_endian_value}
use Rattle.meaning.specs.declared.kinds.Kind.{Kind}
use Rattle.meaning.specs.declared.kinds.Kind.TheVariants.{Maintain as MAINTAIN}
use Rattle.meaning.specs.Kinds.{kind_of, number_of, known, condition_allowed}
use Rattle.meaning.specs.Program.{parts, variables, clocks, entry_at}
use Rattle.meaning.specs.Table.{inside_of, is_table}
use Rattle.meaning.specs.Conditions.{Situation, violated}
use Rattle.meaning.specs.Record.{estimate_place, started_place, starts_place, marks_place, record_length, time_at, estimate_in, started_in, starts_in, is_mark}
use Rattle.meaning.specs.Cycle.{breaks, checked_from, checked_marks, situation}
use Rattle.meaning.proofs.Entries.{read_allowed, condition_fits}
use Rattle.meaning.proofs.Tables.{table_held}
use Rattle.program_table.proofs.KindTests.{kind_byte, kind_byte_not}
use Rattle.run_record.proofs.Marks.{mark_inside}
use Rattle.run_offer.specs.CheckSteps.{judging, checked_part, skip_after, checked_rest}

-- Records that hold the same between time and marks judge the same
module _ (t r s : List ℕ) (time : ℕ) (table : is_table t ≡ true) (same : (j : ℕ) → estimate_place ≤ j → j < marks_place → get_or s j 0 ≡ get_or r j 0) where
  fits : (variables t ≤ max_variables) × (clocks t ≤ max_clocks)
  fits = let (p, held, e) = table_held t table in (held.within.variables_fit, held.within.clocks_fit)

  start_same : (c : ℕ) → c < clocks t → time_at s (starts_place + time_width * c) ≡ time_at r (starts_place + time_width * c)
  start_same c l = ap (λ (bs : List ℕ). little_endian_value (get_or bs 0 0) (drop 1 bs)) (bytes_same r s (starts_place + time_width * c) time_width (λ j a b. same j (omega arith) (omega (arith, fits))))

  pub judging_same : judging t s time ≡ judging t r time
  unfolding judging
  judging_same =
      let e : estimate_in t s ≡ estimate_in t r = bytes_same r s estimate_place (variables t) (λ j a b. same j (omega arith) (omega (arith, fits.0))) in
      let f : started_in t s ≡ started_in t r = bytes_same r s started_place (clocks t) (λ j a b. same j (omega arith) (omega (arith, fits.1))) in
      let g : starts_in t s ≡ starts_in t r = tabulate-same _ _ 0 (clocks t) (λ c a b. start_same c (omega arith)) in
      rw (e, f, g)

-- One part's turn: by its mark and its kind it is no MAINTAIN that may break, or its condition decides
module _ (t : List ℕ) (sit : Situation) (p m : ℕ) (b : Bool) (b-is : b ≡ is_mark m) where
  pub breaks_unmarked : b ≡ false → false ≡ breaks t sit p m
  breaks_unmarked h = rw (← b-is, h)

  module _ (kind : Kind) (kind-is : kind ≡ kind_of (entry_at Table t p).kind) where
    pub breaks_other : (kind ≡ MAINTAIN → ⊥) → false ≡ breaks t sit p m
    breaks_other h = rw (kind_byte_not MAINTAIN (entry_at Table t p).kind (λ e. h (kind-is ∙ e)), and-false)

    pub breaks_if : (e : Entry) (c : Bool) → b ≡ true → kind ≡ MAINTAIN → e ≡ entry_at Table t p → c ≡ violated sit e.operand → c ≡ breaks t sit p m
    unfolding known
    breaks_if e c marked h e-is c-is = rw (← b-is, marked, kind_byte MAINTAIN (entry_at Table t p).kind refl (sym kind-is ∙ h)) (c-is ∙ ap (λ (a : Entry). violated sit a.operand) e-is)

-- the condition of a MAINTAIN of the table is allowed
pub maintained : (t : List ℕ) (p : ℕ) (kind : Kind) (e : Entry) → is_table t ≡ true → p < parts t → kind ≡ kind_of (entry_at Table t p).kind → kind ≡ MAINTAIN → e ≡ entry_at Table t p → condition_allowed (variables t) (clocks t) e.operand ≡ true
unfolding known number_of
maintained t p kind e table here kind-is h e-is =
    let k : eqb e.kind 6 ≡ true = rw e-is (kind_byte MAINTAIN (entry_at Table t p).kind refl (sym kind-is ∙ h)) in
    condition_fits (variables t) (clocks t) e (read_allowed t p e table here e-is) (inr (inl (eqb-true e.kind 6 k)))

-- a condition is judged by the part of the record that holds the estimate
pub judged_lent : (t r : List ℕ) (time v w : ℕ) (o : Operand) (c : Bool) → is_table t ≡ true → record_length ≤ length r → v ≡ variables t → w ≡ v → c ≡ violated (situation t r (take (estimate_place + w - estimate_place) (drop estimate_place r)) time) o → c ≡ violated (judging t r time) o
unfolding judging
judged_lent t r time v w o c table long v-is w-is c-is =
    let n : estimate_place + w - estimate_place ≡ variables t = omega arith in
    let l : take (estimate_place + w - estimate_place) (drop estimate_place r) ≡ estimate_in t r = rw n (take_bytes r estimate_place (variables t) (omega (arith, (table_held t table).1.within.variables_fit))) in
    rw l at c-is

-- what is lent is as long as there are variables
pub lent_length : (t r : List ℕ) (v w : ℕ) → is_table t ≡ true → record_length ≤ length r → v ≡ variables t → w ≡ v → variables t ≤ length (take (estimate_place + w - estimate_place) (drop estimate_place r))
lent_length t r v w table long v-is w-is =
    let n : estimate_place + w - estimate_place ≡ variables t = omega arith in
    rw (n, take_bytes r estimate_place (variables t) (omega (arith, (table_held t table).1.within.variables_fit)), length_bytes) (omega arith)

-- what is left to be done begins with part p's turn
checked_next : (t r : List ℕ) (time p skip : ℕ) → p < parts t → checked_rest t time r p skip ≡ sets r (marks_place + p) (checked_from t (judging t r time) p (get_or r (marks_place + p) 0 ∷ bytes_at r (suc (marks_place + p)) (parts t - suc p)) skip)
unfolding checked_rest
checked_next t r time p skip h =
    let k : parts t - p ≡ suc (parts t - suc p) = omega arith in
    rw k

-- a run of stores that begins with what is there
sets_kept : (r xs : List ℕ) (i : ℕ) → sets r i (get_or r i 0 ∷ xs) ≡ sets r (suc i) xs
sets_kept r xs i = ap (λ (m : List ℕ). sets m (suc i) xs) (set-get_or r i 0)

-- a turn leaves to be done what the parts after it do
pub checked_step : (t r s w : List ℕ) (time p skip k n : ℕ) → is_table t ≡ true → n ≡ parts t → p < n → s ≡ checked_part r p skip → k ≡ skip_after t (judging t r time) p (get_or r (marks_place + p) 0) skip → checked_rest t time r p skip ≡ w → checked_rest t time s (p + 1) k ≡ w
unfolding checked_part skip_after checked_from checked_rest
checked_step t r s w time p zero k n table n-is h s-is k-is i =
    let e : marks_place + suc p ≡ suc (marks_place + p) = omega arith in
    rw (s-is, k-is, add-one p, e) (sym (sets_kept r (checked_from t (judging t r time) (suc p) (bytes_at r (suc (marks_place + p)) (parts t - suc p)) (cond (breaks t (judging t r time) p (get_or r (marks_place + p) 0)) (inside_of t p) 0)) (marks_place + p)) ∙ (sym (checked_next t r time p 0 (rw n-is at h)) ∙ i))
checked_step t r s w time p (suc skip) k n table n-is h s-is k-is i =
    let e : marks_place + suc p ≡ suc (marks_place + p) = omega arith in
    let j : judging t (set r (marks_place + p) 0) time ≡ judging t r time = judging_same t r (set r (marks_place + p) 0) time table (λ n a b. get_or-set_other r (marks_place + p) n 0 0 (λ d. omega (arith, d))) in
    let b : bytes_at (set r (marks_place + p) 0) (suc (marks_place + p)) (parts t - suc p) ≡ bytes_at r (suc (marks_place + p)) (parts t - suc p) = bytes_sets_out (0 ∷ []) r (marks_place + p) (suc (marks_place + p)) (parts t - suc p) (inr (omega arith)) in
    rw (s-is, k-is, add-one p, e, j, b) (sym (checked_next t r time p (suc skip) (rw n-is at h)) ∙ i)

pub checked_end : (t r w : List ℕ) (time p skip n : ℕ) → n ≡ parts t → n ≤ p → checked_rest t time r p skip ≡ w → r ≡ w
unfolding checked_from checked_rest
checked_end t r w time p skip n n-is h i =
    let k : parts t - p ≡ 0 = omega arith in
    rw k at i

pub checked_start : (t r : List ℕ) (time : ℕ) → checked_rest t time r 0 0 ≡ sets r marks_place (checked_marks t r time)
unfolding checked_rest judging
checked_start t r time = rw sub-zero

-- the mark that is dropped stands in the record
pub mark_dropping : (t r : List ℕ) (p q : ℕ) → is_table t ≡ true → record_length ≤ length r → p < parts t → q ≡ p → marks_place + q < length r
mark_dropping t r p q table long here q-is = rw q-is (mark_inside t table r p long here)
