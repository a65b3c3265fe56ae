-- Starting clocks: what the stores of one clock and of one part are, and part after part.
use Prim.Native.Nat.{ℕ, suc, ◌+◌, ◌-◌, ◌*◌, ◌≤◌, ◌<◌}
use native.Mathlib.Numerals.{add-one}
use native.Mathlib.Omega.{arith}
use mathlib.Core.Path.{◌≡◌, refl, sym, ◌∙◌}
use mathlib.Core.Bool.{Bool, true, false, and-false}
use mathlib.Core.List.{List}
use lib.ListN.{get_or, set}
use lib.Seq.{sets}
use Rattle.meaning.specs.declared.Entry.{Entry}
use Rattle.meaning.specs.declared.Form.TheVariants.{Table}
use Rattle.meaning.specs.Sizes.{max_clocks, time_width, little_endian}
use Rattle.meaning.specs.declared.kinds.Kind.{Kind}
use Rattle.meaning.specs.declared.kinds.Kind.TheVariants.{Start as START}
use Rattle.meaning.specs.Kinds.{kind_of, known}
use Rattle.meaning.specs.Program.{parts, variables, clocks, entry_at}
use Rattle.meaning.specs.Table.{is_table}
use Rattle.meaning.specs.Record.{started_place, starts_place, marks_place, is_mark, started_flag}
use Rattle.meaning.proofs.Entries.{read_allowed, start_fits}
use Rattle.program_table.proofs.KindTests.{kind_byte, kind_byte_not}
use Rattle.run_record.proofs.Marks.{clocks_fit}
use Rattle.run_clocks.specs.Starting.{clock_started, part_started, parts_started}

-- One clock, by what the code stores
pub clock_stored : (r a b : List ℕ) (c time i j : ℕ) → i ≡ c → a ≡ set r (started_place + i) started_flag → j ≡ c → b ≡ sets a (starts_place + time_width * j) (little_endian time_width time) → b ≡ clock_started c time r
unfolding clock_started
clock_stored r a b c time i j i-is a-is j-is b-is = b-is ∙ rw (a-is, i-is, j-is)

-- One part, by what the code reads of it
module _ (t r : List ℕ) (p time : ℕ) (b : Bool) (b-is : b ≡ is_mark (get_or r (marks_place + p) 0)) where
  pub part_starts : (k : Kind) (e : Entry) (s : List ℕ) → b ≡ true → k ≡ kind_of (entry_at Table t p).kind → k ≡ START → e ≡ entry_at Table t p → s ≡ clock_started e.operand.b1 time r → s ≡ part_started t time p r
  unfolding part_started known
  part_starts k e s h k-is start e-is s-is = s-is ∙ rw (e-is, ← b-is, h, kind_byte START (entry_at Table t p).kind refl (sym k-is ∙ start))

  pub part_unmarked : b ≡ false → r ≡ part_started t time p r
  unfolding part_started
  part_unmarked h = rw (← b-is, h)

  pub part_other : (k : Kind) → k ≡ kind_of (entry_at Table t p).kind → (k ≡ START → ⊥) → r ≡ part_started t time p r
  unfolding part_started
  part_other k k-is n = rw (kind_byte_not START (entry_at Table t p).kind (λ e. n (k-is ∙ e)), and-false (is_mark (get_or r (marks_place + p) 0)))

-- a START of a table names a clock that the record has room for
pub clock_named : (t : List ℕ) (p : ℕ) (k : Kind) (e : Entry) → is_table t ≡ true → p < parts t → k ≡ kind_of (entry_at Table t p).kind → k ≡ START → e ≡ entry_at Table t p → e.operand.b1 < max_clocks
unfolding known
clock_named t p k e table here k-is start e-is =
    omega (arith, start_fits (variables t) (clocks t) e (read_allowed t p e table here e-is) (rw e-is (kind_byte START (entry_at Table t p).kind refl (sym k-is ∙ start))), clocks_fit t table)

-- Part after part
pub parts_step : (t first r new : List ℕ) (time p n : ℕ) → n ≡ parts t → p < n → new ≡ part_started t time p r → parts_started t time p (parts t - p) r ≡ parts_started t time 0 (parts t) first → parts_started t time (p + 1) (parts t - (p + 1)) new ≡ parts_started t time 0 (parts t) first
unfolding parts_started
parts_step t first r new time p n n-is h New-is i =
    let k : parts t - p ≡ suc (parts t - (p + 1)) = omega arith in
    rw (New-is, add-one p) (rw (k, add-one p) at i)

pub parts_started_end : (t r w : List ℕ) (time p n : ℕ) → n ≡ parts t → n ≤ p → parts_started t time p (parts t - p) r ≡ w → r ≡ w
unfolding parts_started
parts_started_end t r w time p n n-is h i = let k : parts t - p ≡ 0 = omega arith in rw k at i
