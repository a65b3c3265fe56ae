-- A line that was read: its estimate stands at the beginning of the buffer, and what is written for it depends on no other byte there.
use Prim.Native.Nat.{ℕ, ◌≤◌, ◌<◌}
use native.Mathlib.Omega.{arith}
use mathlib.Core.Path.{◌≡◌, refl, ap, ◌∙◌}
use mathlib.Core.List.{List}
use lib.ListN.{length, take, replicate, length-replicate}
use lib.Seq.{sets, length-sets}
use borrow.Author.Tests.{le-leb, lt-leb}
use Rattle.desk_calls.specs.declared.Line.{Line}
use Rattle.desk_calls.specs.declared.Line.TheVariants.{Passed, Begin, Offer, OfferInto, Settle, NotACall}
use Rattle.desk_calls.specs.Lines.{line_of, bytes_of}
use Rattle.desk_calls.proofs.Room.{room, begin_number, settle_number, estimate_stored}
use Rattle.desk_dispatch.specs.Making.{line_report, record_at, cycles_at}
use Rattle.desk_rehearsal.specs.Rehearsal.{max_line, parsed_line, estimate_length, Carried, LineParsed}

-- a line and the buffer that it is read into
module _ (l bytes : List ℕ) (n : ℕ) (bytes_are : bytes ≡ sets (replicate n 0) 0 (bytes_of l)) (fits : length l ≤ n) where
  taken : (k : ℕ) → k ≡ length (bytes_of l) → (k ≤ length bytes) × (take k bytes ≡ bytes_of l)
  taken k h =
      let whole : length (replicate {A = ℕ} n 0) ≡ n = length-replicate n 0 in
      let same : length bytes ≡ n = ap length bytes_are ∙ length-sets (replicate n 0) 0 (bytes_of l) ∙ whole in
      (omega (arith, room l), rw bytes_are (estimate_stored l (replicate n 0) k (omega arith) h))

  line_carried : Carried (line_of l) bytes (bytes_of l)
  line_carried = go (line_of l) refl
    where
      go : (x : Line) → line_of l ≡ x → Carried x bytes (bytes_of l)
      go Passed e = tt
      go (Begin k) e = taken k (begin_number l k e)
      go (Offer time) e = tt
      go (OfferInto time room) e = tt
      go (Settle k) e = taken k (settle_number l k e)
      go NotACall e = tt

-- what is read of a line that is too long, and of any other
module _ (l bytes : List ℕ) where
  pub parsed_long : max_line < length l → LineParsed l bytes NotACall
  unfolding parsed_line
  parsed_long h = record { line_is = rw (lt-leb (length l) max_line h); carried = tt }

  pub parsed_short : (x : Line) (bytes' : List ℕ) → bytes ≡ replicate max_line 0 → length l ≤ max_line → x ≡ line_of l → bytes' ≡ sets bytes 0 (bytes_of l) → LineParsed l bytes' x
  unfolding parsed_line
  parsed_short x bytes' zeros h e s = record { line_is = rw (le-leb (length l) max_line h) e; carried = rw e (line_carried l bytes' max_line (rw zeros at s) h) }

-- so many bytes are there, and they are the estimate
module _ (bytes est : List ℕ) where
  carried_fits : (x : Line) → Carried x bytes est → estimate_length x ≤ length bytes
  carried_fits Passed h = omega arith
  carried_fits (Begin k) h = h.0
  carried_fits (Offer time) h = omega arith
  carried_fits (OfferInto time room) h = omega arith
  carried_fits (Settle k) h = h.0
  carried_fits NotACall h = omega arith

  -- so text, record and count are those of the estimate
  pub record SameLine (t r : List ℕ) (number cycles : ℕ) (x : Line) (taken : List ℕ) : Type 0 where
    pub text_same : line_report t r number x taken ≡ line_report t r number x est
    pub record_same : record_at t r x taken ≡ record_at t r x est
    pub cycles_same : cycles_at t r x taken cycles ≡ cycles_at t r x est cycles

  pub same_line : (t r : List ℕ) (number cycles : ℕ) (x : Line) → Carried x bytes est → SameLine t r number cycles x (take (estimate_length x) bytes)
  same_line t r number cycles Passed h = record { text_same = refl; record_same = refl; cycles_same = refl }
  same_line t r number cycles (Begin k) h = rw h.1 (record { text_same = refl; record_same = refl; cycles_same = refl })
  same_line t r number cycles (Offer time) h = record { text_same = refl; record_same = refl; cycles_same = refl }
  same_line t r number cycles (OfferInto time room) h = record { text_same = refl; record_same = refl; cycles_same = refl }
  same_line t r number cycles (Settle k) h = rw h.1 (record { text_same = refl; record_same = refl; cycles_same = refl })
  same_line t r number cycles NotACall h = record { text_same = refl; record_same = refl; cycles_same = refl }

pub hearing_fits : (line bytes : List ℕ) (x : Line) (k : ℕ) → LineParsed line bytes x → k ≡ estimate_length x → k ≤ length bytes
hearing_fits line bytes x k h e = omega (arith, carried_fits bytes (bytes_of line) x h.carried)
