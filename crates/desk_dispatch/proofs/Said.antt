-- The call of a line is made: one law for each thing that a line can say.
use Prim.Native.Nat.{ℕ, min}
use mathlib.Core.Path.{◌≡◌, refl}
use mathlib.Core.Bool.{true, false}
use mathlib.Core.List.{List}
use lib.ListN.{replicate}
use Rattle.meaning.specs.Program.{variables}
use Rattle.meaning.specs.Cycle.{begun_into, offered_into, settled_into}
use Rattle.desk_calls.specs.declared.Line.{Line}
use Rattle.desk_calls.specs.declared.Line.TheVariants.{Passed, Begin, Offer, OfferInto, Settle, NotACall}
use Rattle.desk_answers.specs.Answers.{line_text}
use Rattle.desk_dispatch.specs.Counting.{begun_cycles, settled_cycles}
use Rattle.desk_dispatch.specs.Making.{max_goals, record_at}

-- the record that it leaves
module _ (t r est : List ℕ) (x : Line) where
  pub leaves_passed : x ≡ Passed → r ≡ record_at t r x est
  leaves_passed e = rw e

  pub leaves_no_call : x ≡ NotACall → r ≡ record_at t r x est
  leaves_no_call e = rw e

  module _ (r' : List ℕ) where
    pub leaves_begin : (k : ℕ) → x ≡ Begin k → r' ≡ begun_into t est r → r' ≡ record_at t r x est
    leaves_begin k e h = rw e h

    pub leaves_settle : (k : ℕ) → x ≡ Settle k → r' ≡ settled_into t r est → r' ≡ record_at t r x est
    leaves_settle k e h = rw e h

    pub leaves_offer : (time v room : ℕ) → x ≡ Offer time → v ≡ variables t → room ≡ v → r' ≡ offered_into t r time room → r' ≡ record_at t r x est
    leaves_offer time v room e v-is room-is h = rw e (rw (room-is, v-is) at h)

    pub leaves_offer_into : (time k room : ℕ) → x ≡ OfferInto time k → room ≡ min k max_goals → r' ≡ offered_into t r time room → r' ≡ record_at t r x est
    leaves_offer_into time k room e room-is h = rw e (rw room-is at h)
