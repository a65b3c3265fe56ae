-- Laws of a line that is answered: its text, and the marked parts under it.
use Prim.Native.Nat.{ℕ, ◌+◌, ◌^◌, min, ◌≤◌, ◌<◌}
use native.Mathlib.Nat.{zero-add}
use native.Mathlib.Omega.{arith}
use mathlib.Core.Path.{◌≡◌, refl, sym, ◌∙◌}
use mathlib.Core.Bool.{Bool, true, false, ◌&&◌}
use mathlib.Core.List.{List, []}
use lib.ListN.{length, take, replicate, length-append}
use Rattle.base.specs.Lists.{bytes_at}
use Rattle.base.proofs.Stores.{length_bytes}
use Rattle.meaning.specs.Sizes.{byte_values, number_limit}
use Rattle.meaning.specs.Program.{parts, variables}
use Rattle.meaning.specs.Cycle.{begin_refusal, offer_answer, goals_into, settle_answer}
use Rattle.desk_format.specs.declared.page.Page.{Page}
use Rattle.desk_format.specs.Pages.{Adds}
use Rattle.desk_format.proofs.Pages.{adds_append, page_length, page_written}
use Rattle.desk_calls.specs.declared.Line.{Line}
use Rattle.desk_calls.specs.declared.Line.TheVariants.{Passed, Begin, Offer, OfferInto, Settle, NotACall}
use Rattle.desk_calls.specs.Lines.{bytes_of}
use Rattle.desk_answers.specs.Answers.{line_text}
use Rattle.desk_transcript.specs.Transcript.{parts_text, max_answer}
use Rattle.desk_transcript.proofs.Lengths.{line_text_fits, begun_text_fits, settled_text_fits, offered_text_fits}
use Rattle.desk_dispatch.specs.Making.{max_goals, begin_report, offer_report, settle_report, line_report, record_at, cycles_at, ends_run}
use Rattle.desk_rehearsal.specs.Rehearsal.{is_call, parts_under, answer_text, Answered, estimate_length, LineParsed}
use Rattle.desk_rehearsal.proofs.Estimates.{SameLine, same_line}

-- the parts, where they are not asked for and where they are
module _ (asked : Bool) (t r : List ℕ) where
  pub under_none : asked ≡ false → parts_under asked t r ≡ []
  under_none h = rw h

  pub under_some : asked ≡ true → parts_under asked t r ≡ parts_text t r
  under_some h = rw h

-- a table's sizes are bytes, so the text of a line fits with the marked parts under it
module _ (t r r' : List ℕ) (n : ℕ) (few : parts t < number_limit) (narrow : variables t < byte_values) where
  abbrev Fits : Bool → List ℕ → Type 0
  Fits asked text = length text + length (parts_under asked t r') ≤ max_answer

  none_fits : (asked : Bool) (text : List ℕ) → length text ≤ max_answer → Fits (asked && false) text
  none_fits true text h = omega arith
  none_fits false text h = omega arith

  call_fits : (asked : Bool) (text : List ℕ) → length text + length (parts_text t r') ≤ max_answer → Fits (asked && true) text
  call_fits true text h = h
  call_fits false text h = omega arith

  offer_fits : (time : ℕ) (goals : List ℕ) (asked : Bool) → Fits (asked && true) (offer_report t r time goals)
  offer_fits time goals asked =
      call_fits asked (offer_report t r time goals)
      (offered_text_fits t r' (offer_answer t r time (length goals)) few (bytes_at (goals_into t r time goals) 0 (variables t)) (rw length_bytes narrow))

  report_fits : (x : Line) (est : List ℕ) (asked : Bool) → Fits (asked && is_call x) (line_report t r n x est)
  report_fits Passed est asked = none_fits asked [] (omega arith)
  report_fits (Begin k) est asked = call_fits asked (begin_report t est r) (begun_text_fits t r' (begin_refusal t est (length r)) few)
  report_fits (Offer time) est asked = offer_fits time (replicate (variables t) 0) asked
  report_fits (OfferInto time room) est asked = offer_fits time (replicate (min room max_goals) 0) asked
  report_fits (Settle k) est asked =
      call_fits asked (settle_report t r est) (settled_text_fits t r' (settle_answer t r est) few)
  report_fits NotACall est asked = none_fits asked (line_text n) (line_text_fits n)

-- After a line is read: x is the line, its estimate stands at the beginning of `bytes`, and a text has been written for it
module _ (t r line bytes : List ℕ) (cycles number k : ℕ) (x : Line) (asked b ends : Bool) (r' out out' : List ℕ) (m : ℕ) (old mid new : Page) (h : LineParsed line bytes x) (k-is : k ≡ estimate_length x) (b-is : b ≡ is_call x) (ends_is : ends ≡ ends_run x)
    (count : m ≡ cycles_at t r x (take k bytes) cycles) (written : Adds (line_report t r number x (take k bytes)) old mid) (left : r' ≡ record_at t r x (take k bytes)) (under : Adds (parts_under (asked && b) t r') mid new) where
  abbrev text : List ℕ
  text = answer_text t r number asked x (bytes_of line)

  same : SameLine bytes (bytes_of line) t r number cycles x (take k bytes)
  same = rw k-is (same_line bytes (bytes_of line) t r number cycles x h.carried)

  after_is : r' ≡ record_at t r x (bytes_of line)
  after_is = left ∙ same.record_same

  whole : Adds text old new
  whole = adds_append (rw same.text_same at written) (rw (b-is, after_is) at under)

  module _ (few : parts t < number_limit) (narrow : variables t < byte_values) where
    text_fits : length text ≤ max_answer
    text_fits = omega (arith, length-append (line_report t r number x (bytes_of line)) (parts_under (asked && is_call x) t (record_at t r x (bytes_of line))), report_fits t r (record_at t r x (bytes_of line)) number few narrow x (bytes_of line) asked)

    module _ (before : out ≡ old.out.now) (none : old.length ≡ 0) where
      pub answer_short : new.length ≤ max_answer
      answer_short = let size : new.length ≡ length text = page_length none (omega (arith, text_fits)) whole in omega (arith, size, text_fits)

      pub line_answered : out' ≡ new.out.now → Answered t r cycles number asked line r' out out' (record { length = new.length; cycles = m; ends = ends })
      line_answered after =
          record {
            record_is = rw (sym h.line_is) after_is;
            turned =
                rw (sym h.line_is)
                (record {
                  written = page_written before none after (omega (arith, text_fits)) whole;
                  cycles_are = count ∙ same.cycles_same;
                  ends_is = ends_is;
                });
          }
