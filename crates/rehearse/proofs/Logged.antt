-- What a run has come to is what its lines come to, one after the other: record, count of cycles, number and text.
use Prim.Native.Nat.{ℕ, ◌-◌, ◌<◌}
use mathlib.Core.Path.{◌≡◌, refl, sym, ap, ap₂, ◌∙◌}
use mathlib.Core.Bool.{Bool, true}
use mathlib.Core.List.{List, [], ◌∷◌, ◌++◌, append-nil}
use lib.ListN.{length, take}
use Rattle.desk_calls.specs.Lines.{bytes_of}
use Rattle.desk_dispatch.specs.Counting.{more}
use Rattle.desk_dispatch.specs.Making.{record_at, cycles_at}
use Rattle.desk_rehearsal.specs.Rehearsal.{max_line, parsed_line, answer_text}
use Rattle.desk_rehearsal.specs.Log.{record_through, cycles_through, answers_through, number_through}
use Rattle.desk_rehearsal.proofs.Log.{record_more, cycles_more, answers_more, number_more, number_next}
use Rattle.rehearse.specs.declared.lines.Stand.{Stand}
use Rattle.rehearse.specs.Standing.{moved, next_end, up_to, Goes, ReadsOn, Takes, Ran}
use Rattle.rehearse.specs.Standing as standing
use Rattle.rehearse.specs.Input.{lines_of, input_read, lines_read, lines_taken, lines_answered, text_of, text_read, text_taken, text_answered}
use Rattle.rehearse.proofs.Answering.{every_line_answered}

pub record Logged (t r : List ℕ) (asked : Bool) (lines : List (List ℕ)) (text r' : List ℕ) (s : Stand) : Type 0 where
  pub record_is : r' ≡ record_through t r lines
  pub cycles_are : s.cycles ≡ cycles_through t r 0 lines
  pub number_is : s.number ≡ number_through 0 lines
  pub text_is : text ≡ answers_through t (more 0) r asked lines

module _ (t r : List ℕ) (asked : Bool) (lines : List (List ℕ)) (text r' : List ℕ) (s : Stand) (h : Logged t r asked lines text r' s) where
  -- a line more
  goes_logged : (line : List ℕ) (from : ℕ) (r'' : List ℕ) (e : Stand) → Goes t r' asked line s from r'' e → Logged t r asked (lines ++ (line ∷ [])) (text ++ text_of t r' asked s line) r'' e
  goes_logged line from r'' e g =
      let x = parsed_line line in
      let est = bytes_of line in
      let after = record_through t r lines in
      record {
        record_is = g.answered.record_is ∙ ap (λ (q : List ℕ). record_at t q x est) h.record_is ∙ sym (record_more t line lines r);
        cycles_are =
            ap (λ (z : Stand). z.cycles) g.stand_is ∙ g.answered.turned.cycles_are ∙ ap₂ (λ (q : List ℕ) (n : ℕ). cycles_at t q x est n) h.record_is h.cycles_are
            ∙ sym (cycles_more t line lines r 0);
        number_is = ap (λ (z : Stand). z.number) g.stand_is ∙ ap more h.number_is ∙ sym (number_more line lines 0);
        text_is =
            ap₂ (λ (a b : List ℕ). a ++ b) h.text_is (ap₂ (λ (q : List ℕ) (n : ℕ). answer_text t q n asked x est) h.record_is (ap more h.number_is ∙ sym (number_next lines 0)))
            ∙ sym (answers_more t line asked lines (more 0) r);
      }

  -- nothing more
  same_logged : (r'' : List ℕ) (e : Stand) → r'' ≡ r' → e.cycles ≡ s.cycles → e.number ≡ s.number → Logged t r asked (lines ++ []) (text ++ []) r'' e
  same_logged r'' e same cycles number =
      rw (append-nil lines, append-nil text)
      (record { record_is = same ∙ h.record_is; cycles_are = cycles ∙ h.cycles_are; number_is = number ∙ h.number_is; text_is = h.text_is })

  read_logged : (input : List ℕ) (n : ℕ) (r'' input' : List ℕ) (e : Stand) (x : ReadsOn t r' asked input s n r'' input' e)
      → Logged t r asked (lines ++ lines_read t r' asked input s n r'' input' e x) (text ++ text_read t r' asked input s n r'' input' e x) r'' e
  read_logged input n r'' input' e (standing.failed reads same is) = same_logged r'' e same (ap (λ (z : Stand). z.cycles) is) (ap (λ (z : Stand). z.number) is)
  read_logged input n r'' input' e (standing.brought k reads l same is) = same_logged r'' e same (ap (λ (z : Stand). z.cycles) is) (ap (λ (z : Stand). z.number) is)
  read_logged input n r'' input' e (standing.ended last reads goes is) =
      let g = goes_logged (take n input') 0 r'' last goes in
      record { record_is = g.record_is; cycles_are = ap (λ (z : Stand). z.cycles) is ∙ g.cycles_are; number_is = ap (λ (z : Stand). z.number) is ∙ g.number_is; text_is = g.text_is }

  turn_logged : (input r'' input' : List ℕ) (e : Stand) (x : Takes t r' asked input s r'' input' e)
      → Logged t r asked (lines ++ lines_taken t r' asked input s r'' input' e x) (text ++ text_taken t r' asked input s r'' input' e x) r'' e
  turn_logged input r'' input' e (standing.line l g same) = goes_logged (up_to input s (next_end input s)) _ r'' e g
  turn_logged input r'' input' e (standing.full l room g same) = goes_logged (up_to input s s.held) _ r'' e g
  turn_logged input r'' input' e (standing.on l room reads) = read_logged (moved input s) (s.held - s.from) r'' input' e reads

-- so it is of every run, as far as it has come
pub run_logged : (t r : List ℕ) (asked : Bool) (input : List ℕ) (turns : ℕ) (r' input' : List ℕ) (s : Stand) (x : Ran t r asked input turns r' input' s)
    → Logged t r asked (lines_answered t r asked input turns r' input' s x) (text_answered t r asked input turns r' input' s x) r' s
run_logged t r asked input _ _ _ _ standing.begun = record { record_is = refl; cycles_are = refl; number_is = refl; text_is = refl }
run_logged t r asked input _ _ _ _ (standing.further turns r' input' r'' input'' s e before going takes) =
    turn_logged t r asked _ _ r' s (run_logged t r asked input turns r' input' s before) input' r'' input'' e takes

-- The whole text of a run that is complete follows from what it has read: two rehearsals of the same program and the same lines write the same
pub log_written : (t r : List ℕ) (asked : Bool) (input : List ℕ) → max_line < length input → (turns : ℕ) (r' input' : List ℕ) (s : Stand) (x : Ran t r asked input turns r' input' s) → s.complete ≡ true
    → text_answered t r asked input turns r' input' s x ≡ answers_through t (more 0) r asked (lines_of (input_read t r asked input turns r' input' s x))
log_written t r asked input long turns r' input' s x complete =
    (run_logged t r asked input turns r' input' s x).text_is ∙ ap (answers_through t (more 0) r asked) (every_line_answered t r asked input long turns r' input' s x complete)
