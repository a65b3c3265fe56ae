-- The turns of a rehearsal: laws of `Standing`.
use Prim.Native.Nat.{ℕ, suc, ◌+◌, ◌-◌, ◌<◌, ◌≤◌}
use native.Mathlib.Numerals.{add-one}
use native.Mathlib.Omega.{arith}
use mathlib.Core.Path.{◌≡◌, refl, sym}
use mathlib.Core.Bool.{Bool, true, false, not, ◌&&◌}
use mathlib.Core.List.{List}
use mathlib.Core.Logic.{inl, inr}
use lib.ListN.{length, take}
use lib.Seq.{length-sets}
use Rattle.base.specs.Lists.{bytes_at}
use Rattle.desk_parse.proofs.Leading.{place_within}
use Rattle.desk_calls.specs.Places.{line_end}
use Rattle.desk_rehearsal.specs.declared.Turn.{Turn}
use Rattle.desk_dispatch.specs.Counting.{more}
use Rattle.desk_rehearsal.specs.Rehearsal.{Answered}
use Rattle.std.specs.Prelude.{Option, None, Some}
use Rattle.rehearse.specs.declared.lines.Stand.{Stand}
use Rattle.desk_input.specs.Reading.{Reads}
use Rattle.rehearse.specs.Standing.{moved, next_end, up_to, read_to, after_last, Goes, ReadsOn, Takes, Ran, Runs, max_turns}
use Rattle.rehearse.specs.Standing as standing
use Rattle.desk_input.proofs.Brought.{read_inside}

pub line_held : (l : List ℕ) (from to i : ℕ) → i ≡ line_end l from to → from ≤ to → from ≤ i
line_held l from to i e h = rw e (place_within 10 l from to h).0

pub line_goes : (t r line r' out out' : List ℕ) (asked printed : Bool) (s : Stand) (from number : ℕ) (turn : Turn) → number ≡ more s.number → Answered t r s.cycles number asked line r' out out' turn
    → Goes t r asked line s from r' (record { from = from; held = s.held; number = number; cycles = turn.cycles; going = printed && not turn.ends; complete = false })
line_goes t r line r' out out' asked printed s from number turn e a =
    record { out = out; out' = out'; turn = turn; printed = printed; answered = rw e at a; stand_is = rw e refl }

-- one read: what it answers, and the state after it
module _ (t r : List ℕ) (asked : Bool) (input : List ℕ) (s : Stand) (n : ℕ) (input' : List ℕ) (p : Option ℕ) (reads : Reads input n p input') where
  pub on_failed : (e : Stand) → p ≡ None → e ≡ read_to s n false → ReadsOn t r asked input s n r input' e
  on_failed e f is = standing.failed (rw f at reads) refl is

  pub on_brought : (k : ℕ) (e : Stand) → p ≡ Some k → n < k → e ≡ read_to s k true → ReadsOn t r asked input s n r input' e
  on_brought k e h l is = standing.brought k (rw h at reads) l refl is

  pub on_ended : (k : ℕ) (r' : List ℕ) (last e : Stand) → p ≡ Some k → k ≤ n → n ≤ length input → Goes t r asked (take n input') s 0 r' last → e ≡ after_last last → ReadsOn t r asked input s n r' input' e
  on_ended k r' last e h l inside goes is =
      let now : Reads input n (Some k) input' = rw h at reads in
      let same : k ≡ n = omega (arith, (read_inside input n k input' inside now).0) in standing.ended last (rw same at now) goes is

-- one turn: which of the three it is
module _ (t r : List ℕ) (asked : Bool) (input : List ℕ) (s : Stand) (r' : List ℕ) (e : Stand) (end : ℕ) (is : end ≡ next_end input s) where
  pub line_taken : end < s.held → Goes t r asked (up_to input s end) s (end + 1) r' e → Takes t r asked input s r' input e
  line_taken h g = standing.line (rw is at h) (rw is at g) refl

  pub full_taken : s.held ≤ end → s.held - s.from ≡ length input → Goes t r asked (up_to input s s.held) s s.held r' e → Takes t r asked input s r' input e
  full_taken h l g = standing.full (rw is at h) l g refl

  pub on_taken : (shifted input' : List ℕ) → s.held ≤ end → (s.held - s.from ≡ length input → ⊥) → s.held ≤ length input → shifted ≡ moved input s → ReadsOn t r asked shifted s (s.held - s.from) r' input' e
      → Takes t r asked input s r' input' e
  on_taken shifted input' h other inside m on = standing.on (rw is at h) (omega (arith, other, inside)) (rw m at on)

-- The places of a state lie within the buffer, after each turn
module _ (t r : List ℕ) (asked : Bool) where
  read_stands : (input : List ℕ) (s : Stand) (n : ℕ) (r' input' : List ℕ) (e : Stand) → n ≤ length input → ReadsOn t r asked input s n r' input' e → (e.from ≤ e.held) × (e.held ≤ length input')
  read_stands input s n r' input' e h (standing.failed reads same is) = rw is (omega arith, omega (arith, reads.length_is))
  read_stands input s n r' input' e h (standing.brought k reads l same is) = rw is (omega arith, (read_inside input n k input' h reads).1)
  read_stands input s n r' input' e h (standing.ended last reads goes is) = rw is (omega arith, omega arith)

  pub turn_stands : (input : List ℕ) (s : Stand) (r' input' : List ℕ) (e : Stand) → (s.from ≤ s.held) × (s.held ≤ length input) → Takes t r asked input s r' input' e → (e.from ≤ e.held) × (e.held ≤ length input')
  turn_stands input s r' input' e h (standing.line l g same) = rw (g.stand_is, same) (omega (arith, l), h.1)
  turn_stands input s r' input' e h (standing.full l room g same) = rw (g.stand_is, same) (omega arith, h.1)
  turn_stands input s r' input' e h (standing.on l room on) = read_stands _ s _ r' input' e (omega (arith, h.1, length-sets input 0 (bytes_at input s.from (s.held - s.from)))) on

pub ran_stands : (t r : List ℕ) (asked : Bool) (input : List ℕ) (turns : ℕ) (r' input' : List ℕ) (s : Stand) → Ran t r asked input turns r' input' s → (s.from ≤ s.held) × (s.held ≤ length input')
ran_stands t r asked input _ _ _ _ standing.begun = (omega arith, omega arith)
ran_stands t r asked input _ _ _ _ (standing.further turns r' input' r'' input'' s e before going takes) =
    turn_stands t r' asked input' s r'' input'' e (ran_stands t r asked input turns r' input' s before) takes

-- a run that has not ended goes on
pub going_on : (b : Bool) → not b ≡ false → b ≡ true
going_on true h = refl
going_on false h = sym h

-- the turns that were taken
module _ (t r : List ℕ) (asked : Bool) (input : List ℕ) (turns : ℕ) (r' input' : List ℕ) (s : Stand) (ran : Ran t r asked input turns r' input' s) where
  pub turn_more : (r'' input'' : List ℕ) (e : Stand) → s.going ≡ true → Takes t r' asked input' s r'' input'' e → Ran t r asked input (turns + 1) r'' input'' e
  turn_more r'' input'' e going takes = rw (add-one turns) (standing.further turns r' input' r'' input'' s e ran going takes)

  pub run_ends : s.going ≡ false → Runs t r asked input r' input' s
  run_ends h = record { turns = turns; ran = ran; stops = inl h }

  pub run_used : turns ≡ max_turns → Runs t r asked input r' input' s
  run_used h = record { turns = turns; ran = ran; stops = inr h }
