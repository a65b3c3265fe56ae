-- Every line of the input is answered, in its order: what `lines_answered` and `input_read` say of a run that is complete.
use Prim.Native.Nat.{ℕ, suc, ◌+◌, ◌-◌, ◌<◌, ◌≤◌}
use native.Mathlib.Nat.{zero-add, sub-zero}
use native.Mathlib.Numerals.{add-one}
use native.Mathlib.Omega.{arith}
use mathlib.Core.Path.{◌≡◌, refl, sym, ◌∙◌, ap}
use mathlib.Core.Bool.{Bool, true, false, not, ◌&&◌, true≢false, false≢true}
use mathlib.Core.List.{List, [], ◌∷◌, ◌++◌, append-nil, append_assoc}
use lib.Dec.{eqb}
use lib.ListN.{length, get_or, take, drop}
use lib.Seq.{length-sets}
use borrow.Author.Tests.{le-leb, lt-leb, eqb-true}
use Rattle.base.specs.Lists.{all, flat, bytes_at}
use Rattle.base.proofs.Lists.{and_left, and_right, all_append, flat_append}
use Rattle.base.proofs.Stores.{length_bytes, get_or_bytes, take_bytes, all_bytes, bytes_append, bytes_sets}
use Rattle.desk_parse.specs.Words.{is_other, leading}
use Rattle.desk_parse.specs.Places.{place_of}
use Rattle.desk_parse.proofs.Leading.{leading_few, leading_passes, leading_stops}
use Rattle.desk_dispatch.specs.Making.{ends_run}
use Rattle.desk_rehearsal.specs.Rehearsal.{parsed_line, max_line}
use Rattle.std.specs.Prelude.{Option, None, Some}
use Rattle.desk_input.specs.Reading.{Reads}
use Rattle.desk_input.proofs.Brought.{read_inside}
use Rattle.rehearse.specs.declared.lines.Stand.{Stand}
use Rattle.rehearse.specs.Standing.{moved, up_to, next_end, Goes, ReadsOn, Takes, Ran}
use Rattle.rehearse.specs.Standing as standing
use Rattle.rehearse.specs.Input.{lines_of, bytes_read, lines_read, bytes_taken, lines_taken, input_read, lines_answered}
use Rattle.rehearse.proofs.Turns.{ran_stands}

-- no line feed in a text
abbrev unbroken : List ℕ → Bool
unbroken l = all (is_other 10) l

abbrev closed : List ℕ → List ℕ
closed l = l ++ (10 ∷ [])

other_eqb : (b : ℕ) → is_other 10 b ≡ true → eqb b 10 ≡ false
other_eqb b h = go (eqb b 10) h
  where
    go : (c : Bool) → not c ≡ true → c ≡ false
    go true e = absurd (false≢true e)
    go false e = refl

other_none : (b : ℕ) → is_other 10 b ≡ false → b ≡ 10
other_none b h = go (eqb b 10) refl h
  where
    go : (c : Bool) → eqb b 10 ≡ c → not c ≡ false → b ≡ 10
    go true e n = eqb-true b 10 e
    go false e n = absurd (true≢false n)

-- the lines of unbroken texts with their line feeds, and of one more after them
lines_last : (l : List ℕ) → unbroken l ≡ true → lines_of l ≡ l ∷ []
lines_last [] h = refl
lines_last (b ∷ bs) h = rw (other_eqb b (and_left (is_other 10 b) (unbroken bs) h), lines_last bs (and_right (is_other 10 b) (unbroken bs) h)) refl

lines_first : (l rest : List ℕ) → unbroken l ≡ true → lines_of (closed l ++ rest) ≡ l ∷ lines_of rest
lines_first [] rest h = refl
lines_first (b ∷ bs) rest h = rw (other_eqb b (and_left (is_other 10 b) (unbroken bs) h), lines_first bs rest (and_right (is_other 10 b) (unbroken bs) h)) refl

lines_joined : (ls : List (List ℕ)) (rest : List ℕ) → all unbroken ls ≡ true → unbroken rest ≡ true → lines_of (flat closed ls ++ rest) ≡ ls ++ (rest ∷ [])
lines_joined [] rest h u = lines_last rest u
lines_joined (l ∷ ls) rest h u =
    ap lines_of (append_assoc (closed l) (flat closed ls) rest) ∙ lines_first l (flat closed ls ++ rest) (and_left (unbroken l) (all unbroken ls) h) ∙ ap (λ (x : List (List ℕ)). l ∷ x) (lines_joined ls rest (and_right (unbroken l) (all unbroken ls) h) u)

-- the bytes that are still to be answered, and the next line among them
abbrev pending : List ℕ → Stand → List ℕ
pending input s = bytes_at input s.from (s.held - s.from)

module _ (input : List ℕ) (s : Stand) (h : (s.from ≤ s.held) × (s.held ≤ length input)) where
  next_is : next_end input s ≡ s.from + leading (is_other 10) (pending input s)
  unfolding place_of
  next_is = rw (le-leb s.from s.held h.0) refl

  -- a byte of it, before the end of the next line
  passes : (j : ℕ) → j < leading (is_other 10) (pending input s) → is_other 10 (get_or input (s.from + j) 0) ≡ true
  passes j l =
      let few = leading_few (is_other 10) (pending input s) in
      let inside : j < s.held - s.from = omega (arith, few, length_bytes input s.from (s.held - s.from)) in
      rw (get_or_bytes input s.from (s.held - s.from) j inside) at (leading_passes (is_other 10) (pending input s) j l)

  rest_unbroken : s.held ≤ next_end input s → unbroken (pending input s) ≡ true
  rest_unbroken l = all_bytes (is_other 10) input s.from (s.held - s.from) (λ j k. passes j (omega (arith, l, next_is, k)))

  module _ (l : next_end input s < s.held) where
    -- how long the next line is
    abbrev size : ℕ
    size = next_end input s - s.from

    size_is : size ≡ leading (is_other 10) (pending input s)
    size_is = omega (arith, next_is)

    line_bytes : up_to input s (next_end input s) ≡ bytes_at input s.from size
    line_bytes = take_bytes input s.from size (omega (arith, next_is, l, h.1))

    line_unbroken : unbroken (up_to input s (next_end input s)) ≡ true
    line_unbroken = rw line_bytes (all_bytes (is_other 10) input s.from size (λ j k. passes j (rw size_is at k)))

    line_feed : get_or input (next_end input s) 0 ≡ 10
    line_feed =
        let shorter : leading (is_other 10) (pending input s) < length (pending input s) = omega (arith, l, next_is, length_bytes input s.from (s.held - s.from)) in
        let inside : leading (is_other 10) (pending input s) < s.held - s.from = omega (arith, shorter, length_bytes input s.from (s.held - s.from)) in
        other_none _ (rw (next_is, ← (get_or_bytes input s.from (s.held - s.from) (leading (is_other 10) (pending input s)) inside)) (leading_stops (is_other 10) (pending input s) shorter))

    -- what is pending is the line, its line feed and what stands after it
    pending_splits : pending input s ≡ closed (up_to input s (next_end input s)) ++ bytes_at input (next_end input s + 1) (s.held - (next_end input s + 1))
    pending_splits =
        let whole : s.held - s.from ≡ size + suc (s.held - (next_end input s + 1)) = omega (arith, next_is, l) in
        let place_is : s.from + size ≡ next_end input s = omega (arith, next_is) in
        ap (λ (n : ℕ). bytes_at input s.from n) whole ∙ bytes_append input s.from size (suc (s.held - (next_end input s + 1))) ∙
        rw (line_bytes, place_is, line_feed, add-one (next_end input s), append_assoc) refl

-- A line that fills a buffer longer than any line ends the run
too_long_lem : (line : List ℕ) → max_line < length line → ends_run (parsed_line line) ≡ true
unfolding parsed_line
too_long_lem line h = rw (lt-leb (length line) max_line h) refl

and_none : (b : Bool) → (b && false) ≡ false
and_none true = refl
and_none false = refl

long_ends : (t r : List ℕ) (asked : Bool) (line : List ℕ) (s : Stand) (from : ℕ) (r' : List ℕ) (e : Stand) → max_line < length line → Goes t r asked line s from r' e → e.going ≡ false
long_ends t r asked line s from r' e h g = ap (λ (x : Stand). x.going) g.stand_is ∙ rw (g.answered.turned.ends_is, too_long_lem line h) (and_none g.printed)

-- So far: what came is the lines that were answered, each with its line feed, and what is still pending
record SoFar (came : List ℕ) (lines : List (List ℕ)) (rest : List ℕ) : Type 0 where
  came_is : came ≡ flat closed lines ++ rest
  whole : all unbroken lines ≡ true

-- A line more
line_more : (came : List ℕ) (lines : List (List ℕ)) (l rest : List ℕ) → unbroken l ≡ true → SoFar came lines (closed l ++ rest) → SoFar came (lines ++ (l ∷ [])) rest
line_more came lines l rest u so =
    record {
      came_is = so.came_is ∙ sym (append_assoc (flat closed lines) (closed l) rest) ∙ ap (λ (x : List ℕ). x ++ rest) (sym (flat_append closed lines (l ∷ []) ∙ ap (λ (x : List ℕ). flat closed lines ++ x) (append-nil (closed l))));
      whole = all_append unbroken lines (l ∷ []) ∙ rw (so.whole, u) refl;
    }

-- the last line
line_last : (came : List ℕ) (lines : List (List ℕ)) (rest : List ℕ) → unbroken rest ≡ true → SoFar came lines rest → lines ++ (rest ∷ []) ≡ lines_of came
line_last came lines rest u so = sym (ap lines_of so.came_is ∙ lines_joined lines rest so.whole u)

-- What a read keeps and brings
module _ (input : List ℕ) (s : Stand) (h : (s.from ≤ s.held) × (s.held ≤ length input)) where
  abbrev n : ℕ
  n = s.held - s.from

  moved_pending : take n (moved input s) ≡ pending input s
  moved_pending =
      let inside : 0 + n ≤ length (moved input s) = omega (arith, length-sets input 0 (pending input s), h.1) in
      take_bytes (moved input s) 0 n inside ∙ bytes_sets (pending input s) input 0 n (length_bytes input s.from n) (omega (arith, h.1))

  module _ (p : Option ℕ) (input' : List ℕ) (reads : Reads (moved input s) n p input') where
    kept_pending : take n input' ≡ pending input s
    kept_pending = reads.kept ∙ moved_pending

    long_enough : n ≤ length input'
    long_enough = omega (arith, reads.length_is, length-sets input 0 (pending input s), h.1)

    brought_pending : (k : ℕ) → n ≤ k → k ≤ length input' → bytes_at input' 0 k ≡ pending input s ++ take (k - n) (drop n input')
    brought_pending k some most =
        let whole : k ≡ n + (k - n) = omega arith in
        ap (λ (m : ℕ). bytes_at input' 0 m) whole ∙ bytes_append input' 0 n (k - n) ∙
        rw (zero-add, ← (take_bytes input' 0 n (omega (arith, long_enough))), kept_pending, ← (take_bytes input' n (k - n) (omega arith))) refl

-- A read more, and a turn more
module _ (t r : List ℕ) (asked : Bool) (input : List ℕ) (s : Stand) (h : (s.from ≤ s.held) × (s.held ≤ length input)) (came : List ℕ) (lines : List (List ℕ)) (so : SoFar came lines (pending input s)) where
  read_goes : (r' input' : List ℕ) (e : Stand) (x : ReadsOn t r asked (moved input s) s (s.held - s.from) r' input' e) → e.going ≡ true
      → SoFar (came ++ bytes_read t r asked (moved input s) s (s.held - s.from) r' input' e x) (lines ++ lines_read t r asked (moved input s) s (s.held - s.from) r' input' e x) (pending input' e)
  read_goes r' input' e (standing.failed reads same is) going = absurd (false≢true (ap (λ (x : Stand). x.going) (sym is) ∙ going))
  read_goes r' input' e (standing.brought k reads l same is) going =
      let room = moved_room in
      let inside = read_inside (moved input s) (s.held - s.from) k input' room reads in
      record {
        came_is =
            ap (λ (x : List ℕ). x ++ take (k - (s.held - s.from)) (drop (s.held - s.from) input')) so.came_is ∙ append_assoc (flat closed lines) (pending input s) (take (k - (s.held - s.from)) (drop (s.held - s.from) input'))
            ∙ rw (← (brought_pending input s h (Some k) input' reads k inside.0 inside.1), is, sub-zero, append-nil lines) refl;
        whole = rw (append-nil lines) so.whole;
      }
    where
      moved_room : s.held - s.from ≤ length (moved input s)
      moved_room = omega (arith, length-sets input 0 (pending input s), h.1)
  read_goes r' input' e (standing.ended last reads goes is) going = absurd (false≢true (ap (λ (x : Stand). x.going) (sym is) ∙ going))

  read_completes : (r' input' : List ℕ) (e : Stand) (x : ReadsOn t r asked (moved input s) s (s.held - s.from) r' input' e) → s.held ≤ next_end input s → e.complete ≡ true
      → lines ++ lines_read t r asked (moved input s) s (s.held - s.from) r' input' e x ≡ lines_of (came ++ bytes_read t r asked (moved input s) s (s.held - s.from) r' input' e x)
  read_completes r' input' e (standing.failed reads same is) far complete = absurd (false≢true (ap (λ (x : Stand). x.complete) (sym is) ∙ complete))
  read_completes r' input' e (standing.brought k reads l same is) far complete = absurd (false≢true (ap (λ (x : Stand). x.complete) (sym is) ∙ complete))
  read_completes r' input' e (standing.ended last reads goes is) far complete =
      rw (kept_pending input s h _ input' reads, append-nil came) (line_last came lines (pending input s) (rest_unbroken input s h far) so)

  turn_goes : max_line < length input → (r' input' : List ℕ) (e : Stand) (x : Takes t r asked input s r' input' e) → e.going ≡ true
      → SoFar (came ++ bytes_taken t r asked input s r' input' e x) (lines ++ lines_taken t r asked input s r' input' e x) (pending input' e)
  turn_goes long r' input' e (standing.line l g same) going =
      rw (append-nil came, g.stand_is, same) (line_more came lines (up_to input s (next_end input s)) _ (line_unbroken input s h l) (rw (pending_splits input s h l) at so))
  turn_goes long r' input' e (standing.full l room g same) going =
      absurd (false≢true (sym (long_ends t r asked (up_to input s s.held) s s.held r' e (filled room) g) ∙ going))
    where
      filled : s.held - s.from ≡ length input → max_line < length (up_to input s s.held)
      filled room = rw (take_bytes input s.from (s.held - s.from) (omega (arith, h.0, h.1)), length_bytes input s.from (s.held - s.from)) (omega (arith, room, long))
  turn_goes long r' input' e (standing.on l room reads) going = read_goes r' input' e reads going

  turn_completes : (r' input' : List ℕ) (e : Stand) (x : Takes t r asked input s r' input' e) → e.complete ≡ true
      → lines ++ lines_taken t r asked input s r' input' e x ≡ lines_of (came ++ bytes_taken t r asked input s r' input' e x)
  turn_completes r' input' e (standing.line l g same) complete = absurd (false≢true (ap (λ (x : Stand). x.complete) (sym g.stand_is) ∙ complete))
  turn_completes r' input' e (standing.full l room g same) complete = absurd (false≢true (ap (λ (x : Stand). x.complete) (sym g.stand_is) ∙ complete))
  turn_completes r' input' e (standing.on l room reads) complete = read_completes r' input' e reads l complete

-- The buffer keeps its length
read_length : (t r : List ℕ) (asked : Bool) (input : List ℕ) (s : Stand) (n : ℕ) (r' input' : List ℕ) (e : Stand) → ReadsOn t r asked input s n r' input' e → length input' ≡ length input
read_length t r asked input s n r' input' e (standing.failed reads same is) = reads.length_is
read_length t r asked input s n r' input' e (standing.brought k reads l same is) = reads.length_is
read_length t r asked input s n r' input' e (standing.ended last reads goes is) = reads.length_is

turn_length : (t r : List ℕ) (asked : Bool) (input : List ℕ) (s : Stand) (r' input' : List ℕ) (e : Stand) → Takes t r asked input s r' input' e → length input' ≡ length input
turn_length t r asked input s r' input' e (standing.line l g same) = rw same refl
turn_length t r asked input s r' input' e (standing.full l room g same) = rw same refl
turn_length t r asked input s r' input' e (standing.on l room reads) = read_length t r asked (moved input s) s (s.held - s.from) r' input' e reads ∙ length-sets input 0 (pending input s)

run_length : (t r : List ℕ) (asked : Bool) (input : List ℕ) (turns : ℕ) (r' input' : List ℕ) (s : Stand) → Ran t r asked input turns r' input' s → length input' ≡ length input
run_length t r asked input _ _ _ _ standing.begun = refl
run_length t r asked input _ _ _ _ (standing.further turns r' input' r'' input'' s e before going takes) = turn_length t r' asked input' s r'' input'' e takes ∙ run_length t r asked input turns r' input' s before

-- While the run goes on
run_goes : (t r : List ℕ) (asked : Bool) (input : List ℕ) → max_line < length input → (turns : ℕ) (r' input' : List ℕ) (s : Stand) (x : Ran t r asked input turns r' input' s) → s.going ≡ true
    → SoFar (input_read t r asked input turns r' input' s x) (lines_answered t r asked input turns r' input' s x) (pending input' s)
run_goes t r asked input long _ _ _ _ standing.begun going = record { came_is = refl; whole = refl }
run_goes t r asked input long _ _ _ _ (standing.further turns r' input' r'' input'' s e before on takes) going =
    turn_goes t r' asked input' s (ran_stands t r asked input turns r' input' s before) _ _ (run_goes t r asked input long turns r' input' s before on)
    (rw (run_length t r asked input turns r' input' s before) long) r'' input'' e takes going

-- A run that is complete has answered exactly the lines of what it read, in their order. (The buffer is longer than any line.)
pub every_line_answered : (t r : List ℕ) (asked : Bool) (input : List ℕ) → max_line < length input → (turns : ℕ) (r' input' : List ℕ) (s : Stand) (x : Ran t r asked input turns r' input' s) → s.complete ≡ true
    → lines_answered t r asked input turns r' input' s x ≡ lines_of (input_read t r asked input turns r' input' s x)
every_line_answered t r asked input long _ _ _ _ standing.begun complete = absurd (false≢true complete)
every_line_answered t r asked input long _ _ _ _ (standing.further turns r' input' r'' input'' s e before on takes) complete =
    turn_completes t r' asked input' s (ran_stands t r asked input turns r' input' s before) _ _ (run_goes t r asked input long turns r' input' s before on) r'' input'' e takes complete
