-- What a run has read, and the lines and the texts with which it has answered; the lines of an input.
use Rattle.std.specs.Prelude.{ℕ, ◌-◌, Bool, cond, List, [], ◌∷◌, ◌++◌, eqb, take, drop}
use Rattle.desk_calls.specs.Lines.{bytes_of}
use Rattle.desk_dispatch.specs.Counting.{more}
use Rattle.desk_rehearsal.specs.Rehearsal.{parsed_line, answer_text}
use Rattle.rehearse.specs.declared.lines.Stand.{Stand}
use Rattle.rehearse.specs.Standing.{moved, next_end, up_to, ReadsOn, failed, brought, ended, Takes, line, full, on, Ran, begun, further}

-- a byte before the first line of an input
abbrev pub onto : ℕ → List (List ℕ) → List (List ℕ)
onto b [] = (b ∷ []) ∷ []
onto b (l ∷ ls) = (b ∷ l) ∷ ls

-- a line ends at a line feed; what stands after the last line feed is a line too
abbrev pub lines_of : List ℕ → List (List ℕ)
lines_of [] = [] ∷ []
lines_of (b ∷ bs) = cond (eqb b 10) ([] ∷ lines_of bs) (onto b (lines_of bs))

-- the bytes that a read brought, and the line that was answered where it brought none
abbrev pub bytes_read : (t r : List ℕ) (asked : Bool) (input : List ℕ) (s : Stand) (n : ℕ) (r' input' : List ℕ) (e : Stand) → ReadsOn t r asked input s n r' input' e → List ℕ
bytes_read t r asked input s n r' input' e (failed reads same is) = []
bytes_read t r asked input s n r' input' e (brought k reads l same is) = take (k - n) (drop n input')
bytes_read t r asked input s n r' input' e (ended last reads goes is) = []

abbrev pub lines_read : (t r : List ℕ) (asked : Bool) (input : List ℕ) (s : Stand) (n : ℕ) (r' input' : List ℕ) (e : Stand) → ReadsOn t r asked input s n r' input' e → List (List ℕ)
lines_read t r asked input s n r' input' e (failed reads same is) = []
lines_read t r asked input s n r' input' e (brought k reads l same is) = []
lines_read t r asked input s n r' input' e (ended last reads goes is) = take n input' ∷ []

-- of a turn
abbrev pub bytes_taken : (t r : List ℕ) (asked : Bool) (input : List ℕ) (s : Stand) (r' input' : List ℕ) (e : Stand) → Takes t r asked input s r' input' e → List ℕ
bytes_taken t r asked input s r' input' e (line l g same) = []
bytes_taken t r asked input s r' input' e (full l room g same) = []
bytes_taken t r asked input s r' input' e (on l room reads) = bytes_read t r asked (moved input s) s (s.held - s.from) r' input' e reads

abbrev pub lines_taken : (t r : List ℕ) (asked : Bool) (input : List ℕ) (s : Stand) (r' input' : List ℕ) (e : Stand) → Takes t r asked input s r' input' e → List (List ℕ)
lines_taken t r asked input s r' input' e (line l g same) = up_to input s (next_end input s) ∷ []
lines_taken t r asked input s r' input' e (full l room g same) = up_to input s s.held ∷ []
lines_taken t r asked input s r' input' e (on l room reads) = lines_read t r asked (moved input s) s (s.held - s.from) r' input' e reads

-- of a run: the input, as far as it was read, and the lines that were answered, in their order
abbrev pub input_read : (t r : List ℕ) (asked : Bool) (input : List ℕ) (turns : ℕ) (r' input' : List ℕ) (s : Stand) → Ran t r asked input turns r' input' s → List ℕ
input_read t r asked input _ _ _ _ begun = []
input_read t r asked input _ _ _ _ (further turns r' input' r'' input'' s e before going takes) = input_read t r asked input turns r' input' s before ++ bytes_taken t r' asked input' s r'' input'' e takes

abbrev pub lines_answered : (t r : List ℕ) (asked : Bool) (input : List ℕ) (turns : ℕ) (r' input' : List ℕ) (s : Stand) → Ran t r asked input turns r' input' s → List (List ℕ)
lines_answered t r asked input _ _ _ _ begun = []
lines_answered t r asked input _ _ _ _ (further turns r' input' r'' input'' s e before going takes) = lines_answered t r asked input turns r' input' s before ++ lines_taken t r' asked input' s r'' input'' e takes

-- the texts that `Answered` demands for these lines, each on the record and with the number that it was given
abbrev pub text_of : List ℕ → List ℕ → Bool → Stand → List ℕ → List ℕ
text_of t r asked s l = answer_text t r (more s.number) asked (parsed_line l) (bytes_of l)

abbrev pub text_read : (t r : List ℕ) (asked : Bool) (input : List ℕ) (s : Stand) (n : ℕ) (r' input' : List ℕ) (e : Stand) → ReadsOn t r asked input s n r' input' e → List ℕ
text_read t r asked input s n r' input' e (failed reads same is) = []
text_read t r asked input s n r' input' e (brought k reads l same is) = []
text_read t r asked input s n r' input' e (ended last reads goes is) = text_of t r asked s (take n input')

abbrev pub text_taken : (t r : List ℕ) (asked : Bool) (input : List ℕ) (s : Stand) (r' input' : List ℕ) (e : Stand) → Takes t r asked input s r' input' e → List ℕ
text_taken t r asked input s r' input' e (line l g same) = text_of t r asked s (up_to input s (next_end input s))
text_taken t r asked input s r' input' e (full l room g same) = text_of t r asked s (up_to input s s.held)
text_taken t r asked input s r' input' e (on l room reads) = text_read t r asked (moved input s) s (s.held - s.from) r' input' e reads

abbrev pub text_answered : (t r : List ℕ) (asked : Bool) (input : List ℕ) (turns : ℕ) (r' input' : List ℕ) (s : Stand) → Ran t r asked input turns r' input' s → List ℕ
text_answered t r asked input _ _ _ _ begun = []
text_answered t r asked input _ _ _ _ (further turns r' input' r'' input'' s e before going takes) = text_answered t r asked input turns r' input' s before ++ text_taken t r' asked input' s r'' input'' e takes
