-- Beginning a run, and one cycle over the table: an offer, then a settling.
use Rattle.std.specs.Prelude.{ℕ, zero, suc, ◌-◌, Bool, true, false, cond, not, ◌&&◌, ◌||◌, List, [], ◌∷◌, ◌++◌, eqb, leb, length, get_or, take, set, replicate}
use Rattle.std.proofs.lemmas.List.Edits.{sets}
use Rattle.base.specs.Lists.{all, any, flat, tabulate, flag, first_failing}
use Rattle.meaning.specs.declared.Operand.{Operand}
use Rattle.meaning.specs.declared.Entry.{Entry}
use Rattle.meaning.specs.declared.Form.TheVariants.{Table}
use Rattle.meaning.specs.declared.Transition.{Transition}
use Rattle.meaning.specs.declared.Transition.TheVariants.{Stays, Ends, First, Second}
use Rattle.meaning.specs.Sizes.{time_width, no_part, little_endian}
use Rattle.meaning.specs.declared.kinds.Kind.{Kind}
use Rattle.meaning.specs.declared.kinds.Kind.TheVariants.{Unknown as UNKNOWN, Goal as GOAL, Start as START, Wait as WAIT, Seq as SEQ, Par as PAR, Maintain as MAINTAIN, Choice as CHOICE, Repeat as REPEAT}
use Rattle.meaning.specs.Kinds.{number_of, value}
use Rattle.meaning.specs.Program.{variables, clocks, entry_at}
use Rattle.meaning.specs.Table.{kind_at, operand_of, end_at, parent_at, next_at, inside_of, is_table}
use Rattle.meaning.specs.Conditions.{Situation, reached, satisfied, violated}
use Rattle.meaning.specs.Record.{time_place, estimate_place, started_place, starts_place, marks_place, record_length, phase_of, last_time, estimate_in, started_in, starts_in, marks_in, waiting, offered, finished, is_mark, started_flag, record_bytes, estimate_byte_allowed, record_allowed}
use Rattle.meaning.specs.Answers.{buffer_too_short, not_a_table, record_not_allowed, wrong_phase, time_before_last, estimate_not_allowed, run_finished, nothing_at_work, answering, no_variable}

-- "To initialise is to mark the part and initialise SEQ's first child, all of PAR's, MAINTAIN's and REPEAT's child, and none of CHOICE's":
-- whether part p, inside part q of a kind, is initialised with it
unfoldable pub begins_in : Kind → ℕ → ℕ → Bool
begins_in UNKNOWN q p = false
begins_in GOAL q p = false
begins_in START q p = false
begins_in WAIT q p = false
begins_in SEQ q p = eqb p (suc q)
begins_in PAR q p = true
begins_in MAINTAIN q p = true
begins_in CHOICE q p = false
begins_in REPEAT q p = true

abbrev pub begins : List ℕ → ℕ → Bool
begins t p = begins_in (kind_at t (parent_at t p)) (parent_at t p) p

-- the marks of n parts from p on that stand in an initialised part; the first `skip` of them stand in a part that is not
unfoldable pub initial_marks_from : List ℕ → ℕ → ℕ → ℕ → List ℕ
initial_marks_from t p zero skip = []
initial_marks_from t p (suc n) zero = flag (begins t p) ∷ initial_marks_from t (suc p) n (cond (begins t p) 0 (inside_of t p))
initial_marks_from t p (suc n) (suc skip) = 0 ∷ initial_marks_from t (suc p) n skip

-- the marks of part q and of all parts inside it once it is initialised
unfoldable pub initial_marks : List ℕ → ℕ → List ℕ
initial_marks t q = 1 ∷ initial_marks_from t (suc q) (inside_of t q) 0

-- Offer. "From the root down, a marked MAINTAIN whose condition is violated by the stored estimate and this time loses every mark inside it and stays marked";
-- "an open MAINTAIN goes on" (document 02, R-4)
abbrev pub is_kind : Kind → Entry → Bool
is_kind k e = eqb e.kind (number_of k)

abbrev pub breaks : List ℕ → Situation → ℕ → ℕ → Bool
breaks t sit p m = is_mark m && (is_kind MAINTAIN (entry_at Table t p) && violated sit (operand_of t p))

-- the marks from part p on after that; the first `skip` of them stand in such a MAINTAIN
unfoldable pub checked_from : List ℕ → Situation → ℕ → List ℕ → ℕ → List ℕ
checked_from t sit p [] skip = []
checked_from t sit p (m ∷ ms) zero = m ∷ checked_from t sit (suc p) ms (cond (breaks t sit p m) (inside_of t p) 0)
checked_from t sit p (m ∷ ms) (suc skip) = 0 ∷ checked_from t sit (suc p) ms skip

-- The marked leaves, in the order of their parts: "Kinds 1 to 3 are the leaves"
abbrev pub is_leaf : Entry → Bool
is_leaf e = is_kind GOAL e || (is_kind START e || is_kind WAIT e)

unfoldable pub leaves_from : List ℕ → ℕ → List ℕ → List Entry
leaves_from t p [] = []
leaves_from t p (m ∷ ms) = cond (is_mark m && is_leaf (entry_at Table t p)) (entry_at Table t p ∷ []) [] ++ leaves_from t (suc p) ms

-- "each is 255 where no marked GOAL names that variable, the value where all agree, 254 where two differ (contested)"
abbrev pub no_goal : ℕ
no_goal = 255

abbrev pub contested : ℕ
contested = 254

-- an entry is a GOAL that names variable v; the values that entries give it
abbrev pub gives_to : ℕ → Entry → Bool
gives_to v e = is_kind GOAL e && eqb e.operand.b1 v

unfoldable pub values_for : ℕ → List Entry → List ℕ
values_for v [] = []
values_for v (e ∷ es) = cond (gives_to v e) (value e.operand ∷ []) [] ++ values_for v es

abbrev pub goal_byte : List ℕ → ℕ
goal_byte [] = no_goal
goal_byte (x ∷ xs) = cond (all (eqb x) xs) x contested

unfoldable pub goal_bytes : ℕ → List Entry → List ℕ
goal_bytes n es = tabulate (λ v. goal_byte (values_for v es)) 0 n

-- "The offer now names the lowest-numbered contested variable" (document 02, R-1), "or 255 exactly where none is contested": of the variables
-- from v on, whose goal bytes these are
unfoldable pub lowest_contested : ℕ → List ℕ → ℕ
lowest_contested v [] = no_variable
lowest_contested v (b ∷ bs) = cond (eqb b contested) v (lowest_contested (suc v) bs)

-- Settling. What becomes of a marked part (`Transition`)
abbrev pub ends_if : Bool → Transition
ends_if true = Ends
ends_if false = Stays

-- "A marked GOAL ends when its variable has its value, a WAIT when satisfied, a START always"; a deciding CHOICE (document 01's term: marked,
-- with nothing marked inside) has "its first child initialised if satisfied, else its second"; "Any other marked composite with nothing marked
-- inside after this ends too". "An open WAIT stays", "an open CHOICE takes its second child" (document 02, R-4). `before` and `after` say whether
-- something is marked inside, before and after the settling of what is inside
unfoldable pub transition : Situation → Kind → Operand → Bool → Bool → Transition
transition sit UNKNOWN o before after = Stays
transition sit GOAL o before after = ends_if (reached sit o)
transition sit START o before after = Ends
transition sit WAIT o before after = ends_if (satisfied sit o)
transition sit SEQ o before after = ends_if (not after)
transition sit PAR o before after = ends_if (not after)
transition sit MAINTAIN o before after = ends_if (not after)
transition sit CHOICE o before after = cond before (ends_if (not after)) (cond (satisfied sit o) First Second)
transition sit REPEAT o before after = ends_if (not after)

-- marks from part p on, in which part q is initialised
abbrev pub initialised : List ℕ → ℕ → ℕ → List ℕ → List ℕ
initialised t p q ms = sets ms (q - p) (initial_marks t q)

-- "A part that ends loses its mark and then initialises its next, if it has one"
unfoldable pub applied : List ℕ → ℕ → Transition → List ℕ → List ℕ
applied t p Stays rest = 1 ∷ rest
applied t p Ends rest = cond (eqb (next_at t p) no_part) (0 ∷ rest) (initialised t p (next_at t p) (0 ∷ rest))
applied t p First rest = initialised t p (suc p) (1 ∷ rest)
applied t p Second rest = initialised t p (end_at t (suc p)) (1 ∷ rest)

-- part p, marked m before, with the marks after it before and after their own settling
abbrev pub settled_part : List ℕ → Situation → ℕ → ℕ → List ℕ → List ℕ → List ℕ
settled_part t sit p m ms rest =
    cond (is_mark m)
    (applied t p (transition sit (kind_at t p) (operand_of t p) (any is_mark (take (inside_of t p) ms)) (any is_mark (take (inside_of t p) rest))) rest)
    (0 ∷ rest)

-- the marks from part p on after a settling: the parts inside a part are settled before it, and the marks before the settling say which are judged
unfoldable pub settled_from : List ℕ → Situation → ℕ → List ℕ → List ℕ
settled_from t sit p [] = []
settled_from t sit p (m ∷ ms) = settled_part t sit p m ms (settled_from t sit (suc p) ms)

-- "Figure 7 keeps a running clock when a waiting location is marked again, but our START never waits. From now on every marked START sets its clock to the
-- cycle's time" (document 02, R-2): an entry is a START that names clock c; and of n clocks, with the flags or the starts that they had, what each has
-- after the STARTs among some leaves: x where one names it, else what it had
abbrev pub starts_clock : ℕ → Entry → Bool
starts_clock c e = is_kind START e && eqb e.operand.b1 c

unfoldable pub clocks_after : ℕ → List Entry → ℕ → List ℕ → List ℕ
clocks_after n es x had = tabulate (λ c. cond (any (starts_clock c) es) x (get_or had c 0)) 0 n

-- The situation in which a record stands, at a time and with an estimate
abbrev pub situation : List ℕ → List ℕ → List ℕ → ℕ → Situation
situation t r est time = record { estimate = est; started = started_in t r; starts = starts_in t r; time = time }

-- "estimate not V bytes, or one above 250" (refusal 13), but "13 is no longer given" for 255 (document 02, R-4)
unfoldable pub estimate_allowed : ℕ → List ℕ → Bool
estimate_allowed v est = eqb (length est) v && all estimate_byte_allowed est

-- Beginning a run: "phase 0, last time 0, no clock started, the estimate stored, the root initialised"
unfoldable pub fresh_record : List ℕ → List ℕ → List ℕ
fresh_record t est = record_bytes waiting 0 est (replicate (clocks t) 0) (replicate (clocks t) 0) (initial_marks t 0)

-- "Beginning 9, 13, 8": each number with the test that must pass, in order; the refusal is the first that fails
abbrev pub begin_tests : List ℕ → List ℕ → ℕ → List (ℕ × Bool)
begin_tests t est room = (not_a_table, is_table t) ∷ (estimate_not_allowed, estimate_allowed (variables t) est) ∷ (buffer_too_short, leb record_length room) ∷ []

unfoldable pub begin_refusal : List ℕ → List ℕ → ℕ → ℕ
begin_refusal t est room = first_failing (begin_tests t est room)

unfoldable pub begun_into : List ℕ → List ℕ → List ℕ → List ℕ
begun_into t est r = cond (eqb (begin_refusal t est (length r)) 0) (sets r 0 (fresh_record t est)) r

-- "Offer 9, 10, 14, 11, 12, 8"
abbrev pub offer_tests : List ℕ → List ℕ → ℕ → ℕ → List (ℕ × Bool)
offer_tests t r time room =
    (not_a_table, is_table t)
    ∷ (record_not_allowed, record_allowed t r)
    ∷ (run_finished, not (eqb (phase_of r) finished))
    ∷ (wrong_phase, not (eqb (phase_of r) offered))
    ∷ (time_before_last, leb (last_time r) time)
    ∷ (buffer_too_short, leb (variables t) room)
    ∷ []

unfoldable pub offer_refusal : List ℕ → List ℕ → ℕ → ℕ → ℕ
offer_refusal t r time room = first_failing (offer_tests t r time room)

-- the marks after an offer, what it offers, which variable it names, and what stands in record and goal buffer afterwards
abbrev pub checked_marks : List ℕ → List ℕ → ℕ → List ℕ
checked_marks t r time = checked_from t (situation t r (estimate_in t r) time) 0 (marks_in t r) 0

abbrev pub offered_goals : List ℕ → List ℕ → ℕ → List ℕ
offered_goals t r time = goal_bytes (variables t) (leaves_from t 0 (checked_marks t r time))

abbrev pub offered_name : List ℕ → List ℕ → ℕ → ℕ
offered_name t r time = lowest_contested 0 (offered_goals t r time)

abbrev pub offered_record : List ℕ → List ℕ → ℕ → List ℕ
offered_record t r time = sets (sets (set r 0 offered) time_place (little_endian time_width time)) marks_place (checked_marks t r time)

-- the number that it answers
abbrev pub offer_answer : List ℕ → List ℕ → ℕ → ℕ → ℕ
offer_answer t r time room = answering (offer_refusal t r time room) (offered_name t r time)

unfoldable pub offered_into : List ℕ → List ℕ → ℕ → ℕ → List ℕ
offered_into t r time room = cond (eqb (offer_refusal t r time room) 0) (offered_record t r time) r

unfoldable pub goals_into : List ℕ → List ℕ → ℕ → List ℕ → List ℕ
goals_into t r time goals = cond (eqb (offer_refusal t r time (length goals)) 0) (sets goals 0 (offered_goals t r time)) goals

-- the marks after a settling
abbrev pub settled_marks : List ℕ → List ℕ → List ℕ → List ℕ
settled_marks t r est = settled_from t (situation t r est (last_time r)) 0 (marks_in t r)

-- "If the root ends, phase is 2": it has no next, so it has ended where it is not marked any more
abbrev pub root_ended : List ℕ → Bool
root_ended m = not (is_mark (get_or m 0 0))

-- "root not ended, yet no leaf or deciding CHOICE marked" (refusal 15)
unfoldable pub works_from : List ℕ → ℕ → List ℕ → Bool
works_from t p [] = false
works_from t p (m ∷ ms) = (is_mark m && (is_leaf (entry_at Table t p) || (is_kind CHOICE (entry_at Table t p) && not (any is_mark (take (inside_of t p) ms))))) || works_from t (suc p) ms

-- "Settling 9, 10, 14, 11, 13, 15"
abbrev pub settle_tests : List ℕ → List ℕ → List ℕ → List (ℕ × Bool)
settle_tests t r est =
    (not_a_table, is_table t)
    ∷ (record_not_allowed, record_allowed t r)
    ∷ (run_finished, not (eqb (phase_of r) finished))
    ∷ (wrong_phase, not (eqb (phase_of r) waiting))
    ∷ (estimate_not_allowed, estimate_allowed (variables t) est)
    ∷ (nothing_at_work, root_ended (settled_marks t r est) || works_from t 0 (settled_marks t r est))
    ∷ []

unfoldable pub settle_refusal : List ℕ → List ℕ → List ℕ → ℕ
settle_refusal t r est = first_failing (settle_tests t r est)

abbrev pub starting_leaves : List ℕ → List ℕ → List Entry
starting_leaves t r = leaves_from t 0 (marks_in t r)

-- the clocks' flags and starts that a settling leaves: the cycle's time is the last time
abbrev pub settled_flags : List ℕ → List ℕ → List ℕ
settled_flags t r = clocks_after (clocks t) (starting_leaves t r) started_flag (started_in t r)

abbrev pub settled_starts : List ℕ → List ℕ → List ℕ
settled_starts t r = clocks_after (clocks t) (starting_leaves t r) (last_time r) (starts_in t r)

abbrev pub settled_record : List ℕ → List ℕ → List ℕ → List ℕ
settled_record t r est =
    sets
    (sets
    (sets
    (sets (set r 0 (cond (root_ended (settled_marks t r est)) finished waiting)) estimate_place est)
    started_place
    (settled_flags t r))
    starts_place
    (flat (little_endian time_width) (settled_starts t r)))
    marks_place
    (settled_marks t r est)

-- the number that a settling answers: "finished" or "running", where it is not refused
abbrev pub settle_answer : List ℕ → List ℕ → List ℕ → ℕ
settle_answer t r est = answering (settle_refusal t r est) (flag (root_ended (settled_marks t r est)))

unfoldable pub settled_into : List ℕ → List ℕ → List ℕ → List ℕ
settled_into t r est = cond (eqb (settle_refusal t r est) 0) (settled_record t r est) r
