-- The ten stations of document 01, further programs, and those of document 02's R-1, R-2 and R-4: tables of them, and what it is for one of them to hold by
-- the table's definitions and by the unfolding.
use Rattle.std.specs.Prelude.{ℕ, suc, ◌<◌, ◌≡◌, Bool, true, false, cond, ◌&&◌, List, [], ◌∷◌, ◌++◌, eqb, replicate}
use Rattle.std.proofs.Math.Option.{Option, none, some}
use Rattle.base.specs.Lists.{all, flat, same}
use Rattle.meaning.specs.declared.Form.TheVariants.{File}
use Rattle.meaning.specs.Sizes.{unknown_value, time_limit}
use Rattle.meaning.specs.Tree.{Part}
use Rattle.meaning.specs.Program.{variables, clocks, tree_of, program_refusal}
use Rattle.meaning.specs.Table.{compiled}
use Rattle.meaning.specs.Record.{record_length, started_in, starts_in, estimate_byte_allowed}
use Rattle.meaning.specs.Cycle.{no_goal, contested, begin_refusal, begun_into}
use Rattle.meaning.specs.Answers.{too_deep, buffer_too_short, wrong_phase, time_before_last, estimate_not_allowed, run_finished, no_variable}
use Rattle.agreement.specs.Runs.{Call, offer, settling, Reply, refused, goals, running, done, table_replies, table_after, begin, tree_replies, tree_after, table_finishing, tree_finishing}

-- A station: the program file, what compiling answers (0, or its refusal), the first estimate, the calls, their replies, the finishing cycle,
-- and each clock's started flag and start after the calls
pub record Station : Type 0 where
  pub file : List ℕ
  pub answer : ℕ
  pub first : List ℕ
  pub calls : List Call
  pub replies : List Reply
  pub finishing : Option ℕ
  pub started : List ℕ
  pub starts : List ℕ

-- "One variable, one clock, first estimate 0, unless said": n parts
abbrev pub program : ℕ → List ℕ → List ℕ → List ℕ
program n kinds operands = n ∷ 1 ∷ 1 ∷ (kinds ++ operands)

-- an offer with a goal buffer of one byte, and a settling with the estimate of one variable
abbrev pub at : ℕ → Call
at time = offer time (7 ∷ [])

abbrev pub with_estimate : ℕ → Call
with_estimate e = settling (e ∷ [])

-- the goal byte that an offer gives where nothing is contested, and where the one variable is
abbrev pub goal_is : ℕ → Reply
goal_is g = goals (g ∷ []) no_variable

abbrev pub contested_is : Reply
contested_is = goals (contested ∷ []) 0

-- a program that starts no clock, one that starts its clock, one of several variables that has no clock and does not finish, and one that
-- compiling refuses
abbrev pub station : List ℕ → ℕ → List Call → List Reply → Option ℕ → Station
station f e cs rs n = record { file = f; answer = 0; first = e ∷ []; calls = cs; replies = rs; finishing = n; started = 0 ∷ []; starts = 0 ∷ [] }

abbrev pub starting_station : List ℕ → List Call → List Reply → Option ℕ → ℕ → Station
starting_station f cs rs n start = record { file = f; answer = 0; first = 0 ∷ []; calls = cs; replies = rs; finishing = n; started = 1 ∷ []; starts = start ∷ [] }

abbrev pub clockless_station : List ℕ → List ℕ → List Call → List Reply → Station
clockless_station f est cs rs = record { file = f; answer = 0; first = est; calls = cs; replies = rs; finishing = none; started = []; starts = [] }

abbrev pub refused_station : List ℕ → ℕ → Station
refused_station f n = record { file = f; answer = n; first = []; calls = []; replies = []; finishing = none; started = []; starts = [] }

-- GOAL 0=1; MAINTAIN(0≠2, GOAL 0=1); MAINTAIN(clock 0 below 5, GOAL 0=1)
abbrev pub goal1 : List ℕ
goal1 = program 1 (1 ∷ []) (0 ∷ 0 ∷ 1 ∷ 0 ∷ [])

abbrev pub maintains : List ℕ
maintains = program 2 (6 ∷ 1 ∷ []) (2 ∷ 0 ∷ 2 ∷ 0 ∷ 0 ∷ 0 ∷ 1 ∷ 0 ∷ [])

abbrev pub limited : List ℕ
limited = program 2 (6 ∷ 1 ∷ []) (4 ∷ 0 ∷ 5 ∷ 0 ∷ 0 ∷ 0 ∷ 1 ∷ 0 ∷ [])

-- CHOICE(clock 0 at least 0; GOAL 0=1; GOAL 0=2); PAR(GOAL 0=1, GOAL 0=2); SEQ(START 0, START 0)
abbrev pub branches : List ℕ
branches = program 3 (7 ∷ 1 ∷ 1 ∷ []) (3 ∷ 0 ∷ 0 ∷ 0 ∷ 0 ∷ 0 ∷ 1 ∷ 0 ∷ 0 ∷ 0 ∷ 2 ∷ 0 ∷ [])

abbrev pub contests : List ℕ
contests = program 3 (5 ∷ 1 ∷ 1 ∷ []) (2 ∷ 0 ∷ 0 ∷ 0 ∷ 0 ∷ 0 ∷ 1 ∷ 0 ∷ 0 ∷ 0 ∷ 2 ∷ 0 ∷ [])

abbrev pub starts2 : List ℕ
starts2 = program 3 (4 ∷ 2 ∷ 2 ∷ []) (2 ∷ 0 ∷ 0 ∷ 0 ∷ 0 ∷ 0 ∷ 0 ∷ 0 ∷ 0 ∷ 0 ∷ 0 ∷ 0 ∷ [])

-- station 10's file, which is also station 8's program, SEQ(START 0, WAIT clock 0 at least 10)
abbrev pub waits : List ℕ
waits = 0x03 ∷ 0x01 ∷ 0x01 ∷ 0x04 ∷ 0x02 ∷ 0x03 ∷ 0x02 ∷ 0x00 ∷ 0x00 ∷ 0x00 ∷ 0x00 ∷ 0x00 ∷ 0x00 ∷ 0x00 ∷ 0x03 ∷ 0x00 ∷ 0x0A ∷ 0x00 ∷ []

-- n REPEATs above a GOAL
abbrev pub repeats : ℕ → List ℕ
repeats n = program (suc n) (replicate n 8 ++ (1 ∷ [])) (replicate n 0 ++ (replicate n 0 ++ (replicate n 0 ++ (replicate n 0 ++ (0 ∷ 0 ∷ 1 ∷ 0 ∷ [])))))

-- Stations 1 to 9 in their order; 2 with "any settling" at either side of its condition, 3 at the least and the greatest first time (`AnyHold` has all);
-- "Station 7 then ends with start 20" (document 02, R-2)
unfoldable pub stations : List Station
stations =
    station goal1 0 (at 0 ∷ with_estimate 0 ∷ at 0 ∷ with_estimate 1 ∷ []) (goal_is 1 ∷ running ∷ goal_is 1 ∷ done ∷ []) (some 2)
    ∷ station maintains 2 (at 0 ∷ with_estimate 0 ∷ []) (goal_is 255 ∷ done ∷ []) (some 1)
    ∷ station maintains 2 (at 0 ∷ with_estimate 2 ∷ []) (goal_is 255 ∷ done ∷ []) (some 1)
    ∷ station limited 0 (at 0 ∷ []) (goal_is 1 ∷ []) none
    ∷ station limited 0 (at 4294967295 ∷ []) (goal_is 1 ∷ []) none
    ∷ station branches 0 (at 0 ∷ with_estimate 0 ∷ at 0 ∷ []) (goal_is 255 ∷ running ∷ goal_is 2 ∷ []) none
    ∷ station contests 0 (at 0 ∷ with_estimate 1 ∷ at 0 ∷ []) (contested_is ∷ running ∷ goal_is 2 ∷ []) none
    ∷ station (repeats 1) 0 (at 0 ∷ with_estimate 1 ∷ at 0 ∷ []) (goal_is 1 ∷ running ∷ goal_is 1 ∷ []) none
    ∷ starting_station starts2 (at 10 ∷ with_estimate 0 ∷ at 20 ∷ with_estimate 0 ∷ []) (goal_is 255 ∷ running ∷ goal_is 255 ∷ done ∷ []) (some 2) 20
    ∷ starting_station waits (at 100 ∷ with_estimate 0 ∷ at 109 ∷ with_estimate 0 ∷ at 110 ∷ with_estimate 0 ∷ []) (goal_is 255 ∷ running ∷ goal_is 255 ∷ running ∷ goal_is 255 ∷ done ∷ []) (some 3) 100
    ∷ station (repeats 15) 0 (at 0 ∷ []) (goal_is 1 ∷ []) none
    ∷ refused_station (repeats 16) too_deep
    ∷ []

-- What no station tries: WAIT 0=1, SEQ(START 0, WAIT clock 0 below 5) on either side of its bound, and refused calls, which change nothing:
-- settling first (11), an estimate of 251 and one too long (13), an offer after an offer (11), before the last time (12), with no
-- room (8), and any call after the end (14)
abbrev pub waits_value : List ℕ
waits_value = program 1 (3 ∷ []) (1 ∷ 0 ∷ 1 ∷ 0 ∷ [])

abbrev pub waits_below : List ℕ
waits_below = program 3 (4 ∷ 2 ∷ 3 ∷ []) (2 ∷ 0 ∷ 0 ∷ 0 ∷ 0 ∷ 0 ∷ 0 ∷ 0 ∷ 4 ∷ 0 ∷ 5 ∷ 0 ∷ [])

unfoldable pub further : List Station
further =
    station waits_value 0 (at 0 ∷ with_estimate 0 ∷ at 0 ∷ with_estimate 1 ∷ []) (goal_is 255 ∷ running ∷ goal_is 255 ∷ done ∷ []) (some 2)
    ∷ starting_station waits_below (at 10 ∷ with_estimate 0 ∷ at 15 ∷ with_estimate 0 ∷ []) (goal_is 255 ∷ running ∷ goal_is 255 ∷ running ∷ []) none 10
    ∷ starting_station waits_below (at 10 ∷ with_estimate 0 ∷ at 14 ∷ with_estimate 0 ∷ []) (goal_is 255 ∷ running ∷ goal_is 255 ∷ done ∷ []) (some 2) 10
    ∷ station goal1 0 (with_estimate 0 ∷ at 5 ∷ with_estimate 251 ∷ settling (0 ∷ 0 ∷ []) ∷ at 5 ∷ with_estimate 0 ∷ []) (refused wrong_phase ∷ goal_is 1 ∷ refused estimate_not_allowed ∷ refused estimate_not_allowed ∷ refused wrong_phase ∷ running ∷ []) none
    ∷ station goal1 0 (at 5 ∷ with_estimate 0 ∷ at 4 ∷ offer 5 [] ∷ at 5 ∷ with_estimate 1 ∷ at 6 ∷ with_estimate 1 ∷ []) (goal_is 1 ∷ running ∷ refused time_before_last ∷ refused buffer_too_short ∷ goal_is 1 ∷ done ∷ refused run_finished ∷ refused run_finished ∷ []) (some 2)
    ∷ []

-- "The offer now names the lowest-numbered contested variable" (document 02, R-1). PAR(GOAL 2=1, GOAL 2=2, GOAL 1=1, GOAL 1=2, GOAL 1=1, GOAL 0=5):
-- of 3 variables 1 and 2 are contested, then 2 alone, then none. PAR(GOAL 31=1, GOAL 31=2, GOAL 0=1, GOAL 0=2): of 32 variables the first and the
-- last, then the last alone
abbrev pub three_variables : List ℕ
three_variables =
    7 ∷ 3 ∷ 0
    ∷ 5 ∷ 1 ∷ 1 ∷ 1 ∷ 1 ∷ 1 ∷ 1
    ∷ 6 ∷ 0 ∷ 0 ∷ 0
    ∷ 0 ∷ 2 ∷ 1 ∷ 0
    ∷ 0 ∷ 2 ∷ 2 ∷ 0
    ∷ 0 ∷ 1 ∷ 1 ∷ 0
    ∷ 0 ∷ 1 ∷ 2 ∷ 0
    ∷ 0 ∷ 1 ∷ 1 ∷ 0
    ∷ 0 ∷ 0 ∷ 5 ∷ 0
    ∷ []

abbrev pub first_and_last : List ℕ
first_and_last =
    5 ∷ 32 ∷ 0
    ∷ 5 ∷ 1 ∷ 1 ∷ 1 ∷ 1
    ∷ 4 ∷ 0 ∷ 0 ∷ 0
    ∷ 0 ∷ 31 ∷ 1 ∷ 0
    ∷ 0 ∷ 31 ∷ 2 ∷ 0
    ∷ 0 ∷ 0 ∷ 1 ∷ 0
    ∷ 0 ∷ 0 ∷ 2 ∷ 0
    ∷ []

unfoldable pub contested_stations : List Station
contested_stations =
    clockless_station three_variables (0 ∷ 0 ∷ 0 ∷ [])
    (offer 0 (replicate 3 7) ∷ settling (0 ∷ 2 ∷ 0 ∷ []) ∷ offer 0 (replicate 3 7) ∷ settling (0 ∷ 2 ∷ 1 ∷ []) ∷ offer 0 (replicate 3 7) ∷ [])
    (goals (5 ∷ contested ∷ contested ∷ []) 1 ∷ running ∷ goals (5 ∷ 1 ∷ contested ∷ []) 2 ∷ running ∷ goals (5 ∷ 1 ∷ 2 ∷ []) no_variable ∷ [])
    ∷ clockless_station first_and_last (replicate 32 0)
    (offer 0 (replicate 32 7) ∷ settling (1 ∷ replicate 31 0) ∷ offer 0 (replicate 32 7) ∷ [])
    (goals (contested ∷ replicate 30 no_goal ++ (contested ∷ [])) 0 ∷ running ∷ goals (2 ∷ replicate 30 no_goal ++ (contested ∷ [])) 31 ∷ [])
    ∷ []

-- "Stations that repeat a dip start the dip clock in every round, and only the first start counts. … From now on every marked START sets its clock to the
-- cycle's time" (document 02, R-2). REPEAT(SEQ(START 0, WAIT clock 0 at least 10, GOAL 0=1)) waits in the second round for as long as in the first.
-- PAR(SEQ(START 0, START 0), WAIT) and PAR(WAIT, SEQ(START 0, START 0)): the WAIT beside the second START reads the first start, for clock 0 at least 5
-- (due at 15, not at 14) and below 3. SEQ(START 0, MAINTAIN(0≠2, START 0)), violated: the START inside starts nothing. SEQ(START 0, START 0) at one time,
-- and PAR(START 0, START 0)
abbrev pub timed_rounds : List ℕ
timed_rounds = program 5 (8 ∷ 4 ∷ 2 ∷ 3 ∷ 1 ∷ []) (0 ∷ 0 ∷ 0 ∷ 0 ∷ 3 ∷ 0 ∷ 0 ∷ 0 ∷ 0 ∷ 0 ∷ 0 ∷ 0 ∷ 3 ∷ 0 ∷ 10 ∷ 0 ∷ 0 ∷ 0 ∷ 1 ∷ 0 ∷ [])

-- a WAIT on clock 0, by its test and value, after and before the two STARTs
abbrev pub starts_then_wait : ℕ → ℕ → List ℕ
starts_then_wait test limit = program 5 (5 ∷ 4 ∷ 2 ∷ 2 ∷ 3 ∷ []) (2 ∷ 0 ∷ 0 ∷ 0 ∷ 2 ∷ 0 ∷ 0 ∷ 0 ∷ 0 ∷ 0 ∷ 0 ∷ 0 ∷ 0 ∷ 0 ∷ 0 ∷ 0 ∷ test ∷ 0 ∷ limit ∷ 0 ∷ [])

abbrev pub wait_then_starts : ℕ → ℕ → List ℕ
wait_then_starts test limit = program 5 (5 ∷ 3 ∷ 4 ∷ 2 ∷ 2 ∷ []) (2 ∷ 0 ∷ 0 ∷ 0 ∷ test ∷ 0 ∷ limit ∷ 0 ∷ 2 ∷ 0 ∷ 0 ∷ 0 ∷ 0 ∷ 0 ∷ 0 ∷ 0 ∷ 0 ∷ 0 ∷ 0 ∷ 0 ∷ [])

abbrev pub guarded_start : List ℕ
guarded_start = program 4 (4 ∷ 2 ∷ 6 ∷ 2 ∷ []) (2 ∷ 0 ∷ 0 ∷ 0 ∷ 0 ∷ 0 ∷ 0 ∷ 0 ∷ 2 ∷ 0 ∷ 2 ∷ 0 ∷ 0 ∷ 0 ∷ 0 ∷ 0 ∷ [])

abbrev pub starts_together : List ℕ
starts_together = program 3 (5 ∷ 2 ∷ 2 ∷ []) (2 ∷ 0 ∷ 0 ∷ 0 ∷ 0 ∷ 0 ∷ 0 ∷ 0 ∷ 0 ∷ 0 ∷ 0 ∷ 0 ∷ [])

-- cycles at some times, each with the estimate 0, of a program that offers no goal: it runs on until it is done with the last
abbrev pub goalless_calls : List ℕ → List Call
goalless_calls times = flat (λ time. at time ∷ with_estimate 0 ∷ []) times

abbrev pub goalless_replies : ℕ → List Reply
goalless_replies n = flat (λ r. goal_is 255 ∷ r ∷ []) (replicate n running ++ (done ∷ []))

abbrev pub goalless_station : List ℕ → List ℕ → ℕ → ℕ → Station
goalless_station f times n start = starting_station f (goalless_calls times) (goalless_replies n) (some (suc n)) start

unfoldable pub restarted_stations : List Station
restarted_stations =
    starting_station timed_rounds
    (at 10 ∷ with_estimate 0 ∷ at 20 ∷ with_estimate 0 ∷ at 20 ∷ with_estimate 1 ∷ at 21 ∷ with_estimate 0 ∷ at 30 ∷ with_estimate 0 ∷ at 31 ∷ with_estimate 0 ∷ at 31 ∷ [])
    (goal_is 255 ∷ running ∷ goal_is 255 ∷ running ∷ goal_is 1 ∷ running ∷ goal_is 255 ∷ running ∷ goal_is 255 ∷ running ∷ goal_is 255 ∷ running ∷ goal_is 1 ∷ [])
    none
    21
    ∷ goalless_station (starts_then_wait 3 5) (10 ∷ 15 ∷ []) 1 15
    ∷ goalless_station (wait_then_starts 3 5) (10 ∷ 15 ∷ []) 1 15
    ∷ goalless_station (starts_then_wait 3 5) (10 ∷ 14 ∷ 19 ∷ []) 2 14
    ∷ goalless_station (wait_then_starts 4 3) (10 ∷ 15 ∷ 17 ∷ []) 2 15
    ∷ starting_station guarded_start (at 10 ∷ with_estimate 2 ∷ at 20 ∷ with_estimate 2 ∷ []) (goal_is 255 ∷ running ∷ goal_is 255 ∷ done ∷ []) (some 2) 10
    ∷ goalless_station starts2 (10 ∷ 10 ∷ []) 1 10
    ∷ goalless_station starts_together (7 ∷ []) 0 7
    ∷ []

-- "An open WAIT stays, an open MAINTAIN goes on, an open CHOICE takes its second child, and a GOAL on an unknown variable is not reached" (document 02,
-- R-4), each with "equals" and with "differs": WAIT 0≠1; MAINTAIN(0=1, GOAL 0=2); CHOICE(0=1 or 0≠1; GOAL 0=1; GOAL 0=2)
abbrev pub waits_other : List ℕ
waits_other = program 1 (3 ∷ []) (2 ∷ 0 ∷ 1 ∷ 0 ∷ [])

abbrev pub maintains_value : List ℕ
maintains_value = program 2 (6 ∷ 1 ∷ []) (1 ∷ 0 ∷ 1 ∷ 0 ∷ 0 ∷ 0 ∷ 2 ∷ 0 ∷ [])

abbrev pub decides_by : ℕ → List ℕ
decides_by test = program 3 (7 ∷ 1 ∷ 1 ∷ []) (test ∷ 0 ∷ 1 ∷ 0 ∷ 0 ∷ 0 ∷ 1 ∷ 0 ∷ 0 ∷ 0 ∷ 2 ∷ 0 ∷ [])

-- SEQ(MAINTAIN(0≠2, SEQ(START 0, WAIT clock 0 at least 10, GOAL 0=3)), GOAL 0=1)
abbrev pub cores_level : List ℕ
cores_level =
    program 7
    (4 ∷ 6 ∷ 4 ∷ 2 ∷ 3 ∷ 1 ∷ 1 ∷ [])
    (2 ∷ 0 ∷ 0 ∷ 0 ∷ 2 ∷ 0 ∷ 2 ∷ 0 ∷ 3 ∷ 0 ∷ 0 ∷ 0 ∷ 0 ∷ 0 ∷ 0 ∷ 0 ∷ 3 ∷ 0 ∷ 10 ∷ 0 ∷ 0 ∷ 0 ∷ 3 ∷ 0 ∷ 0 ∷ 0 ∷ 1 ∷ 0 ∷ [])

-- the sensor falls silent in the settling before the clock comes due, three parts deep, and the WAIT ends while it is silent; it comes back with what it
-- says, and in the next cycle the MAINTAIN is violated or has ended by itself
abbrev pub silent_coring : ℕ → List Call → List Reply → Station
silent_coring back calls replies =
    starting_station cores_level
    (at 100 ∷ with_estimate 0 ∷ at 109 ∷ with_estimate unknown_value ∷ at 110 ∷ with_estimate unknown_value ∷ at 111 ∷ with_estimate back ∷ calls)
    (goal_is no_goal ∷ running ∷ goal_is no_goal ∷ running ∷ goal_is no_goal ∷ running ∷ goal_is 3 ∷ running ∷ replies)
    none
    100

unfoldable pub silent_stations : List Station
silent_stations =
    station goal1 unknown_value (at 0 ∷ with_estimate unknown_value ∷ at 0 ∷ with_estimate 1 ∷ []) (goal_is 1 ∷ running ∷ goal_is 1 ∷ done ∷ []) (some 2)
    ∷ station waits_value 1 (at 0 ∷ with_estimate unknown_value ∷ at 0 ∷ with_estimate 1 ∷ []) (goal_is no_goal ∷ running ∷ goal_is no_goal ∷ done ∷ []) (some 2)
    ∷ station waits_other 0 (at 0 ∷ with_estimate unknown_value ∷ at 0 ∷ with_estimate 0 ∷ []) (goal_is no_goal ∷ running ∷ goal_is no_goal ∷ done ∷ []) (some 2)
    ∷ station maintains unknown_value (at 0 ∷ with_estimate unknown_value ∷ at 0 ∷ with_estimate 2 ∷ at 0 ∷ with_estimate unknown_value ∷ []) (goal_is 1 ∷ running ∷ goal_is 1 ∷ running ∷ goal_is no_goal ∷ done ∷ []) (some 3)
    ∷ station maintains_value unknown_value (at 0 ∷ with_estimate 1 ∷ at 0 ∷ with_estimate 0 ∷ at 0 ∷ with_estimate 1 ∷ []) (goal_is 2 ∷ running ∷ goal_is 2 ∷ running ∷ goal_is no_goal ∷ done ∷ []) (some 3)
    ∷ station (decides_by 1) 1 (at 0 ∷ with_estimate unknown_value ∷ at 0 ∷ []) (goal_is no_goal ∷ running ∷ goal_is 2 ∷ []) none
    ∷ station (decides_by 2) 0 (at 0 ∷ with_estimate unknown_value ∷ at 0 ∷ []) (goal_is no_goal ∷ running ∷ goal_is 2 ∷ []) none
    ∷ silent_coring 2 (at 112 ∷ with_estimate unknown_value ∷ at 113 ∷ []) (goal_is no_goal ∷ running ∷ goal_is 1 ∷ [])
    ∷ silent_coring 3 (at 112 ∷ []) (goal_is 1 ∷ [])
    ∷ station goal1 0 (at 0 ∷ with_estimate 251 ∷ with_estimate 254 ∷ with_estimate unknown_value ∷ []) (goal_is 1 ∷ refused estimate_not_allowed ∷ refused estimate_not_allowed ∷ running ∷ []) none
    ∷ []

-- Station 10: "The file .. and its table below"
abbrev pub table10 : List ℕ
table10 =
    3 ∷ 1 ∷ 1
    ∷ 4 ∷ 3 ∷ 255 ∷ 255 ∷ 2 ∷ 0 ∷ 0 ∷ 0
    ∷ 2 ∷ 2 ∷ 0 ∷ 2 ∷ 0 ∷ 0 ∷ 0 ∷ 0
    ∷ 3 ∷ 3 ∷ 0 ∷ 255 ∷ 3 ∷ 0 ∷ 10 ∷ 0
    ∷ []

unfoldable pub same_reply : Reply → Reply → Bool
same_reply (refused m) (refused n) = eqb m n
same_reply (refused m) (goals h y) = false
same_reply (refused m) running = false
same_reply (refused m) done = false
same_reply (goals g x) (refused n) = false
same_reply (goals g x) (goals h y) = same g h && eqb x y
same_reply (goals g x) running = false
same_reply (goals g x) done = false
same_reply running (refused n) = false
same_reply running (goals h y) = false
same_reply running running = true
same_reply running done = false
same_reply done (refused n) = false
same_reply done (goals h y) = false
same_reply done running = false
same_reply done done = true

unfoldable pub same_replies : List Reply → List Reply → Bool
same_replies [] [] = true
same_replies [] (y ∷ ys) = false
same_replies (x ∷ xs) [] = false
same_replies (x ∷ xs) (y ∷ ys) = same_reply x y && same_replies xs ys

abbrev pub same_number : Option ℕ → Option ℕ → Bool
same_number none none = true
same_number none (some n) = false
same_number (some m) none = false
same_number (some m) (some n) = eqb m n

-- by the table: from the file's bytes through the table's and the record's
unfoldable pub by_table : Station → Bool
by_table x =
    let t = compiled File x.file in
    let r = begun_into t x.first (replicate record_length 9) in
    let after = table_after t r x.calls in
    eqb (begin_refusal t x.first record_length) 0
    && (same_replies (table_replies t r x.calls) x.replies
    && (same_number (table_finishing t r 0 x.calls) x.finishing
    && (same (started_in t after) x.started && same (starts_in t after) x.starts)))

-- by unfolding the tree
unfoldable pub by_tree : Station → Option Part → Bool
by_tree x none = false
by_tree x (some p) =
    let v = variables x.file in
    let k = clocks x.file in
    let b = begin p k x.first in
    let after = tree_after p v b x.calls in
    same_replies (tree_replies p v b x.calls) x.replies
    && (same_number (tree_finishing p v b 0 x.calls) x.finishing
    && (same after.started x.started && same after.starts x.starts))

unfoldable pub holds : Station → Bool
holds x = eqb (program_refusal File x.file) x.answer && cond (eqb x.answer 0) (by_table x && by_tree x (tree_of File x.file)) true

abbrev pub all_hold : Bool
all_hold = all holds stations && (same (compiled File waits) table10 && (all holds further && (all holds contested_stations && (all holds restarted_stations && all holds silent_stations))))

-- Stations 2 and 3 for all: "any settling finishes" after an offer at any time, with any estimate that is allowed; "goals 01 at any first time"
abbrev pub finishes_with : ℕ → ℕ → Station
finishes_with time e = station maintains 2 (at time ∷ with_estimate e ∷ []) (goal_is 255 ∷ done ∷ []) (some 1)

abbrev pub offers_at : ℕ → Station
offers_at time = station limited 0 (at time ∷ []) (goal_is 1 ∷ []) none

pub record AnyHold : Type 0 where
  pub any_settling : (time e : ℕ) → time < time_limit → estimate_byte_allowed e ≡ true → holds (finishes_with time e) ≡ true
  pub any_first_time : (time : ℕ) → time < time_limit → holds (offers_at time) ≡ true
