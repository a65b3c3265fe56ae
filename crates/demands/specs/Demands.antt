-- All that is promised: the buyer's three demands, each one statement. The theorems `demand_1`, `demand_2` and `demand_3` stand in proofs/.
-- Of the operations nothing is known here but what their contracts promise (`Operations`): a call is any answer and any bytes that came back as
-- promised. "No call reads or writes beyond its buffers, overflows or fails to end": that the checker proves of every function of the code.
use Rattle.std.specs.Prelude.{ℕ, ◌+◌, ◌-◌, ◌≤◌, ◌<◌, ◌≡◌, ◌⊎◌, ◌↔◌, Bool, true, false, cond, List, [], ◌∷◌, ◌++◌, length, get_or}
use Rattle.std.proofs.lemmas.List.Edits.{sets}
use Rattle.base.specs.Lists.{all}
use Rattle.meaning.specs.declared.Form.TheVariants.{File}
use Rattle.meaning.specs.Sizes.{time_limit}
use Rattle.meaning.specs.Tree.{Part}
use Rattle.meaning.specs.Program.{variables, clocks, program_tests, program_refusal, Within, file_of}
use Rattle.meaning.specs.Table.{compiled, compile_tests, file_in, is_table, decompile_tests}
use Rattle.meaning.specs.Record.{record_allowed}
use Rattle.meaning.specs.Cycle.{estimate_allowed, begin_tests, fresh_record, offer_tests, offered_goals, offered_name, offered_record, settle_tests, settled_marks, settled_record, root_ended}
use Rattle.meaning.specs.Answers.{answered, not_a_table}
use Rattle.meaning.specs.Operations.{Compiled, Decompiled, Begun, Offered, Settled}
use Rattle.agreement.specs.Runs.{Call, Timed, RunsAlike}
use Rattle.agreement.specs.Calls.{table_in, OperationsAlike}
use Rattle.sentences.specs.Allowed.{EstimateByte, AllowedRecord}
use Rattle.sentences.specs.Fields.{Bytes}
use Rattle.sentences.specs.Rows.{LaidDown}
use Rattle.sentences.specs.RoundTrip.{Gives, Inverses}
use Rattle.sentences.specs.Stepping.{BeginningSteps, OfferSteps, SettlingSteps}

-- Demand 1. "If a file, table, run record, estimate or clock reading is not one that document 01 allows, a buffer is too short, or a call comes
-- out of turn, the call gives that document's refusal and changes no lent byte. Every other call gives its result."

-- A list of tests has each refusal's number with the test that must pass, in document 01's order
abbrev pub passes : ℕ × Bool → Bool
passes test = test.1

-- n is the number of the first test that fails: all before it pass
pub record FirstFails (tests : List (ℕ × Bool)) (n : ℕ) : Type 0 where
  pub earlier : List (ℕ × Bool)
  pub later : List (ℕ × Bool)
  pub tests_are : tests ≡ earlier ++ ((n, false) ∷ later)
  pub earlier_pass : all passes earlier ≡ true

-- A call is refused by the first test that fails: its answer is that test's number, which is not 0 and below 256, as no other answer is
pub record RefusedBy (tests : List (ℕ × Bool)) (answer : ℕ) : Type 0 where
  pub first : FirstFails tests answer
  pub not_done : 0 < answer
  pub not_answered : answer < answered

-- refused it changes nothing, and any other call gives its result
abbrev pub Answers : List (ℕ × Bool) → ℕ → Type 0 → Type 0 → Type 0
Answers tests answer Unchanged Result = (RefusedBy tests answer × Unchanged) ⊎ ((all passes tests ≡ true) × Result)

-- "Order: reading 1 to 7, each over all parts, then 8. Back to a file 9, 8. Beginning 9, 13, 8. Offer 9, 10, 14, 11, 12, 8. Settling 9, 10, 14, 11, 13, 15."
abbrev pub numbers : List (ℕ × Bool) → List ℕ
numbers [] = []
numbers (test ∷ tests) = test.0 ∷ numbers tests

pub record Orders : Type 0 where
  pub compiling : (f : List ℕ) (room : ℕ) → numbers (compile_tests f room) ≡ 1 ∷ 2 ∷ 3 ∷ 4 ∷ 5 ∷ 6 ∷ 7 ∷ 8 ∷ []
  pub decompiling : (t : List ℕ) (room : ℕ) → numbers (decompile_tests t room) ≡ 9 ∷ 8 ∷ []
  pub beginning : (t est : List ℕ) (room : ℕ) → numbers (begin_tests t est room) ≡ 9 ∷ 13 ∷ 8 ∷ []
  pub offer : (t r : List ℕ) (time room : ℕ) → numbers (offer_tests t r time room) ≡ 9 ∷ 10 ∷ 14 ∷ 11 ∷ 12 ∷ 8 ∷ []
  pub settling : (t r est : List ℕ) → numbers (settle_tests t r est) ≡ 9 ∷ 10 ∷ 14 ∷ 11 ∷ 13 ∷ 15 ∷ []

-- "one that document 01 allows": which files, records and estimates pass their tests
pub record Allowed : Type 0 where
  -- a file passes 1 to 7 exactly where it is that of a tree within the limits
  pub files : (f : List ℕ) → (all passes (program_tests File f) ≡ true) ↔ ((p : Part) × Within (variables f) (clocks f) p × (f ≡ file_of (variables f) (clocks f) p))
  pub records : (t r : List ℕ) → (record_allowed t r ≡ true) ↔ AllowedRecord t r
  pub estimates : (v : ℕ) (est : List ℕ) → (estimate_allowed v est ≡ true) ↔ ((length est ≡ v) × ((i : ℕ) → i < length est → EstimateByte (get_or est i 0)))

pub record Demand1 : Type 0 where
  pub orders : Orders
  pub allowed : Allowed
  pub compiles : (f out : List ℕ) (answer : ℕ) (out' : List ℕ) → Compiled f out answer out'
      → Answers (compile_tests f (length out)) answer (out' ≡ out) ((answer ≡ 0) × (out' ≡ sets out 0 (compiled File f)))
  pub decompiles : (t out : List ℕ) (answer : ℕ) (out' : List ℕ) → Decompiled t out answer out'
      → Answers (decompile_tests t (length out)) answer (out' ≡ out) ((answer ≡ 0) × (out' ≡ sets out 0 (file_in t)))
  pub begins : (t est r : List ℕ) (answer : ℕ) (r' : List ℕ) → Begun t est r answer r'
      → Answers (begin_tests t est (length r)) answer (r' ≡ r) ((answer ≡ 0) × (r' ≡ sets r 0 (fresh_record t est)))
  -- 256 and the variable that is named: the lowest contested one, 255 for none
  pub offers : (t r : List ℕ) (time : ℕ) (goals : List ℕ) (answer : ℕ) (r' goals' : List ℕ) → Offered t r time goals answer r' goals'
      → Answers (offer_tests t r time (length goals)) answer ((r' ≡ r) × (goals' ≡ goals)) ((answer ≡ answered + offered_name t r time) × (r' ≡ offered_record t r time) × (goals' ≡ sets goals 0 (offered_goals t r time)))
  -- 257 where the root has ended ("finished"), else 256 ("running")
  pub settles : (t r est : List ℕ) (answer : ℕ) (r' : List ℕ) → Settled t r est answer r'
      → Answers (settle_tests t r est) answer (r' ≡ r) ((answer ≡ cond (root_ended (settled_marks t r est)) (answered + 1) answered) × (r' ≡ settled_record t r est))

-- Demand 2. "Reading a program gives the table that document 01 lays down, the table gives that file back, and a table that no file gives is refused.
-- Each cycle over a table offers goals, starts clocks and ends parts as the stepping procedure of Ingham and Williams does", with the readings in document 01
-- and what document 02 changes.

-- no program file gives these bytes for its table
abbrev pub NoFile : List ℕ → Type 0
NoFile t = (f : List ℕ) → Gives f t → ⊥

-- a settling's record follows from the stepping; its answer says whether the root has ended: 257 ("finished"), else 256 ("running")
pub record SettlingStepped (t r est : List ℕ) (answer : ℕ) (r' : List ℕ) : Type 0 where
  pub steps : SettlingSteps t r est r'
  pub tells : answer ≡ cond (steps.ends 0) (answered + 1) answered

pub record Demand2 : Type 0 where
  -- reading: of all bytes that hold the file, those that compiling leaves are laid down as a table, and no others are
  pub reads : (f out : List ℕ) (answer : ℕ) (out' : List ℕ) → Compiled f out answer out' → answer ≡ 0
      → (t : List ℕ) → (table_in f out' ≡ t) ↔ ((file_in t ≡ f) × LaidDown t)
  -- reading, giving back and the table check are one another's inverses, and the further bytes of both buffers stay
  pub inverses : Inverses
  -- a table that no file gives is refused by 9, and only such, whichever operation it is given to
  pub decompile_refuses : (t out : List ℕ) (answer : ℕ) (out' : List ℕ) → Decompiled t out answer out' → (answer ≡ not_a_table) ↔ NoFile t
  pub begin_refuses : (t est r : List ℕ) (answer : ℕ) (r' : List ℕ) → Begun t est r answer r' → (answer ≡ not_a_table) ↔ NoFile t
  pub offer_refuses : (t r : List ℕ) (time : ℕ) (goals : List ℕ) (answer : ℕ) (r' goals' : List ℕ) → Offered t r time goals answer r' goals'
      → (answer ≡ not_a_table) ↔ NoFile t
  pub settle_refuses : (t r est : List ℕ) (answer : ℕ) (r' : List ℕ) → Settled t r est answer r' → (answer ≡ not_a_table) ↔ NoFile t
  -- each beginning, offer and settling that is not refused is the stepping, where times have 32 bits and a record is made of bytes; an offer's
  -- answer is 256 and the name that the stepping gives
  pub begin_steps : (t est r : List ℕ) (answer : ℕ) (r' : List ℕ) → Begun t est r answer r' → answer ≡ 0 → BeginningSteps t est r r'
  pub offer_steps : (t r : List ℕ) (time : ℕ) (goals : List ℕ) (answer : ℕ) (r' goals' : List ℕ) → Offered t r time goals answer r' goals'
      → answered ≤ answer → time < time_limit → OfferSteps t r time goals (answer - answered) r' goals'
  pub settle_steps : (t r est : List ℕ) (answer : ℕ) (r' : List ℕ) → Settled t r est answer r'
      → answered ≤ answer → Bytes r → SettlingStepped t r est answer r'
  -- and the stepping leaves no byte and no name open
  pub begin_only : (t est r a b : List ℕ) → BeginningSteps t est r a → BeginningSteps t est r b → Bytes a → Bytes b → a ≡ b
  pub offer_only : (t r : List ℕ) (time : ℕ) (goals : List ℕ) (na : ℕ) (a ga : List ℕ) (nb : ℕ) (b gb : List ℕ)
      → OfferSteps t r time goals na a ga → OfferSteps t r time goals nb b gb
      → is_table t ≡ true → Bytes a → Bytes b → (na ≡ nb) × (a ≡ b) × (ga ≡ gb)
  pub settle_only : (t r est a b : List ℕ) → SettlingSteps t r est a → SettlingSteps t r est b → is_table t ≡ true → Bytes a → Bytes b → a ≡ b

-- Demand 3. "Run one program twice from the same first estimate, once stepped by its table and once by unfolding its tree part by part with no
-- table, and the two are alike": for every program file that compiling accepts, every first estimate, all buffers and every list of calls, whose
-- times have 32 bits
pub record Demand3 : Type 0 where
  -- by the definitions
  pub runs : (f est r : List ℕ) (cs : List Call) → program_refusal File f ≡ 0 → Timed cs → RunsAlike f est r cs
  -- by the operations: whatever compiling, a beginning on the table that it wrote, and calls after that answer and leave
  pub operations : (f out : List ℕ) (answer : ℕ) (out' : List ℕ) → Compiled f out answer out' → answer ≡ 0
      → (est r : List ℕ) (answer' : ℕ) (r' : List ℕ) → Begun (table_in f out') est r answer' r'
      → OperationsAlike f (table_in f out') est r answer' r'
