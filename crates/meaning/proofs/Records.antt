-- Laws of the run record: how its bytes are read and written, which records are allowed, and how a run begins.
use Prim.Native.Nat.{ℕ, zero, suc, ◌+◌, ◌-◌, ◌*◌, ◌/◌, ◌%◌, ◌^◌, ◌≤◌, ◌<◌}
use native.Mathlib.Nat.{zero-add}
use native.Mathlib.Omega.{arith}
use mathlib.Core.Path.{◌≡◌, refl, sym, ap, ap₂, ◌∙◌}
use mathlib.Core.Bool.{Bool, true, false, cond, ◌&&◌, and-eq-true_iff}
use mathlib.Core.List.{List, [], ◌∷◌, ◌++◌, map, append_assoc, append-nil}
use lib.Dec.{eqb, leb}
use lib.ListN.{length, get_or, take, drop, set, replicate, length-append, length-replicate, get_or-replicate}
use lib.Seq.{sets, length-sets}
use borrow.Author.Tests.{le-leb, leb-true, eqb-true}
use Rattle.base.specs.Lists.{sum, concat, flat, all, tabulate, bytes_at}
use Rattle.base.proofs.Lists.{and_left, Passed, none_fails, cond_map, cond_same, length_pieces, all-tabulate, all_replicate}
use Rattle.base.proofs.Stores.{sets_start, drop_front, bytes_front, drop_join, sets_join, bytes_join}
use Rattle.meaning.specs.Sizes.{max_parts, max_variables, max_clocks, time_width, little_endian, little_endian_value, byte_values, time_limit}
use Rattle.meaning.specs.Program.{parts, variables, clocks}
use Rattle.meaning.specs.Table.{inside_of, is_table}
use Rattle.meaning.specs.Conditions.{Situation}
use Rattle.meaning.specs.declared.Transition.{Transition}
use Rattle.meaning.specs.declared.Transition.TheVariants.{Stays, Ends, First, Second}
use Rattle.meaning.specs.Cycle.{applied, begins, initial_marks_from, initial_marks, breaks, checked_from, checked_marks, offered_record, leaves_from, settled_from, settled_marks, root_ended, clocks_after, settled_record, estimate_allowed, fresh_record, begin_tests, begin_refusal, begun_into}
use Rattle.meaning.specs.Record.{time_place, estimate_place, started_place, starts_place, marks_place, record_length, time_at, phase_of, last_time, estimate_in, started_in, starts_in, marks_in, record_bytes, is_zero, started_flag, rest_zero, estimate_byte_allowed, values_allowed, clock_allowed, clocks_allowed, root_allowed, parts_allowed, record_allowed, waiting, offered, finished}
use Rattle.meaning.proofs.Tables.{table_held, root_there, root_end}
use Rattle.meaning.proofs.Clocks.{length_after, each_after}

-- Numbers: a number is read back from as many bytes as hold it
pub value_back : (w x : ℕ) → x < 256 ^ suc w → little_endian_value (x % 256) (little_endian w (x / 256)) ≡ x
value_back zero x h = omega arith
value_back (suc w) x h = rw (value_back w (x / 256) (omega arith)) (omega arith)

pub value_of : (w x b : ℕ) (bs : List ℕ) → b ∷ bs ≡ little_endian (suc w) x → x < byte_values ^ suc w → little_endian_value b bs ≡ x
value_of w x b bs e h =
    let p : b ≡ x % byte_values = cc in
    let q : bs ≡ little_endian w (x / byte_values) = cc in
    rw (p, q) (value_back w x h)

-- a time is read back from where its bytes stand
pub time_back : (r : List ℕ) (i x : ℕ) → bytes_at r i time_width ≡ little_endian time_width x → x < time_limit → time_at r i ≡ x
time_back r i x e h = value_of (time_width - 1) x (get_or r i 0) (bytes_at r (suc i) (time_width - 1)) e h

-- times are read back from where they stand one after the other
pub times_back : (r xs rest : List ℕ) (k c : ℕ) → drop (k + time_width * c) r ≡ flat (little_endian time_width) xs ++ rest → ((i : ℕ) → i < length xs → get_or xs i 0 < time_limit) → tabulate (λ i. time_at r (k + time_width * i)) c (length xs) ≡ xs
times_back r [] rest k c e h = refl
times_back r (x ∷ xs) rest k c e h =
    let a : time_at r (k + time_width * c) ≡ x = time_back r (k + time_width * c) x (bytes_front r (little_endian time_width x) (flat (little_endian time_width) xs ++ rest) (k + time_width * c) e) (h 0 (omega arith)) in
    let n : k + time_width * c + time_width ≡ k + time_width * suc c = omega arith in
    let b : drop (k + time_width * suc c) r ≡ flat (little_endian time_width) xs ++ rest = rw n at (drop_front r (little_endian time_width x) (flat (little_endian time_width) xs ++ rest) (k + time_width * c) e) in
    ap₂ ◌∷◌ a (times_back r xs rest k (suc c) b (λ i l. h (suc i) (omega arith)))

pub length_times : (xs : List ℕ) → length (flat (little_endian time_width) xs) ≡ time_width * length xs
length_times = length_pieces (little_endian time_width) time_width (λ x. refl)

-- What a record holds is as long as the table says, within the limits
pub record Shaped (t est started starts marks : List ℕ) : Type 0 where
  pub estimate_is : length est ≡ variables t
  pub started_is : length started ≡ clocks t
  pub starts_are : length starts ≡ clocks t
  pub marks_are : length marks ≡ parts t
  pub variables_fit : variables t ≤ max_variables
  pub clocks_fit : clocks t ≤ max_clocks
  pub parts_fit : parts t ≤ max_parts

-- and its times have their width
pub record Fits (t : List ℕ) (time : ℕ) (est started starts marks : List ℕ) : Type 0 where
  pub shape : Shaped t est started starts marks
  pub time_fits : time < time_limit
  pub starts_fit : (c : ℕ) → c < clocks t → get_or starts c 0 < time_limit

-- the bytes of a record and the bytes after it, piece by piece, and how long the pieces are
abbrev pieces : List ℕ → ℕ → ℕ → List ℕ → List ℕ → List ℕ → List ℕ → List ℕ → List (List ℕ)
pieces t phase time est started starts marks more =
    (phase ∷ [])
    ∷ little_endian time_width time
    ∷ est
    ∷ replicate (max_variables - variables t) 0
    ∷ started
    ∷ replicate (max_clocks - clocks t) 0
    ∷ flat (little_endian time_width) starts
    ∷ replicate (time_width * (max_clocks - clocks t)) 0
    ∷ marks
    ∷ replicate (max_parts - parts t) 0
    ∷ more
    ∷ []

abbrev widths : List ℕ → ℕ → List ℕ
widths t n = 1 ∷ time_width ∷ variables t ∷ (max_variables - variables t) ∷ clocks t ∷ (max_clocks - clocks t) ∷ time_width * clocks t ∷ time_width * (max_clocks - clocks t) ∷ parts t ∷ (max_parts - parts t) ∷ n ∷ []

module _ {t est started starts marks : List ℕ} (shape : Shaped t est started starts marks) (phase time : ℕ) (more : List ℕ) where
  wide : map length (pieces t phase time est started starts marks more) ≡ widths t (length more)
  wide = simp (length-replicate, length_times, shape.estimate_is, shape.started_is, shape.starts_are, shape.marks_are)

  in_pieces : record_bytes phase time est started starts marks ++ more ≡ concat (pieces t phase time est started starts marks more)
  unfolding record_bytes
  in_pieces =
      let n : time_width * max_clocks - time_width * clocks t ≡ time_width * (max_clocks - clocks t) = omega arith in
      simp (append_assoc, append-nil, length_times, shape.estimate_is, shape.started_is, shape.starts_are, shape.marks_are, n)

  -- what stands from piece i on, what is read at it, and what is written over it
  from_piece : (i k : ℕ) → sum (take i (widths t (length more))) ≡ k → drop k (record_bytes phase time est started starts marks ++ more) ≡ concat (drop i (pieces t phase time est started starts marks more))
  from_piece i k a = rw in_pieces (drop_join (pieces t phase time est started starts marks more) (widths t (length more)) wide i k a)

  read_piece : (i k n : ℕ) → sum (take i (widths t (length more))) ≡ k → get_or (widths t (length more)) i 0 ≡ n → bytes_at (record_bytes phase time est started starts marks ++ more) k n ≡ get_or (pieces t phase time est started starts marks more) i []
  read_piece i k n a e = rw in_pieces (bytes_join (pieces t phase time est started starts marks more) (widths t (length more)) wide i k a n e)

  write_piece : (i k : ℕ) (ys : List ℕ) → sum (take i (widths t (length more))) ≡ k → length ys ≡ get_or (widths t (length more)) i 0 → sets (record_bytes phase time est started starts marks ++ more) k ys ≡ concat (set (pieces t phase time est started starts marks more) i ys)
  write_piece i k ys a e = rw in_pieces (sets_join (pieces t phase time est started starts marks more) (widths t (length more)) wide i k a ys e)

-- a record has its length
pub length_record : {t est started starts marks : List ℕ} (shape : Shaped t est started starts marks) (phase time : ℕ) → length (record_bytes phase time est started starts marks) ≡ record_length
unfolding record_bytes
length_record {est} {started} {starts} {marks} shape phase time = simp (length-append, length-replicate, length_times) (omega arith)

-- Reading: each field is read back
module _ {t : List ℕ} {time : ℕ} {est started starts marks : List ℕ} (fits : Fits t time est started starts marks) (phase : ℕ) (more : List ℕ) where
  pub phase_read : phase_of (record_bytes phase time est started starts marks ++ more) ≡ phase
  unfolding record_bytes
  phase_read = refl

  pub time_read : last_time (record_bytes phase time est started starts marks ++ more) ≡ time
  time_read = time_back (record_bytes phase time est started starts marks ++ more) time_place time (read_piece fits.shape phase time more 1 time_place time_width refl refl) fits.time_fits

  pub estimate_read : estimate_in t (record_bytes phase time est started starts marks ++ more) ≡ est
  estimate_read = read_piece fits.shape phase time more 2 estimate_place (variables t) (omega arith) refl

  pub started_read : started_in t (record_bytes phase time est started starts marks ++ more) ≡ started
  started_read = read_piece fits.shape phase time more 4 started_place (clocks t) (omega arith) refl

  pub starts_read : starts_in t (record_bytes phase time est started starts marks ++ more) ≡ starts
  starts_read =
      let r : List ℕ = record_bytes phase time est started starts marks ++ more in
      let rest : List ℕ = concat (drop 7 (pieces t phase time est started starts marks more)) in
      rw fits.shape.starts_are at (times_back r starts rest starts_place 0 (from_piece fits.shape phase time more 6 starts_place (omega arith)) (λ c l. fits.starts_fit c (omega arith)))

  pub marks_read : marks_in t (record_bytes phase time est started starts marks ++ more) ≡ marks
  marks_read = read_piece fits.shape phase time more 8 marks_place (parts t) (omega arith) refl

-- Writing: what is written over a field takes its place, and the rest stays
module _ {t est started starts marks : List ℕ} (shape : Shaped t est started starts marks) (phase time : ℕ) (more : List ℕ) where
  pub phase_written : (x : ℕ) → set (record_bytes phase time est started starts marks ++ more) 0 x ≡ record_bytes x time est started starts marks ++ more
  unfolding record_bytes
  phase_written x = refl

  pub time_written : (x : ℕ) → sets (record_bytes phase time est started starts marks ++ more) time_place (little_endian time_width x) ≡ record_bytes phase x est started starts marks ++ more
  time_written x = write_piece shape phase time more 1 time_place (little_endian time_width x) refl refl ∙ sym (in_pieces shape phase x more)

  pub estimate_written : (xs : List ℕ) → length xs ≡ variables t → sets (record_bytes phase time est started starts marks ++ more) estimate_place xs ≡ record_bytes phase time xs started starts marks ++ more
  estimate_written xs e =
      let s : Shaped t xs started starts marks = omega arith in
      write_piece shape phase time more 2 estimate_place xs refl e ∙ sym (in_pieces s phase time more)

  pub started_written : (xs : List ℕ) → length xs ≡ clocks t → sets (record_bytes phase time est started starts marks ++ more) started_place xs ≡ record_bytes phase time est xs starts marks ++ more
  started_written xs e =
      let s : Shaped t est xs starts marks = omega arith in
      write_piece shape phase time more 4 started_place xs (omega arith) e ∙ sym (in_pieces s phase time more)

  pub starts_written : (xs : List ℕ) → length xs ≡ clocks t → sets (record_bytes phase time est started starts marks ++ more) starts_place (flat (little_endian time_width) xs) ≡ record_bytes phase time est started xs marks ++ more
  starts_written xs e =
      let s : Shaped t est started xs marks = omega arith in
      write_piece shape phase time more 6 starts_place (flat (little_endian time_width) xs) (omega arith) (rw (length_times, e)) ∙ sym (in_pieces s phase time more)

  pub marks_written : (xs : List ℕ) → length xs ≡ parts t → sets (record_bytes phase time est started starts marks ++ more) marks_place xs ≡ record_bytes phase time est started starts xs ++ more
  marks_written xs e =
      let s : Shaped t est started starts xs = omega arith in
      write_piece shape phase time more 8 marks_place xs (omega arith) e ∙ sym (in_pieces s phase time more)

-- all fields but the time, one after the other
fields_written : {t est started starts marks : List ℕ} (shape : Shaped t est started starts marks) (phase time : ℕ) (more : List ℕ) (x : ℕ) (es fs cs ms : List ℕ) → Shaped t es fs cs ms
    → sets (sets (sets (sets (set (record_bytes phase time est started starts marks ++ more) 0 x) estimate_place es) started_place fs) starts_place (flat (little_endian time_width) cs)) marks_place ms ≡ record_bytes x time es fs cs ms ++ more
fields_written {t} {est} {started} {starts} {marks} shape phase time more x es fs cs ms new =
    let a : Shaped t es started starts marks = omega arith in
    let b : Shaped t es fs starts marks = omega arith in
    let c : Shaped t es fs cs marks = omega arith in
    rw (
      phase_written shape phase time more x,
      estimate_written shape x time more es new.estimate_is,
      started_written a x time more fs new.started_is,
      starts_written b x time more cs new.starts_are,
      marks_written c x time more ms new.marks_are,
    )

-- How many marks there are: one for a part and for each inside it, and an offer and a settling keep their number
length_initial_from : (t : List ℕ) (p n skip : ℕ) → length (initial_marks_from t p n skip) ≡ n
unfolding initial_marks_from
length_initial_from t p zero skip = refl
length_initial_from t p (suc n) zero = ap suc (length_initial_from t (suc p) n (cond (begins t p) 0 (inside_of t p)))
length_initial_from t p (suc n) (suc skip) = ap suc (length_initial_from t (suc p) n skip)

pub length_initial : (t : List ℕ) (q : ℕ) → length (initial_marks t q) ≡ suc (inside_of t q)
unfolding initial_marks
length_initial t q = ap suc (length_initial_from t (suc q) (inside_of t q) 0)

-- the root's are the marks of all parts
pub length_root : (t : List ℕ) → is_table t ≡ true → length (initial_marks t 0) ≡ parts t
length_root t table = omega (arith, length_initial t 0, root_there t table, root_end t table)

pub length_checked : (t : List ℕ) (sit : Situation) (p : ℕ) (ms : List ℕ) (skip : ℕ) → length (checked_from t sit p ms skip) ≡ length ms
unfolding checked_from
length_checked t sit p [] skip = refl
length_checked t sit p (m ∷ ms) zero = ap suc (length_checked t sit (suc p) ms (cond (breaks t sit p m) (inside_of t p) 0))
length_checked t sit p (m ∷ ms) (suc skip) = ap suc (length_checked t sit (suc p) ms skip)

length_applied : (t : List ℕ) (p : ℕ) (f : Transition) (rest : List ℕ) → length (applied t p f rest) ≡ suc (length rest)
unfolding applied
length_applied t p Stays rest = refl
length_applied t p Ends rest = simp (cond_map (length {A = ℕ}), length-sets, cond_same)
length_applied t p First rest = simp length-sets
length_applied t p Second rest = simp length-sets

pub length_settled : (t : List ℕ) (sit : Situation) (p : ℕ) (ms : List ℕ) → length (settled_from t sit p ms) ≡ length ms
unfolding settled_from
length_settled t sit p [] = refl
length_settled t sit p (m ∷ ms) = simp (cond_map (length {A = ℕ}), length_applied, cond_same, length_settled t sit (suc p) ms)

-- clocks that are not started are allowed
pub clocks_begun : (n time c : ℕ) → c < n → clock_allowed time (get_or (replicate n 0) c 0) (get_or (replicate n 0) c 0) ≡ true
unfolding clock_allowed
clocks_begun n time c l = rw get_or-replicate

-- a clock that is allowed stays so at a later time
pub clock_later : (time now a x : ℕ) → time ≤ now → clock_allowed time a x ≡ true → clock_allowed now a x ≡ true
unfolding clock_allowed
clock_later time now a x l h = go (is_zero a) h
  where
    go : (z : Bool) → cond z (is_zero x) (leb x time) ≡ true → cond z (is_zero x) (leb x now) ≡ true
    go true k = k
    go false k = le-leb x now (omega (arith, leb-true x time k))

-- what conditions are judged by
abbrev pub judged : List ℕ → List ℕ → List ℕ → ℕ → Situation
judged est started starts time = record { estimate = est; started = started; starts = starts; time = time }

-- One cycle
module _ {t : List ℕ} {time : ℕ} {est started starts marks : List ℕ} (fits : Fits t time est started starts marks) where
  -- what it holds after an offer
  pub offered_fits : (now : ℕ) → now < time_limit → Fits t now est started starts (checked_from t (judged est started starts now) 0 marks 0)
  offered_fits now h = record { shape = omega (arith, length_checked t (judged est started starts now) 0 marks 0); time_fits = h; starts_fit = fits.starts_fit }

  -- what it holds after a settling
  pub settled_fits : (new : List ℕ) → length new ≡ variables t → Fits t time new (clocks_after (clocks t) (leaves_from t 0 marks) started_flag started) (clocks_after (clocks t) (leaves_from t 0 marks) time starts) (settled_from t (judged new started starts time) 0 marks)
  settled_fits new e =
      record {
        shape = record {
          estimate_is = e;
          started_is = length_after (clocks t) started_flag (leaves_from t 0 marks) started;
          starts_are = length_after (clocks t) time (leaves_from t 0 marks) starts;
          marks_are = length_settled t _ 0 marks ∙ fits.shape.marks_are;
          variables_fit = fits.shape.variables_fit;
          clocks_fit = fits.shape.clocks_fit;
          parts_fit = fits.shape.parts_fit;
        };
        time_fits = fits.time_fits;
        starts_fit = each_after (clocks t) time (leaves_from t 0 marks) starts (λ x. x < time_limit) fits.time_fits fits.starts_fit;
      }

module _ {t : List ℕ} {time : ℕ} {est started starts marks : List ℕ} (fits : Fits t time est started starts marks) (phase : ℕ) (more : List ℕ) where
  -- the marks after an offer
  pub checked_marks_lem : (now : ℕ) → checked_marks t (record_bytes phase time est started starts marks ++ more) now ≡ checked_from t (judged est started starts now) 0 marks 0
  checked_marks_lem now = rw (estimate_read fits phase more, started_read fits phase more, starts_read fits phase more, marks_read fits phase more)

  -- the marks after a settling
  pub settled_record_marks : (new : List ℕ) → settled_marks t (record_bytes phase time est started starts marks ++ more) new ≡ settled_from t (judged new started starts time) 0 marks
  settled_record_marks new = rw (started_read fits phase more, starts_read fits phase more, marks_read fits phase more, time_read fits phase more)

  -- the record after an offer
  pub offered_bytes : (now : ℕ) → offered_record t (record_bytes phase time est started starts marks ++ more) now ≡ record_bytes offered now est started starts (checked_from t (judged est started starts now) 0 marks 0) ++ more
  offered_bytes now =
      let l : length (checked_from t (judged est started starts now) 0 marks 0) ≡ parts t = length_checked t (judged est started starts now) 0 marks 0 ∙ fits.shape.marks_are in
      rw (
        checked_marks_lem now,
        phase_written fits.shape phase time more,
        time_written fits.shape offered time more now,
        marks_written fits.shape offered now more (checked_from t (judged est started starts now) 0 marks 0) l,
      )

  -- the record after a settling
  pub settled_bytes : (new : List ℕ) → length new ≡ variables t
      → settled_record t (record_bytes phase time est started starts marks ++ more) new
      ≡ record_bytes (cond (root_ended (settled_from t (judged new started starts time) 0 marks)) finished waiting) time new (clocks_after (clocks t) (leaves_from t 0 marks) started_flag started) (clocks_after (clocks t) (leaves_from t 0 marks) time starts) (settled_from t (judged new started starts time) 0 marks) ++ more
  settled_bytes new e =
      rw (settled_record_marks new, started_read fits phase more, starts_read fits phase more, marks_read fits phase more, time_read fits phase more)
      (fields_written fits.shape phase time more _ new _ _ _ (settled_fits fits new e).shape)

-- What makes a record allowed
pub record Allowed (t : List ℕ) (phase time : ℕ) (est started starts marks : List ℕ) : Type 0 where
  pub phase_allowed : phase ≤ finished
  pub flags_allowed : all (λ b. leb b 1) started ≡ true
  pub marks_allowed : all (λ b. leb b 1) marks ≡ true
  pub estimate_allowed_lem : all estimate_byte_allowed est ≡ true
  pub clocks_allowed_lem : (c : ℕ) → c < clocks t → clock_allowed time (get_or started c 0) (get_or starts c 0) ≡ true
  pub root_allowed_lem : root_allowed phase marks ≡ true
  pub parts_allowed_lem : parts_allowed t phase 0 marks ≡ true

module _ {t : List ℕ} {time : ℕ} {est started starts marks : List ℕ} (fits : Fits t time est started starts marks) (phase : ℕ) (more : List ℕ) where
  pub rest_zero_lem : rest_zero t (record_bytes phase time est started starts marks ++ more) ≡ true
  unfolding rest_zero
  rest_zero_lem =
      let zeros : (n : ℕ) → all is_zero (replicate n 0) ≡ true = λ n. all_replicate is_zero n 0 refl in
      rw (
        read_piece fits.shape phase time more 3 (estimate_place + variables t) (max_variables - variables t) (omega arith) refl,
        read_piece fits.shape phase time more 5 (started_place + clocks t) (max_clocks - clocks t) (omega arith) refl,
        read_piece fits.shape phase time more 7 (starts_place + time_width * clocks t) (time_width * (max_clocks - clocks t)) (omega arith) refl,
        read_piece fits.shape phase time more 9 (marks_place + parts t) (max_parts - parts t) (omega arith) refl,
        zeros (max_variables - variables t),
        zeros (max_clocks - clocks t),
        zeros (time_width * (max_clocks - clocks t)),
        zeros (max_parts - parts t),
      )

  pub record_allowed_lem : Allowed t phase time est started starts marks → record_allowed t (record_bytes phase time est started starts marks ++ more) ≡ true
  unfolding record_allowed values_allowed clocks_allowed
  record_allowed_lem a =
      let l : record_length ≤ length (record_bytes phase time est started starts marks ++ more) = rw length-append (omega (arith, length_record fits.shape phase time)) in
      let k : all (λ c. clock_allowed time (get_or started c 0) (get_or starts c 0)) (tabulate (λ c. c) 0 (clocks t)) ≡ true = all-tabulate (λ c. c) (λ c. clock_allowed time (get_or started c 0) (get_or starts c 0)) 0 (clocks t) (λ c h. rw zero-add (a.clocks_allowed_lem c h)) in
      rw (
        le-leb record_length (length (record_bytes phase time est started starts marks ++ more)) l,
        rest_zero_lem,
        phase_read fits phase more,
        time_read fits phase more,
        estimate_read fits phase more,
        started_read fits phase more,
        starts_read fits phase more,
        marks_read fits phase more,
        le-leb phase finished a.phase_allowed,
        a.flags_allowed,
        a.marks_allowed,
        a.estimate_allowed_lem,
        a.root_allowed_lem,
        a.parts_allowed_lem,
        k,
      )

-- an allowed record is long enough
pub allowed_long : (t r : List ℕ) → record_allowed t r ≡ true → record_length ≤ length r
unfolding record_allowed
allowed_long t r h = leb-true record_length (length r) (and_left (leb record_length (length r)) (rest_zero t r && (values_allowed t r && (clocks_allowed t r && (root_allowed (phase_of r) (marks_in t r) && parts_allowed t (phase_of r) 0 (marks_in t r))))) h)

-- a record that is long enough stays so while its length stays
pub still_long : (r s : List ℕ) → record_length ≤ length r → length s ≡ length r → record_length ≤ length s
still_long r s long same = rw same long

-- an estimate that is allowed has a byte for each variable, a value or unknown
pub estimate_fits : (t est : List ℕ) → estimate_allowed (variables t) est ≡ true → (length est ≡ variables t) × (all estimate_byte_allowed est ≡ true)
unfolding estimate_allowed
estimate_fits t est h =
    let a = (and-eq-true_iff (eqb (length est) (variables t)) (all estimate_byte_allowed est)).0 h in
    (eqb-true (length est) (variables t) a.0, a.1)

-- Beginning a run
module _ (t est : List ℕ) (room : ℕ) (h : begin_refusal t est room ≡ 0) where
  pub begin_tests_lem : Passed (begin_tests t est room)
  unfolding begin_refusal
  begin_tests_lem = none_fails (begin_tests t est room) refl h

  -- what a record holds at the beginning
  pub begun_fits : length (initial_marks t 0) ≡ parts t → Fits t 0 est (replicate (clocks t) 0) (replicate (clocks t) 0) (initial_marks t 0)
  begun_fits e =
      let x = table_held t begin_tests_lem.0 in
      record {
        shape = omega (arith, (estimate_fits t est begin_tests_lem.1.0).0, length-replicate {A = ℕ} (clocks t) 0, x.1.parts_are, x.1.within.variables_fit, x.1.within.clocks_fit, x.1.within.size_fits);
        time_fits = omega arith;
        starts_fit = λ c l. rw get_or-replicate (omega arith);
      }

-- the record that a beginning writes
pub begun_bytes : (t est r : List ℕ) → begin_refusal t est (length r) ≡ 0 → length (initial_marks t 0) ≡ parts t
    → begun_into t est r ≡ record_bytes waiting 0 est (replicate (clocks t) 0) (replicate (clocks t) 0) (initial_marks t 0) ++ drop record_length r
unfolding begun_into fresh_record
begun_bytes t est r h e =
    let f : Fits t 0 est (replicate (clocks t) 0) (replicate (clocks t) 0) (initial_marks t 0) = begun_fits t est (length r) h e in
    let n : length (fresh_record t est) ≡ record_length = length_record f.shape waiting 0 in
    let room : record_length ≤ length r = leb-true record_length (length r) (begin_tests_lem t est (length r) h).1.1.0 in
    rw h (rw n at (sets_start r (fresh_record t est) (rw n room)))
