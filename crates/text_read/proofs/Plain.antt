-- The returns of the readers of marks, numbers, conditions and leaves.
use Prim.Native.Nat.{ℕ, zero, suc, ◌+◌, ◌-◌, ◌*◌, ◌/◌, ◌%◌, ◌≤◌, ◌<◌}
use mathlib.Core.Path.{◌≡◌, refl, ap, sym, ◌∙◌}
use mathlib.Core.Bool.{Bool, true, false}
use mathlib.Core.List.{List, [], ◌∷◌}
use lib.ListN.{length}
use lib.Seq.{sets}
use native.Mathlib.Omega.{arith}
use Rattle.std.specs.Prelude.{Result, Ok, Err, Some, IsErrAnd}
use Rattle.std.specs.Bool.{Decides}
use Rattle.meaning.specs.Sizes.{byte_values}
use Rattle.meaning.specs.declared.kinds.Kind.{Kind}
use Rattle.meaning.specs.declared.kinds.Kind.TheVariants.{Goal as GOAL, Start as START}
use Rattle.meaning.specs.declared.kinds.Test.{Test}
use Rattle.meaning.specs.declared.kinds.Test.TheVariants.{Untested as UNTESTED, Equals as EQUALS, Differs as DIFFERS, AtLeast as AT-LEAST, Below as BELOW}
use Rattle.meaning.specs.Kinds.{number_of, test_number}
use Rattle.text_grammar.specs.declared.tokens.Mark.{Mark}
use Rattle.text_grammar.specs.declared.tokens.Mark.TheVariants.{EqualSign as equal_sign, DiffersSign as differs_sign, AtLeastSign as at_least_sign, BelowSign as below_sign, Opening as opening}
use Rattle.text_grammar.specs.declared.tokens.Token.{Token}
use Rattle.text_grammar.specs.declared.tokens.Token.TheVariants.{Mark as mark, Number as number, Variable as variable, Clock as clock, Unknown as unknown}
use Rattle.text_grammar.specs.Syntax.{Condition, variable_equals, variable_differs, clock_at_least, clock_below}
use Rattle.text_grammar.specs.Trees.{operand_of, condition_operand}
use Rattle.text_grammar.specs.Lexer.{tokens_from}
use Rattle.text_grammar.specs.Parser.{got, stopped, bind, on_mark, expect, parse_number, parse_clock, parse_value, parse_condition}
use Rattle.text_grammar.proofs.Parsing.{bind-same, mark_same}
use Rattle.text_stops.specs.Places.{cut_at}
use Rattle.text_tokens.specs.First.{first_token, later_tokens, Passed}
use Rattle.text_parts.specs.Stored.{part_length, clamped}
use Rattle.text_read.specs.declared.Reached.{Reached}
use Rattle.text_read.specs.declared.Stop.{Stop}
use Rattle.text_read.specs.Entries.{alone, value_entries, test_entries, condition_entries, goal_entries, start_entries, pass_mark}
use Rattle.text_read.specs.Reading.{Read, Ends, Stops, next_token, number_or_stop, Does, Passes, place_of, parts_of, Room, Moves, openings, Bracketed}
use Rattle.text_read.proofs.Entries.{bind-bind, bind_mark}
use Rattle.text_read.proofs.First.{first_is, first_number, first_variable, first_clock, mark_first, mark_elsewhere, no_number_lem, no_clock, no_condition, mark_there, token_there}
use Rattle.text_read.proofs.Doing.{stands_alone, ends_made, stops_made, err_again}

-- a mark that does not stand there
pub missing : {P : Type 0} (r : Bool) → Decides r P → r ≡ false → P → ⊥
missing r d e p = let z = d.1 p in cc

-- `number_from`
module _ (e : ℕ) (ts : List Token) (k : Token) (k-is : k ≡ next_token ts) where
  pub number_got : (n : ℕ) → k ≡ number n → Ok n ≡ number_or_stop e (parse_number ts)
  unfolding number_or_stop parse_number
  number_got n h = ap (λ (us : List Token). number_or_stop e (parse_number us)) (sym (first_number ts k k-is n h))

  pub number_stop : ((n : ℕ) → k ≡ number n → ⊥) → Stops e ≡ number_or_stop e (parse_number ts)
  unfolding number_or_stop
  number_stop g = ap (number_or_stop e) (sym (no_number_lem ts k k-is g))

stop_place_is : (e : ℕ) (s : Stop) → Stops {A = ℕ} e ≡ Err s → e ≡ s.place
stop_place_is e s h = ap (λ (r : Result ℕ Stop). place r) h
  where
    place : Result ℕ Stop → ℕ
    place (Ok n) = 0
    place (Err x) = x.place

-- what its answer says
pub number_gives : (e : ℕ) (ts : List Token) (r : Result ℕ Stop) (n : ℕ) → r ≡ number_or_stop e (parse_number ts) → r ≡ Ok n → ts ≡ number n ∷ later_tokens ts
unfolding number_or_stop parse_number later_tokens
number_gives e [] r n h i = cc
number_gives e (mark m ∷ ts) r n h i = cc
number_gives e (number x ∷ ts) r n h i = cc
number_gives e (variable x ∷ ts) r n h i = cc
number_gives e (clock x ∷ ts) r n h i = cc
number_gives e (unknown ∷ ts) r n h i = cc

pub number_stops : (e : ℕ) (ts : List Token) (r : Result ℕ Stop) (s : Stop) → r ≡ number_or_stop e (parse_number ts) → r ≡ Err s → (s.place ≡ e) × (parse_number ts ≡ stopped ts)
unfolding number_or_stop parse_number
number_stops e [] r s h i = let z : Stops {A = ℕ} e ≡ Err s = sym h ∙ i in (sym (stop_place_is e s z), refl)
number_stops e (mark m ∷ ts) r s h i = let z : Stops {A = ℕ} e ≡ Err s = sym h ∙ i in (sym (stop_place_is e s z), refl)
number_stops e (number x ∷ ts) r s h i = cc
number_stops e (variable x ∷ ts) r s h i = let z : Stops {A = ℕ} e ≡ Err s = sym h ∙ i in (sym (stop_place_is e s z), refl)
number_stops e (clock x ∷ ts) r s h i = let z : Stops {A = ℕ} e ≡ Err s = sym h ∙ i in (sym (stop_place_is e s z), refl)
number_stops e (unknown ∷ ts) r s h i = let z : Stops {A = ℕ} e ≡ Err s = sym h ∙ i in (sym (stop_place_is e s z), refl)

small_test : (test : Test) → test_number test < byte_values
unfolding test_number
small_test UNTESTED = omega arith
small_test EQUALS = omega arith
small_test DIFFERS = omega arith
small_test AT-LEAST = omega arith
small_test BELOW = omega arith

module _ (t : List ℕ) where
  pub moves_nowhere : (e n : ℕ) → Room t e n → Moves t e n e 0
  moves_nowhere e n r = record { onward = omega arith; inside = r.inside; uncut = r.uncut; parts_fit = omega arith }

  pub passed_room : (from n next : ℕ) → Room t from n → Passed t from next → Room t next n
  passed_room from n next r p = record { short_enough = r.short_enough; inside = p.within; uncut = p.uncut; parts_fit = omega (arith, p.onward, r.parts_fit) }

  -- `expect`
  module _ (at : Reached) (m : Mark) (r : Bool) (d : Decides r (first_token (tokens_from t at.place) ≡ Some (mark m))) where
    pub expect_missing : r ≡ false → Passes t at m (Stops at.place)
    unfolding pass_mark
    expect_missing e = record {
      passes = λ n b. record {
        continues = λ b₀ es s. stops_made t b₀ n b _ at.place (mark_elsewhere m (tokens_from t at.place) _ _ (missing r d e));
      };
    }

    pub expect_passed : (next : ℕ) → r ≡ true → Passed t at.place next → Passes t at m (Ends next at.parts)
    unfolding pass_mark
    expect_passed next e p = record {
      passes = λ n b. record {
        continues = λ b₀ es s. ends_made t b₀ n b _ next at.parts es (mark_first m (tokens_from t at.place) _ _ (d.0 e) ∙ ap (got es) (sym p.later)) s;
      };
    }

  -- `valued`
  module _ (b : List ℕ) (from n : ℕ) (kind : Kind) (test : Test) (subject : ℕ) (value : Result ℕ Stop) (v : value ≡ number_or_stop from (parse_number (tokens_from t from))) where
    module _ (s : Stop) (h : value ≡ Err s) (r : Read) (e : IsErrAnd r (λ x. x ≡ s)) where
      pub value_missing : Does t b n r b (value_entries (number_of kind) (test_number test) subject (tokens_from t from))
      unfolding value_entries bind
      value_missing =
          let q = number_stops from (tokens_from t from) value s v h in
          rw (err_again r s e) (stops_made t b n b _ s.place (rw (q.0, q.1)))

      pub value_stops : Room t from n → Moves t from n (place_of r) (parts_of r)
      value_stops w =
          let q = number_stops from (tokens_from t from) value s v h in
          rw (err_again r s e, q.0) (moves_nowhere from n w)

    module _ (x : ℕ) (h : value ≡ Ok x) (next : ℕ) (p : Passed t from next) where
      pub value_read : (b0 c : ℕ) (b' : List ℕ) → b0 ≡ test_number test → c ≡ clamped subject
          → b' ≡ sets b (part_length * n) (number_of kind ∷ b0 ∷ c ∷ (x % byte_values) ∷ (x / byte_values) ∷ [])
          → Does t b n (Ends next (n + 1)) b' (value_entries (number_of kind) (test_number test) subject (tokens_from t from))
      unfolding value_entries bind parse_number
      value_read b0 c b' z i stored =
          ends_made t b n b' _ next (n + 1) (alone (number_of kind) (operand_of (test_number test) subject x))
          (rw (number_gives from (tokens_from t from) value x v h, ← p.later))
          (stands_alone b n b' (number_of kind) (test_number test) subject x (small_test test) (rw (← z, ← i) stored))

      pub value_moves : Room t from n → Moves t from n next (n + 1)
      value_moves w =
          let further : from < next = p.further (λ z. let k : number x ∷ later_tokens (tokens_from t from) ≡ [] = sym (number_gives from (tokens_from t from) value x v h) ∙ z in cc) in
          record { onward = p.onward; inside = p.within; uncut = p.uncut; parts_fit = omega (arith, w.parts_fit) }

  -- `tested`: one of two signs stands at place `from`
  module _ (b : List ℕ) (from n kind subject test other : ℕ) (m l : Mark) (i : Bool) (d : Decides i (first_token (tokens_from t from) ≡ Some (mark m))) where
    pub test_first : (next : ℕ) (r : Read) (b' : List ℕ) → i ≡ true → Passed t from next → Does t b n r b' (value_entries kind test subject (tokens_from t next))
        → Does t b n r b' (test_entries kind subject m test l other (tokens_from t from))
    unfolding test_entries
    test_first next r b' h p does =
        rw (mark_first m (tokens_from t from) (value_entries kind test subject) (expect l (tokens_from t from) (value_entries kind other subject)) (d.0 h), ← p.later) does

    module _ (j : Bool) (g : Decides j (first_token (tokens_from t from) ≡ Some (mark l))) (h : i ≡ false) where
      pub test_second : (next : ℕ) (r : Read) (b' : List ℕ) → j ≡ true → Passed t from next → Does t b n r b' (value_entries kind other subject (tokens_from t next))
          → Does t b n r b' (test_entries kind subject m test l other (tokens_from t from))
      unfolding test_entries
      test_second next r b' e p does =
          rw (mark_elsewhere m (tokens_from t from) (value_entries kind test subject) (expect l (tokens_from t from) (value_entries kind other subject)) (missing i d h), mark_first l (tokens_from t from) (value_entries kind other subject) (stopped (tokens_from t from)) (g.0 e), ← p.later) does

      pub test_missing : j ≡ false → Does t b n (Stops from) b (test_entries kind subject m test l other (tokens_from t from))
      unfolding test_entries
      test_missing e =
          stops_made t b n b _ from (mark_elsewhere m (tokens_from t from) _ _ (missing i d h) ∙ mark_elsewhere l (tokens_from t from) _ _ (missing j g e))

-- a condition, by its variable or clock
value_condition : (kind : ℕ) (c : ℕ → ℕ → Condition) (test subject : ℕ) → ((n : ℕ) → condition_operand (c subject n) ≡ operand_of test subject n) → (ts : List Token)
    → bind (parse_value (c subject) ts) (λ o rest. got (alone kind (condition_operand o)) rest) ≡ value_entries kind test subject ts
unfolding parse_value value_entries bind
value_condition kind c test subject h ts = bind-bind (parse_number ts) _ _ ∙ bind-same (parse_number ts) _ _ (λ n rest e. rw (h n))

test_condition : (kind subject : ℕ) (m l : Mark) (c d : ℕ → ℕ → Condition) (test other : ℕ)
    → ((n : ℕ) → condition_operand (c subject n) ≡ operand_of test subject n) → ((n : ℕ) → condition_operand (d subject n) ≡ operand_of other subject n) → (ts : List Token)
    → bind (on_mark m ts (parse_value (c subject)) (expect l ts (parse_value (d subject)))) (λ o rest. got (alone kind (condition_operand o)) rest) ≡ test_entries kind subject m test l other ts
unfolding test_entries bind
test_condition kind subject m l c d test other h g ts =
    bind_mark m _ ts _ _
    ∙ mark_same m ts _ _ _ (λ rest e. value_condition kind c test subject h rest)
    ∙ ap (on_mark m ts (value_entries kind test subject)) (bind_mark l _ ts _ _ ∙ mark_same l ts _ _ _ (λ rest e. value_condition kind d other subject g rest))

module _ (t b : List ℕ) (from n kind : ℕ) (k : Token) (k-is : k ≡ next_token (tokens_from t from)) where
  module _ (subject next : ℕ) (p : Passed t from next) (r : Read) (b' : List ℕ) where
    pub condition_variable : k ≡ variable subject → Does t b n r b' (test_entries kind subject equal_sign (test_number EQUALS) differs_sign (test_number DIFFERS) (tokens_from t next))
        → Does t b n r b' (condition_entries kind (tokens_from t from))
    unfolding condition_entries parse_condition condition_operand
    condition_variable h d =
        rw (first_variable (tokens_from t from) k k-is subject h, test_condition kind subject equal_sign differs_sign variable_equals variable_differs (test_number EQUALS) (test_number DIFFERS) (λ n. refl) (λ n. refl) (later_tokens (tokens_from t from)), ← p.later) d

    pub condition_clock : k ≡ clock subject → Does t b n r b' (test_entries kind subject at_least_sign (test_number AT-LEAST) below_sign (test_number BELOW) (tokens_from t next))
        → Does t b n r b' (condition_entries kind (tokens_from t from))
    unfolding condition_entries parse_condition condition_operand
    condition_clock h d =
        rw (first_clock (tokens_from t from) k k-is subject h, test_condition kind subject at_least_sign below_sign clock_at_least clock_below (test_number AT-LEAST) (test_number BELOW) (λ n. refl) (λ n. refl) (later_tokens (tokens_from t from)), ← p.later) d

  pub condition_missing : ((x : ℕ) → k ≡ variable x → ⊥) → ((x : ℕ) → k ≡ clock x → ⊥) → Does t b n (Stops from) b (condition_entries kind (tokens_from t from))
  unfolding condition_entries bind
  condition_missing f g = stops_made t b n b _ from (rw (no_condition (tokens_from t from) k k-is f g))

  -- `start`
  pub start_missing : ((x : ℕ) → k ≡ clock x → ⊥) → Does t b n (Stops from) b (start_entries (tokens_from t from))
  unfolding start_entries bind
  start_missing g = stops_made t b n b _ from (rw (no_clock (tokens_from t from) k k-is g))

  module _ (subject next : ℕ) (h : k ≡ clock subject) (p : Passed t from next) where
    pub start_read : (x c : ℕ) (b' : List ℕ) → x ≡ number_of START → c ≡ clamped subject → b' ≡ sets b (part_length * n) (x ∷ 0 ∷ c ∷ 0 ∷ 0 ∷ []) → Does t b n (Ends next (n + 1)) b' (start_entries (tokens_from t from))
    unfolding start_entries bind parse_clock
    start_read x c b' x-is i stored =
        ends_made t b n b' _ next (n + 1) (alone (number_of START) (operand_of 0 subject 0))
        (rw (first_clock (tokens_from t from) k k-is subject h, ← p.later))
        (stands_alone b n b' (number_of START) 0 subject 0 (omega arith) (rw (← i) (rw x-is at stored)))

    pub start_moves : Room t from n → Moves t from n next (n + 1)
    start_moves w =
        let further : from < next = p.further (token_there k (tokens_from t from) k-is (λ z. cc)) in
        record { onward = p.onward; inside = p.within; uncut = p.uncut; parts_fit = omega (arith, w.parts_fit) }

-- `goal`: its sign stands at place `from`
module _ (t b : List ℕ) (from n v : ℕ) (i : Bool) (d : Decides i (first_token (tokens_from t from) ≡ Some (mark equal_sign))) where
  pub goal_missing : i ≡ false → Does t b n (Stops from) b (goal_entries v (tokens_from t from))
  unfolding goal_entries
  goal_missing h = stops_made t b n b _ from (mark_elsewhere equal_sign (tokens_from t from) _ _ (missing i d h))

  pub goal_read : (next : ℕ) (r : Read) (b' : List ℕ) → i ≡ true → Passed t from next → Does t b n r b' (value_entries (number_of GOAL) (test_number UNTESTED) v (tokens_from t next))
      → Does t b n r b' (goal_entries v (tokens_from t from))
  unfolding goal_entries test_number
  goal_read next r b' h p does =
      rw (mark_first equal_sign (tokens_from t from) (value_entries (number_of GOAL) 0 v) (stopped (tokens_from t from)) (d.0 h), ← p.later) does

-- `brackets`: one more bracket
openings_more : (k : ℕ) (ts : List Token) → openings k (mark opening ∷ ts) ≡ openings (suc k) ts
unfolding openings
openings_more zero ts = refl
openings_more (suc k) ts = ap (λ (us : List Token). mark opening ∷ us) (openings_more k ts)

module _ (t : List ℕ) (from : ℕ) where
  pub bracket_none : from ≤ length t → cut_at t from ≡ 0 → Bracketed t from 0 from
  unfolding openings
  bracket_none h w = record { tokens_are = refl; onward = omega arith; inside = h; uncut = w }

  module _ (place next : ℕ) (i : Bool) (d : Decides i (first_token (tokens_from t place) ≡ Some (mark opening))) (h : i ≡ true) (p : Passed t place next) where
    pub bracket_passed : place < next
    bracket_passed = p.further (mark_there opening (tokens_from t place) (d.0 h))

    pub bracket_less : length t - next < length t - place
    bracket_less = let further = bracket_passed in omega (arith, p.within)

    pub bracket_more : (count : ℕ) → Bracketed t from count place → Bracketed t from (count + 1) next
    bracket_more count w = record {
      tokens_are =
          let n : count + 1 ≡ suc count = omega arith in
          rw n (w.tokens_are ∙ ap (openings count) (first_is (tokens_from t place) (mark opening) (d.0 h)) ∙ openings_more count (later_tokens (tokens_from t place)) ∙ ap (openings (suc count)) (sym p.later));
      onward = let further = bracket_passed in omega (arith, w.onward);
      inside = p.within;
      uncut = p.uncut;
    }
