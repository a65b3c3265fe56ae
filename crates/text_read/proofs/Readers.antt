-- The returns of the readers that call one another.
use Prim.Native.Nat.{ℕ, zero, suc, ◌+◌, ◌-◌, ◌*◌, ◌≤◌, ◌<◌}
use mathlib.Core.Path.{◌≡◌, refl, ap, sym, ◌∙◌}
use mathlib.Core.Bool.{Bool, true, false}
use mathlib.Core.List.{List, [], ◌∷◌, ◌++◌, append_assoc, append-nil}
use lib.ListN.{length, length-append}
use lib.Seq.{sets}
use native.Mathlib.Omega.{arith}
use native.Mathlib.Decide.{dec_le}
use Rattle.std.specs.Prelude.{Ok, Err, Some, IsErrAnd}
use Rattle.std.specs.Bool.{Decides}
use Rattle.base.specs.Lists.{concat}
use Rattle.meaning.specs.declared.Entry.{Entry}
use Rattle.meaning.specs.declared.kinds.Kind.TheVariants.{Wait as WAIT, Maintain as MAINTAIN, Choice as CHOICE, Repeat as REPEAT}
use Rattle.meaning.specs.Kinds.{number_of}
use Rattle.meaning.specs.Tree.{count_operand}
use Rattle.text_grammar.specs.declared.tokens.Mark.{Mark}
use Rattle.text_grammar.specs.declared.tokens.Mark.TheVariants.{StartWord as start_word, WaitWord as wait_word, MaintainWord as maintain_word, RepeatWord as repeat_word, IfWord as if_word, ThenWord as then_word, ElseWord as else_word, EqualSign as equal_sign, DiffersSign as differs_sign, AtLeastSign as at_least_sign, BelowSign as below_sign, Semicolon as semicolon, Comma as comma, Opening as opening, Closing as closing, Colon as colon}
use Rattle.text_grammar.specs.declared.tokens.Token.{Token}
use Rattle.text_grammar.specs.declared.tokens.Token.TheVariants.{Mark as mark, Number as number, Variable as variable, Clock as clock, Unknown as unknown}
use Rattle.text_grammar.specs.Lexer.{tokens_from}
use Rattle.text_grammar.specs.Parser.{Parsed, got, stopped, bind}
use Rattle.text_grammar.proofs.Parsing.{begins_step, bind-same}
use Rattle.text_tokens.specs.First.{first_token, later_tokens, Passed}
use Rattle.text_parts.specs.declared.Level.{Level}
use Rattle.text_parts.specs.declared.Level.TheVariants.{Steps, Sequences}
use Rattle.text_parts.specs.Stored.{part_length, clamped, Stands, join_entries, Joined}
use Rattle.text_read.specs.declared.Reached.{Reached}
use Rattle.text_read.specs.declared.Stop.{Stop}
use Rattle.text_read.specs.Entries.{step_entries, sequence_entries, body_entries, alone, condition_entries, goal_entries, start_entries, choice_entries, pass_mark, then_step, joining_mark, item_entries, further_entries, rest_entries, tail_entries}
use Rattle.text_read.specs.Reading.{Read, Ends, Stops, next_token, Does, Continues, Passes, openings, Bracketed}
use Rattle.text_read.proofs.Entries.{bind-bind, goal_entries_lem, start_entries_lem, wait_entries, maintain_entries, repeat_entries, if_entries, group_entries, sequence_entries_lem, further_law, body_first, body_group}
use Rattle.text_read.proofs.First.{first_mark, first_variable, mark_first, mark_elsewhere, no_step, mark_there, token_there}
use Rattle.text_read.proofs.Doing.{stands_alone, stands_append, ends_seen, stops_seen, ends_made, stops_made, does_append, err_again, stays, goes_on}
use Rattle.text_read.proofs.Plain.{missing}

-- a step that is read on
further : (t : List ℕ) (n : ℕ) (at : Reached) (b : List ℕ) (r : Read) (b' : List ℕ) → Does t b at.parts r b' (step_entries (tokens_from t at.place)) → Continues then_step t n at b r b'
unfolding then_step
further t n at b r b' d = record { continues = λ b₀ es s. does_append t b₀ n b at.parts es r b' _ s d }

-- `step`, by its first token
module _ (t b : List ℕ) (from n next : ℕ) (k : Token) (k-is : k ≡ next_token (tokens_from t from)) (p : Passed t from next) where
  abbrev ts : List Token
  ts = tokens_from t from

  -- there is one
  pub variable_there : (v : ℕ) → k ≡ variable v → from < next
  variable_there v h = p.further (token_there k ts k-is (λ z. cc))

  pub mark_begun : (m : Mark) → k ≡ mark m → from < next
  mark_begun m h = p.further (token_there k ts k-is (λ z. cc))

  module _ (r : Read) (b' : List ℕ) where
    pub step_goal : (v : ℕ) → k ≡ variable v → Does t b n r b' (goal_entries v (tokens_from t next)) → Does t b n r b' (step_entries ts)
    step_goal v g d = rw (first_variable ts k k-is v g, goal_entries_lem (later_tokens ts) v, ← p.later) d

    module _ (j : Mark) (j-is : k ≡ mark j) where
      step_as : (m : Mark) (f : List Token → Parsed (List Entry)) → ((us : List Token) → step_entries (mark m ∷ us) ≡ f us) → j ≡ m → step_entries ts ≡ f (tokens_from t next)
      step_as m f law g = ap step_entries (first_mark ts k k-is m (j-is ∙ ap (λ (i : Mark). mark i) g)) ∙ law (later_tokens ts) ∙ ap f (sym p.later)

      pub step_start : j ≡ start_word → Does t b n r b' (start_entries (tokens_from t next)) → Does t b n r b' (step_entries ts)
      step_start g d = rw (step_as start_word start_entries start_entries_lem g) d

      pub step_wait : j ≡ wait_word → Does t b n r b' (condition_entries (number_of WAIT) (tokens_from t next)) → Does t b n r b' (step_entries ts)
      step_wait g d = rw (step_as wait_word (condition_entries (number_of WAIT)) wait_entries g) d

      module _ (g : j ≡ maintain_word) (b₁ : List ℕ) where
        maintained : step_entries ts ≡ bind (condition_entries (number_of MAINTAIN) (tokens_from t next)) then_step
        maintained = step_as maintain_word (λ us. bind (condition_entries (number_of MAINTAIN) us) then_step) maintain_entries g

        pub step_maintain : (at : Reached) → Does t b n (Ok at) b₁ (condition_entries (number_of MAINTAIN) (tokens_from t next)) → Does t b₁ at.parts r b' (step_entries (tokens_from t at.place)) → Does t b n r b' (step_entries ts)
        step_maintain at d e = rw maintained (goes_on t b n b₁ _ then_step r b' at d (further t n at b₁ r b' e))

        pub maintain_stops : (s : Stop) → Does t b n (Err s) b₁ (condition_entries (number_of MAINTAIN) (tokens_from t next)) → IsErrAnd r (λ e. e ≡ s) → Does t b n r b' (step_entries ts)
        maintain_stops s d e = rw maintained (stays t b n b₁ _ then_step r b' s d e)

      pub step_repeat : (b₁ : List ℕ) (x : ℕ) → j ≡ repeat_word → x ≡ number_of REPEAT → b₁ ≡ sets b (part_length * n) (x ∷ 0 ∷ 0 ∷ 0 ∷ 0 ∷ []) → Does t b₁ (n + 1) r b' (step_entries (tokens_from t next)) → Does t b n r b' (step_entries ts)
      unfolding then_step clamped
      step_repeat b₁ x g x-is h d =
          rw (step_as repeat_word (then_step (alone (number_of REPEAT) (count_operand 0))) repeat_entries g)
          (does_append t b n b₁ (n + 1) (alone (number_of REPEAT) (count_operand 0)) r b' (step_entries (tokens_from t next)) (stands_alone b n b₁ (number_of REPEAT) 0 0 0 (omega arith) (rw x-is at h)) d)

      pub step_if : j ≡ if_word → Does t b n r b' (choice_entries (tokens_from t next)) → Does t b n r b' (step_entries ts)
      step_if g d = rw (step_as if_word choice_entries if_entries g) d

      module _ (g : j ≡ opening) where
        grouped : step_entries ts ≡ bind (body_entries (tokens_from t next)) (pass_mark closing)
        grouped = step_as opening (λ us. bind (body_entries us) (pass_mark closing)) group_entries g

        pub step_group : (at : Reached) → Does t b n (Ok at) b' (body_entries (tokens_from t next)) → Passes t at closing r → Does t b n r b' (step_entries ts)
        step_group at d q = rw grouped (goes_on t b n b' _ (pass_mark closing) r b' at d (q.passes n b'))

        pub group_stops : (s : Stop) → Does t b n (Err s) b' (body_entries (tokens_from t next)) → IsErrAnd r (λ e. e ≡ s) → Does t b n r b' (step_entries ts)
        group_stops s d e = rw grouped (stays t b n b' _ (pass_mark closing) r b' s d e)

  no_step_there : begins_step k ≡ false → Does t b n (Stops from) b (step_entries ts)
  unfolding step_entries bind
  no_step_there e = stops_made t b n b _ from (rw (no_step ts k k-is e))

  pub step_none : ((v : ℕ) → k ≡ variable v → ⊥) → ((m : Mark) → k ≡ mark m → ⊥) → Does t b n (Stops from) b (step_entries ts)
  unfolding begins_step
  step_none f g = no_step_there (go k f g)
    where
      go : (x : Token) → ((v : ℕ) → x ≡ variable v → ⊥) → ((m : Mark) → x ≡ mark m → ⊥) → begins_step x ≡ false
      go (mark m) f g = absurd (g m refl)
      go (number n) f g = refl
      go (variable n) f g = absurd (f n refl)
      go (clock n) f g = refl
      go unknown f g = refl

  pub mark_none : (j : Mark) → k ≡ mark j → (j ≡ start_word → ⊥) → (j ≡ wait_word → ⊥) → (j ≡ maintain_word → ⊥) → (j ≡ repeat_word → ⊥) → (j ≡ if_word → ⊥) → (j ≡ opening → ⊥)
      → Does t b n (Stops from) b (step_entries ts)
  unfolding begins_step
  mark_none j h f₁ f₂ f₃ f₄ f₅ f₆ = no_step_there (ap begins_step h ∙ go j f₁ f₂ f₃ f₄ f₅ f₆)
    where
      go : (m : Mark) → (m ≡ start_word → ⊥) → (m ≡ wait_word → ⊥) → (m ≡ maintain_word → ⊥) → (m ≡ repeat_word → ⊥) → (m ≡ if_word → ⊥) → (m ≡ opening → ⊥) → begins_step (mark m) ≡ false
      go start_word g₁ g₂ g₃ g₄ g₅ g₆ = absurd (g₁ refl)
      go wait_word g₁ g₂ g₃ g₄ g₅ g₆ = absurd (g₂ refl)
      go maintain_word g₁ g₂ g₃ g₄ g₅ g₆ = absurd (g₃ refl)
      go repeat_word g₁ g₂ g₃ g₄ g₅ g₆ = absurd (g₄ refl)
      go if_word g₁ g₂ g₃ g₄ g₅ g₆ = absurd (g₅ refl)
      go then_word g₁ g₂ g₃ g₄ g₅ g₆ = refl
      go else_word g₁ g₂ g₃ g₄ g₅ g₆ = refl
      go equal_sign g₁ g₂ g₃ g₄ g₅ g₆ = refl
      go differs_sign g₁ g₂ g₃ g₄ g₅ g₆ = refl
      go at_least_sign g₁ g₂ g₃ g₄ g₅ g₆ = refl
      go below_sign g₁ g₂ g₃ g₄ g₅ g₆ = refl
      go semicolon g₁ g₂ g₃ g₄ g₅ g₆ = refl
      go comma g₁ g₂ g₃ g₄ g₅ g₆ = refl
      go opening g₁ g₂ g₃ g₄ g₅ g₆ = absurd (g₆ refl)
      go closing g₁ g₂ g₃ g₄ g₅ g₆ = refl
      go colon g₁ g₂ g₃ g₄ g₅ g₆ = refl

-- a mark that stands there has bytes
pub begun : (t : List ℕ) (e a : ℕ) (m : Mark) (stands : Bool) → Decides stands (first_token (tokens_from t e) ≡ Some (mark m)) → stands ≡ true → Passed t e a → e < a
begun t e a m stands i h p = p.further (mark_there m (tokens_from t e) (i.0 h))

-- `items`: in each turn what is read so far are the entries of the first and, each for itself, of those that are joined to it
pub record SoFar (t : List ℕ) (l : Level) (n e₀ : ℕ) (b₀ : List ℕ) (es : List Entry) (e : ℕ) (b : List ℕ) (k count : ℕ) : Type 0 where
  pub ess : List (List Entry)
  pub stands : Stands b₀ n b k (es ++ concat ess)
  pub counted : count ≡ suc (length ess)
  pub left : rest_entries l es (tokens_from t e₀) ≡ bind (further_entries l (tokens_from t e)) (λ fss rest. got (join_entries l es (ess ++ fss)) rest)

pub record Joining (t : List ℕ) (l : Level) (n e₀ : ℕ) (b₁ : List ℕ) (m₀ e : ℕ) (b : List ℕ) (k count : ℕ) : Type 0 where
  pub so_far : (b₀ : List ℕ) (es : List Entry) → Stands b₀ n b₁ m₀ es → SoFar t l n e₀ b₀ es e b k count

concat-append : (xss yss : List (List Entry)) → concat (xss ++ yss) ≡ concat xss ++ concat yss
concat-append [] yss = refl
concat-append (xs ∷ xss) yss = rw (concat-append xss yss, append_assoc xs (concat xss) (concat yss))

module _ (t : List ℕ) (l : Level) (n e₀ : ℕ) (b₁ : List ℕ) (m₀ : ℕ) where
  pub joining_starts : Joining t l n e₀ b₁ m₀ e₀ b₁ m₀ 1
  unfolding rest_entries
  joining_starts = record {
    so_far = λ b₀ es s. record { ess = []; stands = rw (append-nil es) s; counted = refl; left = refl };
  }

  module _ (e : ℕ) (b : List ℕ) (k count : ℕ) (j : Joining t l n e₀ b₁ m₀ e b k count) (joining : Mark) (g : joining ≡ joining_mark l)
      (stands : Bool) (i : Decides stands (first_token (tokens_from t e) ≡ Some (mark joining))) where
    -- the mark stands next, and what follows it is read
    module _ (a : ℕ) (b' : List ℕ) (h : stands ≡ true) (p : Passed t e a) where
      further_is : further_entries l (tokens_from t e) ≡ bind (item_entries l (tokens_from t a)) (λ fs after. bind (further_entries l after) (λ fss end. got (fs ∷ fss) end))
      further_is = further_law l (tokens_from t e) ∙ mark_first (joining_mark l) (tokens_from t e) _ _ (i.0 h ∙ ap (λ (m : Mark). Some (mark m)) g) ∙ rw p.later

      pub joining_more : (at : Reached) → Does t b k (Ok at) b' (item_entries l (tokens_from t a)) → Joining t l n e₀ b₁ m₀ at.place b' at.parts (count + 1)
      unfolding bind
      joining_more at d = record {
        so_far = λ b₀ es s.
            let q = j.so_far b₀ es s in
            let u = ends_seen t b k (Ok at) b' (item_entries l (tokens_from t a)) at.place at.parts d refl in
            record {
              ess = q.ess ++ (u.es ∷ []);
              stands =
                  rw (concat-append q.ess (u.es ∷ []), append-nil u.es, ← append_assoc es (concat q.ess) u.es)
                  (stands_append b₀ n b k (es ++ concat q.ess) b' at.parts u.es q.stands u.stands);
              counted = omega (arith, q.counted, length-append q.ess (u.es ∷ []));
              left =
                  q.left
                  ∙ ap (λ (x : Parsed (List (List Entry))). bind x (λ fss rest. got (join_entries l es (q.ess ++ fss)) rest))
                  (further_is ∙ ap (λ (x : Parsed (List Entry)). bind x (λ fs after. bind (further_entries l after) (λ fss end. got (fs ∷ fss) end))) u.reading_is)
                  ∙ bind-bind (further_entries l (tokens_from t at.place)) _ _
                  ∙ bind-same (further_entries l (tokens_from t at.place)) _ _ (λ fss rest w. rw (append_assoc q.ess (u.es ∷ []) fss));
            };
      }

      pub joining_stops : (first : Reached) (s : Stop) (r : Read) → first.place ≡ e₀ → first.parts ≡ m₀ → Does t b k (Err s) b' (item_entries l (tokens_from t a)) → IsErrAnd r (λ x. x ≡ s)
          → Continues (rest_entries l) t n first b₁ r b'
      unfolding bind
      joining_stops first s r f₁ f₂ d x = record {
        continues = λ b₀ es st.
            rw (err_again r s x, f₁) (stops_made t b₀ n b' _ s.place ((j.so_far b₀ es (rw f₂ at st)).left ∙ rw (further_is, stops_seen t b k (Err s) b' (item_entries l (tokens_from t a)) s.place d refl)));
      }

    -- it does not, and the parts are joined
    pub joining_ends : (first : Reached) (r : ℕ) (b' : List ℕ) → first.place ≡ e₀ → first.parts ≡ m₀ → stands ≡ false → Joined l n b k count r b' → Continues (rest_entries l) t n first b₁ (Ends e r) b'
    unfolding bind
    joining_ends first r b' f₁ f₂ h c = record {
      continues = λ b₀ es st.
          let q = j.so_far b₀ es (rw f₂ at st) in
          rw f₁ (ends_made t b₀ n b' _ e r (join_entries l es q.ess)
          (q.left ∙ rw (further_law l (tokens_from t e), mark_elsewhere (joining_mark l) (tokens_from t e) (λ rest. bind (item_entries l rest) (λ fs after. bind (further_entries l after) (λ fss end. got (fs ∷ fss) end))) (got [] (tokens_from t e)) (rw g at (missing stands i h)), append-nil q.ess))
          (c.joined b₀ es q.ess q.stands q.counted));
    }

-- `sequence`, `tail` and `choice`: readings one after the other
module _ (t : List ℕ) (n : ℕ) (b : List ℕ) (r : Read) (b' : List ℕ) where
  module _ (from : ℕ) (b₁ : List ℕ) where
    pub sequence_read : (at : Reached) → Does t b n (Ok at) b₁ (step_entries (tokens_from t from)) → Continues (rest_entries Steps) t n at b₁ r b' → Does t b n r b' (sequence_entries (tokens_from t from))
    sequence_read at d c = rw (sequence_entries_lem (tokens_from t from)) (goes_on t b n b₁ _ (rest_entries Steps) r b' at d c)

    pub sequence_stops : (s : Stop) → Does t b n (Err s) b₁ (step_entries (tokens_from t from)) → IsErrAnd r (λ e. e ≡ s) → Does t b n r b' (sequence_entries (tokens_from t from))
    sequence_stops s d e = rw (sequence_entries_lem (tokens_from t from)) (stays t b n b₁ _ (rest_entries Steps) r b' s d e)

  module _ (first : Reached) (b₁ : List ℕ) where
    pub tail_read : (at : Reached) → Continues (rest_entries Steps) t n first b (Ok at) b₁ → Continues (rest_entries Sequences) t n at b₁ r b' → Continues tail_entries t n first b r b'
    unfolding tail_entries
    tail_read at c d = record { continues = λ b₀ es s. goes_on t b₀ n b₁ _ (rest_entries Sequences) r b' at (c.continues b₀ es s) d }

    pub tail_stops : (s : Stop) → Continues (rest_entries Steps) t n first b (Err s) b₁ → IsErrAnd r (λ e. e ≡ s) → Continues tail_entries t n first b r b'
    unfolding tail_entries
    tail_stops s c e = record { continues = λ b₀ es st. stays t b₀ n b₁ _ (rest_entries Sequences) r b' s (c.continues b₀ es st) e }

  -- the condition, `then`, a step, `else` and a step
  module _ (from : ℕ) (b₁ : List ℕ) where
    abbrev tested : Parsed (List Entry)
    tested = condition_entries (number_of CHOICE) (tokens_from t from)

    pub choice_stops_1 : (s : Stop) → Does t b n (Err s) b₁ tested → IsErrAnd r (λ e. e ≡ s) → Does t b n r b' (choice_entries (tokens_from t from))
    unfolding choice_entries
    choice_stops_1 s d e =
        stays t b n b₁ _ then_step r b' s (stays t b n b₁ _ (pass_mark else_word) (Err s) b₁ s (stays t b n b₁ _ then_step (Err s) b₁ s (stays t b n b₁ _ (pass_mark then_word) (Err s) b₁ s d refl) refl) refl) e

    module _ (at : Reached) (d : Does t b n (Ok at) b₁ tested) where
      pub choice_stops_2 : (s : Stop) → Passes t at then_word (Err s) → IsErrAnd r (λ e. e ≡ s) → Does t b n r b' (choice_entries (tokens_from t from))
      unfolding choice_entries
      choice_stops_2 s p e =
          stays t b n b₁ _ then_step r b' s (stays t b n b₁ _ (pass_mark else_word) (Err s) b₁ s (stays t b n b₁ _ then_step (Err s) b₁ s (goes_on t b n b₁ _ (pass_mark then_word) (Err s) b₁ at d (p.passes n b₁)) refl) refl) e

      module _ (first : Reached) (p : Passes t at then_word (Ok first)) (b₂ : List ℕ) where
        chosen : (x : Read) → Does t b₁ first.parts x b₂ (step_entries (tokens_from t first.place)) → Does t b n x b₂ (bind (bind tested (pass_mark then_word)) then_step)
        chosen x q = goes_on t b n b₁ _ then_step x b₂ first (goes_on t b n b₁ _ (pass_mark then_word) (Ok first) b₁ at d (p.passes n b₁)) (further t n first b₁ x b₂ q)

        pub choice_stops_3 : (s : Stop) → Does t b₁ first.parts (Err s) b₂ (step_entries (tokens_from t first.place)) → IsErrAnd r (λ e. e ≡ s) → Does t b n r b' (choice_entries (tokens_from t from))
        unfolding choice_entries
        choice_stops_3 s q e = stays t b n b₂ _ then_step r b' s (stays t b n b₂ _ (pass_mark else_word) (Err s) b₂ s (chosen (Err s) q) refl) e

        module _ (taken : Reached) (q : Does t b₁ first.parts (Ok taken) b₂ (step_entries (tokens_from t first.place))) where
          pub choice_stops_4 : (s : Stop) → Passes t taken else_word (Err s) → IsErrAnd r (λ e. e ≡ s) → Does t b n r b' (choice_entries (tokens_from t from))
          unfolding choice_entries
          choice_stops_4 s f e = stays t b n b₂ _ then_step r b' s (goes_on t b n b₂ _ (pass_mark else_word) (Err s) b₂ taken (chosen (Ok taken) q) (f.passes n b₂)) e

          pub choice_read : (second : Reached) → Passes t taken else_word (Ok second) → Does t b₂ second.parts r b' (step_entries (tokens_from t second.place)) → Does t b n r b' (choice_entries (tokens_from t from))
          unfolding choice_entries
          choice_read second f e = goes_on t b n b₂ _ then_step r b' second (goes_on t b n b₂ _ (pass_mark else_word) (Ok second) b₂ taken (chosen (Ok taken) q) (f.passes n b₂)) (further t n second b₂ r b' e)

-- `body`: each bracket that closes makes the body the first step of the body around it
unfoldable pub enclosed : ℕ → Parsed (List Entry) → Parsed (List Entry)
enclosed zero o = o
enclosed (suc k) o = enclosed k (bind (bind o (pass_mark closing)) tail_entries)

enclosed_out : (k : ℕ) (o : Parsed (List Entry)) → enclosed (suc k) o ≡ bind (bind (enclosed k o) (pass_mark closing)) tail_entries
unfolding enclosed
enclosed_out zero o = refl
enclosed_out (suc k) o = enclosed_out k (bind (bind o (pass_mark closing)) tail_entries)

body_openings : (k : ℕ) (ts : List Token) → body_entries (openings k ts) ≡ enclosed k (body_entries ts)
unfolding openings enclosed
body_openings zero us = refl
body_openings (suc k) us =
    body_group (openings k us) ∙ ap (λ (o : Parsed (List Entry)). bind (bind o (pass_mark closing)) tail_entries) (body_openings k us) ∙ sym (enclosed_out k (body_entries us))

enclosed_stopped : (k : ℕ) (us : List Token) → enclosed k (stopped us) ≡ stopped us
unfolding enclosed bind
enclosed_stopped zero us = refl
enclosed_stopped (suc k) us = enclosed_stopped k us

-- a reading that stopped inside brackets
module _ (t b₀ : List ℕ) (n : ℕ) (b : List ℕ) (k : ℕ) (o : Parsed (List Entry)) (s : Stop) (d : Does t b₀ n (Err s) b o) (r : Read) (e : IsErrAnd r (λ x. x ≡ s)) (b' : List ℕ) where
  enclosed_stops : Does t b₀ n r b' (enclosed k o)
  enclosed_stops = rw (err_again r s e) (stops_made t b₀ n b' _ s.place (ap (enclosed k) (stops_seen t b₀ n (Err s) b o s.place d refl) ∙ enclosed_stopped k (tokens_from t s.place)))

-- `left` of the brackets are still to be closed, and then what was read up to `at` is `whole`
pub record Closing (t b₀ : List ℕ) (n : ℕ) (at : Reached) (b : List ℕ) (left : ℕ) (whole : Parsed (List Entry)) : Type 0 where
  pub inner : Parsed (List Entry)
  pub does : Does t b₀ n (Ok at) b inner
  pub whole_is : enclosed left inner ≡ whole

-- the same of each body that was read up to `first`, inside `count` brackets
pub record Enclosing (t : List ℕ) (n : ℕ) (first : Reached) (b₁ : List ℕ) (count : ℕ) (at : Reached) (b : List ℕ) (left : ℕ) : Type 0 where
  pub closing_on : (b₀ : List ℕ) (o : Parsed (List Entry)) → Does t b₀ n (Ok first) b₁ o → Closing t b₀ n at b left (enclosed count o)

module _ (t : List ℕ) (n : ℕ) (first : Reached) (b₁ : List ℕ) (count : ℕ) where
  pub enclosing_starts : Enclosing t n first b₁ count first b₁ (count - 0)
  enclosing_starts = record { closing_on = λ b₀ o d. record { inner = o; does = d; whole_is = let k : count - 0 ≡ count = omega arith in rw k } }

  pub enclosing_more : (i : ℕ) (at group next : Reached) (b b' : List ℕ) → i < count → Enclosing t n first b₁ count at b (count - i) → Passes t at closing (Ok group) → Continues tail_entries t n group b (Ok next) b'
      → Enclosing t n first b₁ count next b' (count - (i + 1))
  unfolding enclosed
  enclosing_more i at group next b b' h s p c = record {
    closing_on = λ b₀ o d.
        let q = s.closing_on b₀ o d in
        record {
          inner = bind (bind q.inner (pass_mark closing)) tail_entries;
          does = goes_on t b₀ n b _ tail_entries (Ok next) b' group (goes_on t b₀ n b _ (pass_mark closing) (Ok group) b at q.does (p.passes n b)) c;
          whole_is = let k : count - i ≡ suc (count - (i + 1)) = omega arith in ap (λ (m : ℕ). enclosed m q.inner) (sym k) ∙ q.whole_is;
        };
  }

-- a body, whose first step stands at `place` behind `count` brackets
module _ (t b : List ℕ) (from n count place : ℕ) (w : Bracketed t from count place) where
  body_as : body_entries (tokens_from t from) ≡ enclosed count (bind (step_entries (tokens_from t place)) tail_entries)
  body_as = ap body_entries w.tokens_are ∙ body_openings count (tokens_from t place) ∙ ap (enclosed count) (body_first (tokens_from t place))

  module _ (b₁ : List ℕ) where
    pub body_stops_1 : (s : Stop) (r : Read) (b' : List ℕ) → Does t b n (Err s) b₁ (step_entries (tokens_from t place)) → IsErrAnd r (λ e. e ≡ s) → Does t b n r b' (body_entries (tokens_from t from))
    body_stops_1 s r b' d e = rw body_as (enclosed_stops t b n b' count _ s (stays t b n b₁ _ tail_entries (Err s) b' s d refl) r e b')

    module _ (first : Reached) (d : Does t b n (Ok first) b₁ (step_entries (tokens_from t place))) (b₂ : List ℕ) where
      pub body_stops_2 : (s : Stop) (r : Read) (b' : List ℕ) → Continues tail_entries t n first b₁ (Err s) b₂ → IsErrAnd r (λ e. e ≡ s) → Does t b n r b' (body_entries (tokens_from t from))
      body_stops_2 s r b' c e = rw body_as (enclosed_stops t b n b₂ count _ s (goes_on t b n b₁ _ tail_entries (Err s) b₂ first d c) r e b')

      -- in the loop, with `i` brackets closed
      module _ (start : Reached) (c : Continues tail_entries t n first b₁ (Ok start) b₂) (i : ℕ) (at : Reached) (b₃ : List ℕ) (f : Enclosing t n start b₂ count at b₃ (count - i)) where
        closing_here : Closing t b n at b₃ (count - i) (enclosed count (bind (step_entries (tokens_from t place)) tail_entries))
        closing_here = f.closing_on b _ (goes_on t b n b₁ _ tail_entries (Ok start) b₂ first d c)

        pub enclosing_ends : count ≤ i → Does t b n (Ok at) b₃ (body_entries (tokens_from t from))
        unfolding enclosed
        enclosing_ends h =
            let q = closing_here in
            let k : count - i ≡ zero = omega arith in
            let whole : q.inner ≡ body_entries (tokens_from t from) = ap (λ (m : ℕ). enclosed m q.inner) (sym k) ∙ q.whole_is ∙ sym body_as in
            rw (← whole) q.does

        module _ (h : i < count) where
          one_more : (inner : Parsed (List Entry)) → enclosed (count - i) inner ≡ enclosed (count - (i + 1)) (bind (bind inner (pass_mark closing)) tail_entries)
          unfolding enclosed
          one_more inner = let k : count - i ≡ suc (count - (i + 1)) = omega arith in ap (λ (m : ℕ). enclosed m inner) k

          pub body_stops_3 : (s : Stop) (r : Read) (b' : List ℕ) → Passes t at closing (Err s) → IsErrAnd r (λ e. e ≡ s) → Does t b n r b' (body_entries (tokens_from t from))
          body_stops_3 s r b' p e =
              let q = closing_here in
              let whole = body_as ∙ sym q.whole_is ∙ one_more q.inner in
              rw whole (enclosed_stops t b n b₃ (count - (i + 1)) _ s (stays t b n b₃ _ tail_entries (Err s) b₃ s (goes_on t b n b₃ _ (pass_mark closing) (Err s) b₃ at q.does (p.passes n b₃)) refl) r e b')

          pub body_stops_4 : (group : Reached) (b₄ : List ℕ) (s : Stop) (r : Read) (b' : List ℕ) → Passes t at closing (Ok group) → Continues tail_entries t n group b₃ (Err s) b₄ → IsErrAnd r (λ e. e ≡ s)
              → Does t b n r b' (body_entries (tokens_from t from))
          body_stops_4 group b₄ s r b' p g e =
              let q = closing_here in
              let whole = body_as ∙ sym q.whole_is ∙ one_more q.inner in
              rw whole (enclosed_stops t b n b₄ (count - (i + 1)) _ s (goes_on t b n b₃ _ tail_entries (Err s) b₄ group (goes_on t b n b₃ _ (pass_mark closing) (Ok group) b₃ at q.does (p.passes n b₃)) g) r e b')

-- joining makes no more parts than there are marks
pub joined_fits : (l : Level) (n : ℕ) (b : List ℕ) (m count r : ℕ) (b' : List ℕ) → 1 ≤ count → Joined l n b m count r b' → r + 1 ≤ m + count
joined_fits l n b m count r b' h j = go (dec_le count 1)
  where
    go : Dec (count ≤ 1) → r + 1 ≤ m + count
    go (yes e) = let one : count ≡ 1 = omega arith in omega (arith, j.alone one)
    go (no e) = omega (arith, e, j.one_more)

-- `item`
module _ (t b : List ℕ) (n : ℕ) (level : Level) (r : Read) (b' : List ℕ) (ts : List Token) where
  pub item_step : level ≡ Steps → Does t b n r b' (step_entries ts) → Does t b n r b' (item_entries level ts)
  unfolding item_entries
  item_step h d = rw h d

  pub item_sequence : level ≡ Sequences → Does t b n r b' (sequence_entries ts) → Does t b n r b' (item_entries level ts)
  unfolding item_entries
  item_sequence h d = rw h d
