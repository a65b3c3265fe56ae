-- The returns of the readers of a whole text.
use Prim.Native.Nat.{ℕ, ◌≤◌}
use mathlib.Core.Path.{◌≡◌, refl, ap, sym, subst, ◌∙◌}
use mathlib.Core.Bool.{Bool, true, false}
use mathlib.Core.List.{List, [], ◌∷◌}
use lib.ListN.{length}
use native.Mathlib.Omega.{arith}
use Rattle.std.specs.Prelude.{Result, Ok, Err, Option, Some, IsErrAnd, is_some}
use Rattle.std.specs.Bool.{Decides}
use Rattle.meaning.specs.declared.Entry.{Entry}
use Rattle.meaning.specs.Program.{preorder}
use Rattle.text_grammar.specs.declared.tokens.Mark.TheVariants.{Colon as colon}
use Rattle.text_grammar.specs.declared.tokens.Token.{Token}
use Rattle.text_grammar.specs.declared.tokens.Token.TheVariants.{Mark as mark}
use Rattle.text_grammar.specs.Syntax.{Text, Body}
use Rattle.text_grammar.specs.Trees.{body_tree}
use Rattle.text_grammar.specs.Lexer.{tokens, tokens_from}
use Rattle.text_grammar.specs.Parser.{Parsed, got, stopped, bind, expect, parse_number, parse_body, end_text, parse_text}
use Rattle.text_grammar.proofs.Parsing.{bind-same}
use Rattle.text_stops.specs.Places.{cut_at}
use Rattle.text_tokens.specs.First.{first_token, Passed}
use Rattle.text_parts.specs.Stored.{Stands}
use Rattle.text_read.specs.declared.Reached.{Reached}
use Rattle.text_read.specs.declared.Stop.{Stop}
use Rattle.text_read.specs.declared.Header.{Header}
use Rattle.text_read.specs.declared.Program.{Program}
use Rattle.text_read.specs.Entries.{body_entries, SizesRead, parse_header, parse_program}
use Rattle.text_read.specs.Reading.{Stops, number_or_stop, Does, Moves, ReadsHeader, ReadsText}
use Rattle.text_read.proofs.Entries.{bind-bind, bind_mark}
use Rattle.text_read.proofs.First.{mark_first, mark_elsewhere}
use Rattle.text_read.proofs.Doing.{ends_seen, stops_seen, err_again}
use Rattle.text_read.proofs.Plain.{missing, number_gives, number_stops}

-- `read_header`: V stands at the begin, K at place `second`, the colon at place `third`
module _ (t : List ℕ) (second third : ℕ) (p : Passed t 0 second) (q : Passed t second third) (r : Result Header Stop) where
  header_stops : (place : ℕ) → r ≡ Stops place → place ≤ length t → cut_at t place ≡ 0 → parse_header (tokens_from t 0) ≡ stopped (tokens_from t place) → ReadsHeader t r (parse_header (tokens_from t 0))
  unfolding ReadsHeader
  header_stops place i h w e = rw e (record { place = place; answer_is = i; inside = h; uncut = w; rest_is = refl })

  number_missing : (place : ℕ) (s : Stop) → Err s ≡ number_or_stop place (parse_number (tokens_from t place)) → IsErrAnd r (λ e. e ≡ s) → r ≡ Stops place
  number_missing place s h e = err_again r s e ∙ ap (λ (n : ℕ). Stops n) ((number_stops place (tokens_from t place) (Err s) s h refl).0)

  pub no_variables : (s : Stop) → Err s ≡ number_or_stop 0 (parse_number (tokens_from t 0)) → IsErrAnd r (λ e. e ≡ s) → ReadsHeader t r (parse_header (tokens_from t 0))
  unfolding parse_header bind cut_at
  no_variables s h e = header_stops 0 (number_missing 0 s h e) (omega arith) refl (rw ((number_stops 0 (tokens_from t 0) (Err s) s h refl).1))

  module _ (v : ℕ) (v-is : Ok v ≡ number_or_stop 0 (parse_number (tokens_from t 0))) where
    after_variables : parse_header (tokens_from t 0) ≡ bind (parse_number (tokens_from t second)) (λ k rest. expect colon rest (λ rest. got (record { variables = v; clocks = k }) rest))
    unfolding parse_header bind parse_number
    after_variables =
        ap parse_header (number_gives 0 (tokens_from t 0) (Ok v) v v-is refl)
        ∙ ap (λ (l : List Token). bind (parse_number l) (λ k rest. expect colon rest (λ rest. got (record { variables = v; clocks = k }) rest))) (sym p.later)

    pub no_clocks : (s : Stop) → Err s ≡ number_or_stop second (parse_number (tokens_from t second)) → IsErrAnd r (λ e. e ≡ s) → ReadsHeader t r (parse_header (tokens_from t 0))
    unfolding bind
    no_clocks s h e = header_stops second (number_missing second s h e) p.within p.uncut (after_variables ∙ rw ((number_stops second (tokens_from t second) (Err s) s h refl).1))

    module _ (k : ℕ) (k-is : Ok k ≡ number_or_stop second (parse_number (tokens_from t second))) (i : Bool) (d : Decides i (first_token (tokens_from t third) ≡ Some (mark colon))) where
      after_clocks : parse_header (tokens_from t 0) ≡ expect colon (tokens_from t third) (λ rest. got (record { variables = v; clocks = k }) rest)
      unfolding bind parse_number
      after_clocks =
          after_variables
          ∙ ap (λ (l : List Token). bind (parse_number l) (λ k rest. expect colon rest (λ rest. got (record { variables = v; clocks = k }) rest))) (number_gives second (tokens_from t second) (Ok k) k k-is refl)
          ∙ ap (λ (l : List Token). expect colon l (λ rest. got (record { variables = v; clocks = k }) rest)) (sym q.later)

      pub no_colon : i ≡ false → r ≡ Stops third → ReadsHeader t r (parse_header (tokens_from t 0))
      no_colon h e = header_stops third e q.within q.uncut (after_clocks ∙ mark_elsewhere colon (tokens_from t third) _ _ (missing i d h))

      pub header_read : (next : ℕ) → i ≡ true → Passed t third next → r ≡ Ok (record { variables = v; clocks = k; body = next }) → ReadsHeader t r (parse_header (tokens_from t 0))
      unfolding ReadsHeader
      header_read next h w e =
          rw (after_clocks ∙ mark_first colon (tokens_from t third) _ _ (d.0 h), ← w.later)
          (record { body = next; answer_is = e; inside = w.within; uncut = w.uncut; rest_is = refl })

-- `read_program`: the body, by its entries
record BodyGot (es : List Entry) (rest : List Token) (o : Parsed Body) : Type 0 where
  body : Body
  body_is : o ≡ got body rest
  entries_are : es ≡ preorder (body_tree body)

body_got : (o : Parsed Body) (es : List Entry) (rest : List Token) → bind o (λ b rest. got (preorder (body_tree b)) rest) ≡ got es rest → BodyGot es rest o
unfolding bind
body_got (got b end) es rest h = let e : es ≡ preorder (body_tree b) = cc in let i : end ≡ rest = cc in record { body = b; body_is = ap (got b) i; entries_are = e }
body_got (stopped end) es rest h = let z : ◌≡◌ {A = ℕ} 0 1 = cc in absurd (omega arith)

body_stopped : (o : Parsed Body) (rest : List Token) → bind o (λ b rest. got (preorder (body_tree b)) rest) ≡ stopped rest → o ≡ stopped rest
unfolding bind
body_stopped (got b end) rest h = let z : ◌≡◌ {A = ℕ} 0 1 = cc in absurd (omega arith)
body_stopped (stopped end) rest h = cc

text_ended : (x : Text) (ts : List Token) → is_some (first_token ts) ≡ false → end_text x ts ≡ got x []
unfolding end_text first_token
text_ended x [] h = refl
text_ended x (t ∷ ts) h = cc

text_goes_on : (x : Text) (ts : List Token) → is_some (first_token ts) ≡ true → end_text x ts ≡ stopped ts
unfolding end_text first_token
text_goes_on x [] h = cc
text_goes_on x (t ∷ ts) h = refl

module _ (t b₀ : List ℕ) (from v k : ℕ) (b : List ℕ) where
  text_stops : (r : Result Program Stop) (m place : ℕ) → r ≡ Stops place → Moves t from 0 place m → parse_program v k (tokens_from t from) ≡ stopped (tokens_from t place) → ReadsText t b₀ r b (parse_program v k (tokens_from t from))
  unfolding ReadsText
  text_stops r m place i j e = rw e (record { place = place; answer_is = i; inside = j.inside; uncut = j.uncut; rest_is = refl })

  pub no_body_lem : (s : Stop) → Does t b₀ 0 (Err s) b (body_entries (tokens_from t from)) → Moves t from 0 s.place 0 → (r : Result Program Stop) → IsErrAnd r (λ e. e ≡ s) → ReadsText t b₀ r b (parse_program v k (tokens_from t from))
  unfolding parse_program body_entries bind
  no_body_lem s d m r e = text_stops r 0 s.place (err_again r s e) m (rw (body_stopped (parse_body (tokens_from t from)) (tokens_from t s.place) (stops_seen t b₀ 0 (Err s) b _ s.place d refl)))

  module _ (end : Reached) (d : Does t b₀ 0 (Ok end) b (body_entries (tokens_from t from))) (o : Option Token) (o-is : o ≡ first_token (tokens_from t end.place)) where
    -- the text that is read, where nothing follows it
    record TextGot : Type 0 where
      text : Text
      variables_are : text.variables ≡ v
      clocks_are : text.clocks ≡ k
      program_is : parse_program v k (tokens_from t from) ≡ end_text text (tokens_from t end.place)
      stands : Stands b₀ 0 b end.parts (preorder (body_tree text.body))

    text_got : TextGot
    unfolding parse_program body_entries bind
    text_got =
        let s = ends_seen t b₀ 0 (Ok end) b (body_entries (tokens_from t from)) end.place end.parts d refl in
        let q = body_got (parse_body (tokens_from t from)) s.es (tokens_from t end.place) s.reading_is in
        record {
          text = record { variables = v; clocks = k; body = q.body };
          variables_are = refl;
          clocks_are = refl;
          program_is = ap (λ (o : Parsed Body). bind o (λ b rest. end_text (record { variables = v; clocks = k; body = b }) rest)) q.body_is;
          stands = subst (λ (es : List Entry). Stands b₀ 0 b end.parts es) q.entries_are s.stands;
        }

    pub more_text : is_some o ≡ true → Moves t from 0 end.place end.parts → ReadsText t b₀ (Stops end.place) b (parse_program v k (tokens_from t from))
    more_text g j = let q = text_got in text_stops (Stops end.place) end.parts end.place refl j (q.program_is ∙ text_goes_on q.text (tokens_from t end.place) (rw (← o-is) g))

    pub whole_text : is_some o ≡ false → ReadsText t b₀ (Ok (record { parts = end.parts; variables = v; clocks = k })) b (parse_program v k (tokens_from t from))
    unfolding ReadsText
    whole_text g =
        let q = text_got in
        rw (q.program_is ∙ text_ended q.text (tokens_from t end.place) (rw (← o-is) g))
        (record { parts = end.parts; answer_is = rw (q.variables_are, q.clocks_are); stands = q.stands })

-- `read_text`: the sizes, and then the program
text_by_parts : (t : List ℕ) → parse_text (tokens t) ≡ bind (parse_header (tokens_from t 0)) (λ s rest. parse_program s.variables s.clocks rest)
unfolding parse_text parse_header parse_program tokens_from bind
text_by_parts t =
    sym (bind-bind (parse_number (tokens t)) _ _ ∙ bind-same (parse_number (tokens t)) _ _ (λ v rest e.
    bind-bind (parse_number rest) _ _ ∙ bind-same (parse_number rest) _ _ (λ k after i. bind_mark colon _ after _ _)))

-- the numbers of a header
abbrev of_header : (Header → ℕ) → Result Header Stop → ℕ
of_header f (Ok h) = f h
of_header f (Err s) = 0

sizes_got : (t : List ℕ) (o : Parsed SizesRead) (h : Header) → ReadsHeader t (Ok h) o
    → (h.body ≤ length t) × (cut_at t h.body ≡ 0) × (bind o (λ s rest. parse_program s.variables s.clocks rest) ≡ parse_program h.variables h.clocks (tokens_from t h.body))
unfolding ReadsHeader bind
sizes_got t (got s rest) h d =
    let i : h.body ≡ d.body = ap (of_header (λ h. h.body)) d.answer_is in
    let j : h.variables ≡ s.variables = ap (of_header (λ h. h.variables)) d.answer_is in
    let l : h.clocks ≡ s.clocks = ap (of_header (λ h. h.clocks)) d.answer_is in
    (rw i d.inside, rw i d.uncut, rw (i, j, l, d.rest_is))
sizes_got t (stopped rest) h d = let e = d.answer_is in cc

module _ (t : List ℕ) (h : Header) (d : ReadsHeader t (Ok h) (parse_header (tokens_from t 0))) where
  pub header_inside : h.body ≤ length t
  header_inside = (sizes_got t (parse_header (tokens_from t 0)) h d).0

  pub header_uncut : cut_at t h.body ≡ 0
  header_uncut = (sizes_got t (parse_header (tokens_from t 0)) h d).1

  pub text_read_lem : (b₀ : List ℕ) (r : Result Program Stop) (b : List ℕ) → ReadsText t b₀ r b (parse_program h.variables h.clocks (tokens_from t h.body)) → ReadsText t b₀ r b (parse_text (tokens t))
  text_read_lem b₀ r b i = rw (text_by_parts t ∙ (sizes_got t (parse_header (tokens_from t 0)) h d).2) i

-- the place where a header stops
abbrev place_in : Result Header Stop → ℕ
place_in (Ok h) = 0
place_in (Err s) = s.place

pub no_header : (t : List ℕ) (s : Stop) → ReadsHeader t (Err s) (parse_header (tokens_from t 0)) → (r : Result Program Stop) → IsErrAnd r (λ e. e ≡ s) → (b₀ b : List ℕ) → ReadsText t b₀ r b (parse_text (tokens t))
unfolding ReadsHeader ReadsText bind
no_header t s d r e b₀ b = rw (text_by_parts t) (go (parse_header (tokens_from t 0)) d)
  where
    go : (o : Parsed SizesRead) → ReadsHeader t (Err s) o → ReadsText t b₀ r b (bind o (λ s rest. parse_program s.variables s.clocks rest))
    go (got x rest) d = let i = d.answer_is in cc
    go (stopped rest) d = record { place = d.place; answer_is = err_again r s e ∙ ap (λ (n : ℕ). Stops n) (ap (place_in) d.answer_is); inside = d.inside; uncut = d.uncut; rest_is = d.rest_is }
