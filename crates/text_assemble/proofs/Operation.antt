-- Assembling: one law for each place where the code gives its answer.
use Prim.Native.Nat.{ℕ, ◌*◌, ◌≤◌, ◌<◌}
use mathlib.Core.Path.{◌≡◌, refl, ap, sym, subst, ◌∙◌}
use mathlib.Core.Bool.{Bool, true, false, cond}
use mathlib.Core.List.{List, [], ◌∷◌, ◌++◌, map}
use mathlib.Core.Option.{none, some}
use native.Mathlib.Omega.{arith}
use lib.Dec.{eqb, leb}
use lib.ListN.{length, take, drop}
use lib.Seq.{sets, take_at, length-take-le}
use borrow.Author.Tests.{le-leb, lt-leb, eq-eqb, ne_eqb, leb-true}
use Rattle.base.specs.Lists.{all, first_failing}
use Rattle.base.proofs.Lists.{and_left, and_right, fails_append}
use Rattle.base.proofs.Stores.{sets_start}
use Rattle.std.specs.Prelude.{Result, Ok, Err, IsErrAnd}
use Rattle.meaning.specs.declared.Refusal.{Refusal}
use Rattle.meaning.specs.declared.Form.TheVariants.{File}
use Rattle.meaning.specs.declared.Entry.{Entry}
use Rattle.meaning.specs.Sizes.{max_parts, max_variables, max_clocks, length_of, no_part, header_length}
use Rattle.meaning.specs.Tree.{size}
use Rattle.meaning.specs.Program.{sizes_in_range, size_bytes, arrays, parts, variables, clocks, entries, entry_known, entry_allowed, sizes_allowed, preorder, file_of, program_refusal}
use Rattle.meaning.specs.Answers.{refusal_number, answer_number, buffer_too_short, not_a_text, size_out_of_range, operand_not_allowed}
use Rattle.meaning.proofs.Answers.{refusal_positive}
use Rattle.meaning.proofs.Files.{all_preorder, known_entry, parts_back, file_entries, length_arrays}
use Rattle.meaning.proofs.Trees.{length_preorder}
use Rattle.text_grammar.specs.Syntax.{Text}
use Rattle.text_grammar.specs.Trees.{body_tree, text_file}
use Rattle.text_grammar.specs.Texts.{max_text_length}
use Rattle.text_grammar.specs.declared.tokens.Token.{Token}
use Rattle.text_grammar.specs.Lexer.{tokens, tokens_from}
use Rattle.text_grammar.specs.Parser.{Parsed, got, stopped, parse_text, whole, reading}
use Rattle.text_grammar.specs.Assembling.{text_tests, assemble_tests, refusal_of, assemble_refusal, file_in, assembled_into, Assembled}
use Rattle.text_stops.specs.Places.{place_of_last, stop_place}
use Rattle.text_stops.proofs.Places.{place_reached}
use Rattle.text_stops.proofs.Stops.{stop_accepted, stop_at_last}
use Rattle.text_tokens.specs.First.{Skipped}
use Rattle.text_parts.specs.Stored.{part_length, Stands}
use Rattle.text_grammar.proofs.Accepted.{as_for_files}
use Rattle.text_read.specs.declared.Program.{Program}
use Rattle.text_read.specs.declared.Stop.{Stop}
use Rattle.text_read.specs.Reading.{ReadsText}
use Rattle.text_assemble.specs.Packing.{packed_entries, packed_file, packed_refusal, Written}
use Rattle.text_assemble.proofs.Arrays.{packed_length}
use Rattle.text_assemble.proofs.Clamping.{clamped_entry, all_clamped, packed_are, unclamped, counts_fit}

-- `write_checked`
module _ (f out : List ℕ) where
  written_by : (n : ℕ) (out' : List ℕ) → n ≡ packed_refusal f (length out) → out' ≡ cond (eqb n 0) (sets out 0 f) out → Written f out n out'
  written_by n out' e h = record { answer_is = e; buffer_is = h ∙ ap (λ (k : ℕ). cond (eqb k 0) (sets out 0 f) out) e }

  refused_first : (n : ℕ) → (n ≡ 0 → ⊥) → n ≡ program_refusal File f → Written f out n out
  unfolding packed_refusal
  refused_first n h e = written_by n out (rw (← e, ne_eqb n 0 h)) (rw (ne_eqb n 0 h))

  module _ (h : program_refusal File f ≡ 0) where
    short_after : length out < length f → Written f out buffer_too_short out
    unfolding packed_refusal
    short_after l = written_by buffer_too_short out (rw (h, lt-leb (length f) (length out) l)) refl

    done_after : (out' : List ℕ) → length f ≤ length out → out' ≡ sets out 0 f → Written f out 0 out'
    unfolding packed_refusal
    done_after out' l w = written_by 0 out' (rw (h, le-leb (length f) (length out) l)) w

-- the first n bytes of a buffer
module _ (b out : List ℕ) (n : ℕ) (fits : n ≤ length b) where
  taken : length (take n b) ≡ n
  taken = length-take-le n b fits

  pub taken_long : n ≡ length (take n b)
  taken_long = sym taken

  pub checked_refused : (r : Refusal) → refusal_number r ≡ program_refusal File (take n b) → (a : Result (Unit {0}) Refusal) → IsErrAnd a (λ x. x ≡ r) → Written (take n b) out (answer_number a) out
  checked_refused r e (Ok x) w = absurd w
  checked_refused r e (Err x) w = rw w (refused_first (take n b) out (refusal_number r) (refusal_positive r) e)

  module _ (h : 0 ≡ program_refusal File (take n b)) where
    pub checked_short : length out < n → Written (take n b) out buffer_too_short out
    checked_short l = short_after (take n b) out (sym h) (omega (arith, taken))

    pub checked_done : (out' : List ℕ) → n ≤ length out → out' ≡ take n b ++ drop n out → Written (take n b) out 0 out'
    checked_done out' l w =
        let stored = rw taken at (sets_start out (take n b) (omega (arith, taken))) in
        done_after (take n b) out (sym h) out' (omega (arith, taken)) (w ∙ sym stored)

-- `write_program`
length_packed : (b : List ℕ) (n v k : ℕ) → length (packed_file b n v k) ≡ length_of File n
unfolding packed_file
length_packed b n v k = length_arrays (size_bytes n v k) (packed_entries b n) refl ∙ ap (length_of File) (packed_length b n)

pub program_written : (b out z f : List ℕ) (n v k m r : ℕ) (out' : List ℕ) → m ≡ length_of File n → f ≡ sets z 0 (packed_file b n v k) → Written (take m f) out r out' → length_of File n ≤ length z → Written (packed_file b n v k) out r out'
program_written b out z f n v k m r out' m-is f-is w h =
    let l = length_packed b n v k in
    let e : take m f ≡ packed_file b n v k =
    ap (take m) (f-is ∙ sets_start z (packed_file b n v k) (omega (arith, l))) ∙ take_at (packed_file b n v k) (drop (length (packed_file b n v k)) z) m (l ∙ sym m-is) in
    subst (λ (g : List ℕ). Written g out r out') e w

-- what a reading says of the text
read_as : (t : List ℕ) → length t ≤ max_text_length → reading t ≡ whole (parse_text (tokens t))
unfolding reading
read_as t h = rw (le-leb (length t) max_text_length h)

not_whole : (t z b : List ℕ) (s : Stop) (o : Parsed Text) → ReadsText t z (Err s) b o → whole o ≡ none
unfolding ReadsText whole
not_whole t z b s (got x rest) d = let i = d.answer_is in cc
not_whole t z b s (stopped rest) d = refl

-- the numbers of a program
abbrev of_program : (Program → ℕ) → Result Program Stop → ℕ
of_program f (Ok x) = f x
of_program f (Err s) = 0

-- the place where a text stops
abbrev place_in : Result Program Stop → ℕ
place_in (Ok x) = 0
place_in (Err s) = s.place

record TextSeen (z b : List ℕ) (p : Program) (o : Parsed Text) : Type 0 where
  text : Text
  whole_is : whole o ≡ some text
  variables_are : text.variables ≡ p.variables
  clocks_are : text.clocks ≡ p.clocks
  stands : Stands z 0 b p.parts (preorder (body_tree text.body))

text_seen : (t z b : List ℕ) (p : Program) (o : Parsed Text) → ReadsText t z (Ok p) b o → TextSeen z b p o
unfolding ReadsText whole
text_seen t z b p (got x rest) d =
    let i : p.parts ≡ d.parts = ap (of_program (λ y. y.parts)) d.answer_is in
    let j : p.variables ≡ x.variables = ap (of_program (λ y. y.variables)) d.answer_is in
    let l : p.clocks ≡ x.clocks = ap (of_program (λ y. y.clocks)) d.answer_is in
    record { text = x; whole_is = refl; variables_are = sym j; clocks_are = sym l; stands = subst (λ (m : ℕ). Stands z 0 b m (preorder (body_tree x.body))) (sym i) d.stands }
text_seen t z b p (stopped rest) d = let i = d.answer_is in cc

-- the answers, by the reading
module _ (t out : List ℕ) where
  answered_by : (n : ℕ) → (n ≡ 0 → ⊥) → n ≡ assemble_refusal t (length out) → Assembled t out n out
  unfolding assembled_into
  answered_by n h e = record { answer_is = e; buffer_is = rw (← e, ne_eqb n 0 h) }

  no_reading : reading t ≡ none → Assembled t out not_a_text out
  unfolding assemble_refusal refusal_of
  no_reading h = answered_by not_a_text (λ e. omega arith) (rw h)

  pub text_too_long : max_text_length < length t → Assembled t out not_a_text out
  unfolding reading
  text_too_long h = no_reading (rw (lt-leb (length t) max_text_length h))

  module _ (short : length t ≤ max_text_length) (z b : List ℕ) where
    pub text_not_read : (s : Stop) → ReadsText t z (Err s) b (parse_text (tokens t)) → Assembled t out not_a_text out
    text_not_read s d = no_reading (read_as t short ∙ not_whole t z b s (parse_text (tokens t)) d)

    module _ (p : Program) (d : ReadsText t z (Ok p) b (parse_text (tokens t))) where
      abbrev s : TextSeen z b p (parse_text (tokens t))
      s = text_seen t z b p (parse_text (tokens t)) d

      reading_is : reading t ≡ some s.text
      reading_is = read_as t short ∙ s.whole_is

      size_is : size (body_tree s.text.body) ≡ p.parts
      size_is = sym (length_preorder (body_tree s.text.body)) ∙ omega (arith, s.stands.parts_are)

      sizes_are : sizes_in_range (size (body_tree s.text.body)) s.text.variables s.text.clocks ≡ sizes_in_range p.parts p.variables p.clocks
      sizes_are = rw (size_is, s.variables_are, s.clocks_are)

      pub sizes_refused : (c : Bool) → c ≡ sizes_in_range p.parts p.variables p.clocks → c ≡ false → Assembled t out size_out_of_range out
      unfolding assemble_refusal refusal_of
      sizes_refused c e w = answered_by size_out_of_range (λ x. omega arith) (rw (reading_is, sizes_are ∙ sym e ∙ w))

-- within the ranges
pub sizes_small : (n v k : ℕ) (c : Bool) → c ≡ sizes_in_range n v k → c ≡ true → (n ≤ max_parts) × (v ≤ max_variables) × (k ≤ max_clocks)
sizes_small n v k c e w =
    let i = sym e ∙ w in
    let p = and_right (leb 1 n) _ i in
    let q = and_right (leb n max_parts) _ p in
    let r = and_right (leb 1 v) _ q in
    (leb-true n max_parts (and_left (leb n max_parts) _ p), leb-true v max_variables (and_left (leb v max_variables) _ r), leb-true k max_clocks (and_right (leb v max_variables) _ r))

-- a file of known entries of which one is not allowed
known_clamped : (e : Entry) → entry_known (clamped_entry e) ≡ entry_known e
unfolding entry_known
known_clamped e = refl

all_known_lem : (es : List Entry) → all entry_known es ≡ true → all entry_known (map clamped_entry es) ≡ true
all_known_lem [] h = refl
all_known_lem (e ∷ es) h = rw (known_clamped e, and_left (entry_known e) (all entry_known es) h, all_known_lem es (and_right (entry_known e) (all entry_known es) h))

unfit : (f : List ℕ) (n v k : ℕ) (es : List Entry) → length f ≡ length_of File n → parts f ≡ n → variables f ≡ v → clocks f ≡ k → entries File f ≡ es
    → sizes_in_range n v k ≡ true → all entry_known es ≡ true → all (entry_allowed v k) es ≡ false → program_refusal File f ≡ operand_not_allowed
unfolding program_refusal sizes_allowed
unfit f n v k es long p vs ks entries_are range known allowed =
    let fits : leb header_length (length f) ≡ true = le-leb header_length (length f) (omega (arith, long)) in
    let whole : eqb (length f) (length_of File (parts f)) ≡ true = eq-eqb (length f) (length_of File (parts f)) (long ∙ ap (length_of File) (sym p)) in
    rw (fits, whole, p, vs, ks, range, entries_are, known, allowed)

unfit_operands : (n v k : ℕ) (es : List Entry) → length es ≡ n → n ≤ no_part → sizes_in_range n v k ≡ true → all entry_known es ≡ true → all (entry_allowed v k) es ≡ false → program_refusal File (size_bytes n v k ++ arrays es) ≡ operand_not_allowed
unfit_operands n v k es l h range known allowed =
    let p : parts (size_bytes n v k ++ arrays es) ≡ n = parts_back n v k (arrays es) h in
    let d : Entry = record { kind = 0; operand = record { b0 = 0; b1 = 0; b2 = 0; b3 = 0 } } in
    unfit (size_bytes n v k ++ arrays es) n v k es (length_arrays (size_bytes n v k) es refl ∙ ap (length_of File) l) p refl refl (file_entries (size_bytes n v k) es d refl (p ∙ sym l)) range known allowed

-- the text's file is refused and written as the packed one is
module _ (x : Text) (b : List ℕ) (n v k : ℕ) (vs : x.variables ≡ v) (ks : x.clocks ≡ k) (ns : size (body_tree x.body) ≡ n)
    (es-are : packed_entries b n ≡ map clamped_entry (preorder (body_tree x.body))) (range : sizes_in_range n v k ≡ true) (small : (n ≤ max_parts) × (v ≤ max_variables) × (k ≤ max_clocks)) where
  abbrev es : List Entry
  es = preorder (body_tree x.body)

  same_file : all (entry_allowed v k) es ≡ true → packed_file b n v k ≡ text_file x
  unfolding packed_file text_file file_of
  same_file a = rw (vs, ks, ns, es-are, unclamped v k (omega arith) (omega arith) es a (counts_fit (body_tree x.body) (omega (arith, ns))))

  packed_unfit : all (entry_allowed v k) es ≡ false → program_refusal File (packed_file b n v k) ≡ operand_not_allowed
  unfolding packed_file
  packed_unfit a =
      unfit_operands n v k (packed_entries b n) (packed_length b n) (omega arith) range (ap (all entry_known) es-are ∙ all_known_lem es (all_preorder entry_known known_entry (body_tree x.body)))
      (ap (all (entry_allowed v k)) es-are ∙ all_clamped v k (omega arith) (omega arith) es ∙ a)

  text_unfit : all (entry_allowed v k) es ≡ false → program_refusal File (text_file x) ≡ operand_not_allowed
  text_unfit a = sym (as_for_files x (omega (arith, ns))) ∙ rw (vs, ks, ns, range, a)

  same_refusal : (room : ℕ) → (all (entry_allowed v k) es ≡ false) → packed_refusal (packed_file b n v k) room ≡ packed_refusal (text_file x) room
  unfolding packed_refusal
  same_refusal room a = rw (packed_unfit a, text_unfit a)

  text_refused : (room : ℕ) → all (entry_allowed v k) es ≡ false → packed_refusal (text_file x) room ≡ operand_not_allowed
  unfolding packed_refusal
  text_refused room a = rw (text_unfit a)

  -- "then 2, 5, 7 and 8": the refusals of the file, then that of the buffer
  refusal_is : (room : ℕ) → first_failing (assemble_tests x room) ≡ packed_refusal (text_file x) room
  unfolding packed_refusal
  refusal_is room = fails_append (text_tests x) ((buffer_too_short, leb (length (text_file x)) room) ∷ []) refl ∙ rw (as_for_files x (omega (arith, ns)))

  packed_as_text : (out : List ℕ) (r : ℕ) (out' : List ℕ) → Written (packed_file b n v k) out r out' → (r ≡ packed_refusal (text_file x) (length out)) × (out' ≡ cond (eqb (packed_refusal (text_file x) (length out)) 0) (sets out 0 (text_file x)) out)
  packed_as_text out r out' w = go (all (entry_allowed v k) es) refl
    where
      go : (c : Bool) → all (entry_allowed v k) es ≡ c → (r ≡ packed_refusal (text_file x) (length out)) × (out' ≡ cond (eqb (packed_refusal (text_file x) (length out)) 0) (sets out 0 (text_file x)) out)
      go true a = let u = subst (λ (f : List ℕ). Written f out r out') (same_file a) w in (u.answer_is, u.buffer_is)
      go false a =
          let e = same_refusal (length out) a in
          let five = text_refused (length out) a in
          (w.answer_is ∙ e, w.buffer_is ∙ rw (e, five))

-- `assemble`, where the sizes are in their ranges
pub assembled : (t out : List ℕ) (short : length t ≤ max_text_length) (z b : List ℕ) (p : Program) (d : ReadsText t z (Ok p) b (parse_text (tokens t)))
    (c : Bool) → c ≡ sizes_in_range p.parts p.variables p.clocks → c ≡ true → (a : ℕ) (out' : List ℕ) → Written (packed_file b p.parts p.variables p.clocks) out a out' → part_length * max_parts ≤ length z → Assembled t out a out'
unfolding assemble_refusal refusal_of assembled_into file_in
assembled t out short z b p d c e w a out' u fits =
    let s = text_seen t z b p (parse_text (tokens t)) d in
    let x = s.text in
    let small = sizes_small p.parts p.variables p.clocks c e w in
    let ns = size_is t out short z b p d in
    let es = packed_are z b p.parts (preorder (body_tree x.body)) s.stands (omega (arith, small.0)) in
    let range = sym e ∙ w in
    let q = packed_as_text x b p.parts p.variables p.clocks s.variables_are s.clocks_are ns es range small out a out' u in
    let f = refusal_is x b p.parts p.variables p.clocks s.variables_are s.clocks_are ns es range small (length out) in
    record { answer_is = rw (reading_is t out short z b p d) (q.0 ∙ sym f); buffer_is = rw (reading_is t out short z b p d) (q.1 ∙ rw f) }

-- `stop_place`, by what was read
module _ (t : List ℕ) (short : length t ≤ max_text_length) (z b : List ℕ) where
  pub stop_nowhere : (p : Program) → ReadsText t z (Ok p) b (parse_text (tokens t)) → length t ≡ stop_place t
  unfolding ReadsText
  stop_nowhere p d = go (parse_text (tokens t)) refl d
    where
      go : (o : Parsed Text) → parse_text (tokens t) ≡ o → ReadsText t z (Ok p) b o → length t ≡ stop_place t
      go (got x rest) e d = stop_accepted t short x rest e
      go (stopped rest) e d = let i = d.answer_is in cc

  -- i is the place of the token, or of the text's end, from the stop on
  pub stop_there : (s : Stop) (i : ℕ) → ReadsText t z (Err s) b (parse_text (tokens t)) → Skipped t s.place i → i ≡ stop_place t
  unfolding ReadsText
  stop_there s i d k = go (parse_text (tokens t)) refl d
    where
      go : (o : Parsed Text) → parse_text (tokens t) ≡ o → ReadsText t z (Err s) b o → i ≡ stop_place t
      go (got x rest) e d = let j = d.answer_is in cc
      go (stopped rest) e d =
          let j : s.place ≡ d.place = ap place_in d.answer_is in
          let left : tokens_from t i ≡ rest = k.same_tokens ∙ ap (tokens_from t) j ∙ d.rest_is in
          place_reached t i (k.within (rw j d.inside)) k.no_blank (k.uncut (rw j d.uncut))
          ∙ ap (λ (us : List Token). place_of_last t (length us)) left ∙ stop_at_last t short rest e
