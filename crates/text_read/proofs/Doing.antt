-- The laws of `Does`: what is known of a reading by its answer, and how readings follow one another.
use Prim.Native.Nat.{ℕ, ◌+◌, ◌*◌, ◌/◌, ◌%◌, ◌<◌}
use mathlib.Core.Path.{◌≡◌, refl, ap, sym, subst, ◌∙◌}
use mathlib.Core.List.{List, [], ◌∷◌, ◌++◌}
use lib.ListN.{length, length-append}
use lib.Seq.{sets}
use native.Mathlib.Omega.{arith}
use borrow.Author.Tests.{lt-ltb}
use Rattle.base.proofs.Lists.{flat_append}
use Rattle.base.proofs.Stores.{sets-append}
use Rattle.meaning.specs.declared.Entry.{Entry}
use Rattle.meaning.specs.Sizes.{byte_values}
use Rattle.text_grammar.specs.declared.tokens.Token.{Token}
use Rattle.text_grammar.specs.Trees.{operand_of}
use Rattle.text_grammar.specs.Lexer.{tokens_from}
use Rattle.text_grammar.specs.Parser.{Parsed, got, stopped, bind}
use Rattle.text_parts.specs.Stored.{part_length, clamped, stored_entry, stored, Stands}
use Rattle.std.specs.Prelude.{Result, Ok, Err, IsErrAnd}
use Rattle.text_read.specs.declared.Reached.{Reached}
use Rattle.text_read.specs.declared.Stop.{Stop}
use Rattle.text_read.specs.Entries.{alone}
use Rattle.text_read.specs.Reading.{Read, Ends, Stops, Does, Continues, place_of, parts_of, Room, Moves}

length_stored : (es : List Entry) → length (stored es) ≡ part_length * length es
length_stored [] = refl
length_stored (e ∷ es) = omega (arith, length_stored es)

-- entries after entries
pub stands_append : (b₀ : List ℕ) (n : ℕ) (b : List ℕ) (m : ℕ) (es : List Entry) (b' : List ℕ) (k : ℕ) (fs : List Entry)
    → Stands b₀ n b m es → Stands b m b' k fs → Stands b₀ n b' k (es ++ fs)
stands_append b₀ n b m es b' k fs s u = record {
  buffer_is =
      u.buffer_is
      ∙ ap (λ (l : List ℕ). sets l (part_length * m) (stored fs)) s.buffer_is
      ∙ sets-append b₀ (part_length * n) (part_length * m) (stored es) (stored fs) (omega (arith, length_stored es, s.parts_are))
      ∙ ap (sets b₀ (part_length * n)) (sym (flat_append stored_entry es fs));
  parts_are = omega (arith, length-append es fs, s.parts_are, u.parts_are);
}

-- a byte is stored as it is
clamped_byte : (x : ℕ) → x < byte_values → clamped x ≡ x
unfolding clamped
clamped_byte x h = rw (lt-ltb x byte_values h)

pub stands_alone : (b : List ℕ) (n : ℕ) (b' : List ℕ) (kind b0 subject value : ℕ) → b0 < byte_values
    → b' ≡ sets b (part_length * n) (kind ∷ b0 ∷ clamped subject ∷ (value % byte_values) ∷ (value / byte_values) ∷ []) → Stands b n b' (n + 1) (alone kind (operand_of b0 subject value))
stands_alone b n b' kind b0 subject value h e = record { buffer_is = rw (clamped_byte b0 h) e; parts_are = refl }

-- an error that is passed on
pub err_again : {A : Type 0} (r : Result A Stop) (s : Stop) → IsErrAnd r (λ e. e ≡ s) → r ≡ Err s
err_again (Ok x) s e = absurd e
err_again (Err x) s e = ap Err e

module _ (t : List ℕ) where
  -- what an answer says of the reading
  pub record Seen (b₀ : List ℕ) (n : ℕ) (b : List ℕ) (o : Parsed (List Entry)) (e m : ℕ) : Type 0 where
    pub es : List Entry
    pub reading_is : o ≡ got es (tokens_from t e)
    pub stands : Stands b₀ n b m es

  module _ (b₀ : List ℕ) (n : ℕ) (r : Read) (b : List ℕ) where
    pub ends_seen : (o : Parsed (List Entry)) (e m : ℕ) → Does t b₀ n r b o → r ≡ Ends e m → Seen b₀ n b o e m
    unfolding Does
    ends_seen (got es rest) e m d h =
        let k : Ends d.next d.parts ≡ Ends e m = sym d.answer_is ∙ h in
        let i : d.next ≡ e = ap place_of k in
        let j : d.parts ≡ m = ap parts_of k in
        record { es = es; reading_is = ap (got es) (sym d.rest_is ∙ ap (tokens_from t) i); stands = subst (λ (k : ℕ). Stands b₀ n b k es) j d.stands }
    ends_seen (stopped rest) e m d h = let i : Stops d.place ≡ Ends e m = sym d.answer_is ∙ h in cc

    pub stops_seen : (o : Parsed (List Entry)) (p : ℕ) → Does t b₀ n r b o → r ≡ Stops p → o ≡ stopped (tokens_from t p)
    unfolding Does
    stops_seen (got es rest) p d h = let i : Ends d.next d.parts ≡ Stops p = sym d.answer_is ∙ h in cc
    stops_seen (stopped rest) p d h = let k : Stops {A = Reached} d.place ≡ Stops p = sym d.answer_is ∙ h in let i : d.place ≡ p = ap place_of k in ap stopped (sym d.rest_is ∙ ap (tokens_from t) i)

  -- and the reading of the answer
  module _ (b₀ : List ℕ) (n : ℕ) (b : List ℕ) (o : Parsed (List Entry)) where
    pub ends_made : (e m : ℕ) (es : List Entry) → o ≡ got es (tokens_from t e) → Stands b₀ n b m es → Does t b₀ n (Ends e m) b o
    unfolding Does
    ends_made e m es h s = rw h (record { next = e; parts = m; answer_is = refl; rest_is = refl; stands = s })

    pub stops_made : (p : ℕ) → o ≡ stopped (tokens_from t p) → Does t b₀ n (Stops p) b o
    unfolding Does
    stops_made p h = rw h (record { place = p; answer_is = refl; rest_is = refl })

  -- entries that are read after others
  pub does_append : (b₀ : List ℕ) (n : ℕ) (b : List ℕ) (m : ℕ) (es : List Entry) (r : Read) (b' : List ℕ) (o : Parsed (List Entry))
      → Stands b₀ n b m es → Does t b m r b' o → Does t b₀ n r b' (bind o (λ fs rest. got (es ++ fs) rest))
  unfolding Does bind
  does_append b₀ n b m es r b' (got fs rest) s d = record {
    next = d.next;
    parts = d.parts;
    answer_is = d.answer_is;
    rest_is = d.rest_is;
    stands = stands_append b₀ n b m es b' d.parts fs s d.stands;
  }
  does_append b₀ n b m es r b' (stopped rest) s d = d

  -- a reading that stopped stays so; one that ended goes on
  module _ (b₀ : List ℕ) (n : ℕ) (b : List ℕ) (o : Parsed (List Entry)) (f : List Entry → List Token → Parsed (List Entry)) (r : Read) (b' : List ℕ) where
    pub stays : (s : Stop) → Does t b₀ n (Err s) b o → IsErrAnd r (λ e. e ≡ s) → Does t b₀ n r b' (bind o f)
    unfolding bind
    stays s d e =
        rw (err_again r s e) (stops_made b₀ n b' (bind o f) s.place (ap (λ (x : Parsed (List Entry)). bind x f) (stops_seen b₀ n (Err s) b o s.place d refl)))

    pub goes_on : (at : Reached) → Does t b₀ n (Ok at) b o → Continues f t n at b r b' → Does t b₀ n r b' (bind o f)
    unfolding bind
    goes_on at d c =
        let s = ends_seen b₀ n (Ok at) b o at.place at.parts d refl in
        rw s.reading_is (c.continues b₀ s.es s.stands)

  pub moves_err : (from n : ℕ) (r : Read) (s : Stop) → Moves t from n s.place 0 → IsErrAnd r (λ e. e ≡ s) → Moves t from n (place_of r) (parts_of r)
  moves_err from n r s m e = rw (err_again r s e) m

  -- what moved, and then moves on
  pub moves_on : (from n : ℕ) (at : Reached) (e m : ℕ) → Moves t from n at.place at.parts → Moves t at.place at.parts e m → Moves t from n e m
  moves_on from n at e m v w = record { onward = omega (arith, v.onward, w.onward); inside = w.inside; uncut = w.uncut; parts_fit = omega (arith, v.parts_fit, w.parts_fit) }

  pub moved_err : (from n : ℕ) (at : Reached) (r : Read) (s : Stop) → Moves t from n at.place at.parts → Moves t at.place at.parts s.place 0 → IsErrAnd r (λ e. e ≡ s) → Moves t from n (place_of r) (parts_of r)
  moved_err from n at r s v w e = moves_err from n r s (moves_on from n at s.place 0 v w) e

  pub room_moved : (from n : ℕ) (at : Reached) → Room t from n → Moves t from n at.place at.parts → Room t at.place at.parts
  room_moved from n at w v = record { short_enough = w.short_enough; inside = v.inside; uncut = v.uncut; parts_fit = omega (arith, w.parts_fit, v.parts_fit, v.onward) }
