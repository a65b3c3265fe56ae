-- The listing: what `list` writes where the file is compiled and where it is refused, and how long it can be.
use Prim.Native.Nat.{ℕ, zero, suc, ◌+◌, ◌≤◌}
use native.Mathlib.Omega.{arith}
use mathlib.Core.Path.{◌≡◌, refl, sym, ap, ap₂, ◌∙◌}
use mathlib.Core.Bool.{Bool, true, false, cond}
use mathlib.Core.List.{List, [], ◌∷◌, ◌++◌}
use lib.Dec.{eqb, leb}
use lib.ListN.{length, get_or, drop, replicate, length-append, length-replicate}
use lib.Seq.{sets, sets-eq, get_or-drop}
use borrow.Author.Tests.{le-leb, eq-eqb, ne_eqb, eqb-true}
use Rattle.meaning.specs.declared.Form.TheVariants.{File, Table}
use Rattle.meaning.specs.declared.Refusal.{Refusal}
use Rattle.std.specs.Prelude.{Result, Ok, Err}
use Rattle.meaning.specs.Answers.{refusal_number, answer_number}
use Rattle.meaning.specs.Sizes.{max_parts, length_of}
use Rattle.meaning.specs.Tree.{Part}
use Rattle.meaning.specs.Program.{parts, variables, clocks, program_refusal}
use Rattle.meaning.specs.Table.{compiled, compile_refusal, compiled_into}
use Rattle.meaning.proofs.Answers.{refusal_counts}
use Rattle.meaning.proofs.Files.{Holds, accepted}
use Rattle.meaning.proofs.Tables.{compiled_is, table_holds}
use Rattle.desk_format.specs.Writing.{Written, texts_from}
use Rattle.desk_listing.specs.Listing.{line, size_numbers, row_lines, table_text, listing, max_listing}
use Rattle.desk_listing.proofs.Lined.{line_fits, rows_fit}

-- the line of a refusal
pub refusal_written : (r : Refusal) (n : ℕ) (l m : List ℕ) (i j : ℕ) → n ≡ refusal_number r → Written (line (n ∷ [])) l i m j → Written (line (refusal_number r ∷ [])) l i m j
refusal_written r n l m i j e w = rw e at w

-- A table in a longer buffer of zeros reads as the table does: beyond its end there are zeros either way
abbrev pub zeros : ℕ → List ℕ
zeros n = replicate n 0

zeros_read : (n i : ℕ) → get_or (zeros n) i 0 ≡ 0
zeros_read zero i = refl
zeros_read (suc n) zero = refl
zeros_read (suc n) (suc i) = zeros_read n i

zeros_after : (xs ys : List ℕ) (i : ℕ) → ((j : ℕ) → get_or ys j 0 ≡ 0) → get_or (xs ++ ys) i 0 ≡ get_or xs i 0
zeros_after [] ys i h = h i
zeros_after (x ∷ xs) ys zero h = refl
zeros_after (x ∷ xs) ys (suc i) h = zeros_after xs ys i h

stored_reads : (n : ℕ) (xs : List ℕ) → length xs ≤ n → (i : ℕ) → get_or (sets (zeros n) 0 xs) i 0 ≡ get_or xs i 0
stored_reads n xs h i =
    ap (λ (l : List ℕ). get_or l i 0) (sets-eq xs (zeros n) 0 (rw length-replicate (omega arith)))
    ∙ zeros_after xs (drop (0 + length xs) (zeros n)) i (λ j. get_or-drop (0 + length xs) (zeros n) j 0 ∙ zeros_read n (0 + length xs + j))

-- two lists that read alike have the same text
module _ (s t : List ℕ) (h : (i : ℕ) → get_or s i 0 ≡ get_or t i 0) where
  rows_alike : (p n : ℕ) → row_lines s p n ≡ row_lines t p n
  unfolding row_lines texts_from
  rows_alike p zero = refl
  rows_alike p (suc n) = ap₂ (λ (a b : List ℕ). line a ++ b) (simp h) (rows_alike (suc p) n)

  text_alike : table_text s ≡ table_text t
  unfolding table_text
  text_alike = ap₂ (λ (a b : List ℕ). line a ++ b) (simp h) (rows_alike 0 (parts s) ∙ ap (row_lines t 0) (h 0))

-- an accepted file's table has at most 200 rows, and fits a buffer for so many
module _ (f : List ℕ) (h : program_refusal File f ≡ 0) where
  abbrev part : Part
  part = (accepted File f h).0

  compiled_holds : Holds Table (compiled File f) part
  compiled_holds = rw (compiled_is File f part (accepted File f h).1) (table_holds (variables f) (clocks f) part (accepted File f h).2.within)

  parts_few : parts (compiled File f) ≤ max_parts
  parts_few = omega (arith, compiled_holds.parts_are, compiled_holds.within.size_fits)

  table_fits : length (compiled File f) ≤ length_of Table max_parts
  table_fits = omega (arith, compiled_holds.length_is, parts_few)

  file_parts_few : parts f ≤ max_parts
  file_parts_few = omega (arith, (accepted File f h).2.parts_are, (accepted File f h).2.within.size_fits)

  -- and its listing is the text of that table
  listing_table : listing f ≡ table_text (compiled File f)
  unfolding listing
  listing_table = rw (eq-eqb (program_refusal File f) 0 h)

-- a refused file's listing is the line of its refusal
pub listing_refused : (f : List ℕ) → (program_refusal File f ≡ 0 → ⊥) → listing f ≡ line (program_refusal File f ∷ [])
unfolding listing
listing_refused f h = rw (ne_eqb (program_refusal File f) 0 h)

-- a buffer for the most rows gets no refusal 8
room_enough : (f : List ℕ) (room : ℕ) → length_of Table max_parts ≤ room → compile_refusal f room ≡ program_refusal File f
unfolding compile_refusal
room_enough f room h = go (eqb (program_refusal File f) 0) refl
  where
    go : (b : Bool) → eqb (program_refusal File f) 0 ≡ b → cond b (cond (leb (length_of Table (parts f)) room) 0 8) (program_refusal File f) ≡ program_refusal File f
    go true e =
        let z : program_refusal File f ≡ 0 = eqb-true (program_refusal File f) 0 e in
        rw (le-leb (length_of Table (parts f)) room (omega (arith, file_parts_few f z))) (sym z)
    go false e = refl

-- no listing is longer than the longest
text_fits : (t : List ℕ) → parts t ≤ max_parts → length (table_text t) ≤ max_listing
unfolding table_text
text_fits t h = omega (arith, length-append (line (size_numbers t)) (row_lines t 0 (parts t)), line_fits (size_numbers t), rows_fit t 0 (parts t))

pub listing_fits : (f : List ℕ) → length (listing f) ≤ max_listing
unfolding listing
listing_fits f = go (eqb (program_refusal File f) 0) refl
  where
    go : (b : Bool) → eqb (program_refusal File f) 0 ≡ b → length (cond b (table_text (compiled File f)) (line (program_refusal File f ∷ []))) ≤ max_listing
    go true e = text_fits (compiled File f) (parts_few f (eqb-true (program_refusal File f) 0 e))
    go false e = omega (arith, line_fits (program_refusal File f ∷ []))

-- The table that is read reads like the file's, and stands in the buffer with all its rows
module _ (f : List ℕ) (n : ℕ) (room : length_of Table max_parts ≤ n) (a : Result (Unit {0}) Refusal) (a-is : answer_number a ≡ compile_refusal f (length (zeros n))) where
  refusal_is : answer_number a ≡ program_refusal File f
  refusal_is = a-is ∙ room_enough f (length (zeros n)) (rw length-replicate room)

  module _ (t : List ℕ) (t-is : t ≡ compiled_into f (zeros n)) (d : a ≡ Ok tt) where
    accepts : program_refusal File f ≡ 0
    accepts = sym refusal_is ∙ ap answer_number d

    alike : (i : ℕ) → get_or t i 0 ≡ get_or (compiled File f) i 0
    unfolding compiled_into
    alike =
        let s : t ≡ sets (zeros n) 0 (compiled File f) = t-is ∙ rw (← a-is, d) in
        rw s (stored_reads n (compiled File f) (omega (arith, table_fits f accepts)))

    pub list_long : length_of Table (parts t) ≤ n
    list_long = omega (arith, alike 0, parts_few f accepts)

-- What is written at each answer is the listing
module _ (f : List ℕ) (n : ℕ) (room : length_of Table max_parts ≤ n) (a : Result (Unit {0}) Refusal) (a-is : answer_number a ≡ compile_refusal f (length (zeros n))) where
  pub listing_done : (t : List ℕ) → t ≡ compiled_into f (zeros n) → a ≡ Ok tt → listing f ≡ table_text t
  listing_done t t-is d = listing_table f (accepts f n room a a-is t t-is d) ∙ sym (text_alike t (compiled File f) (alike f n room a a-is t t-is d))

  pub listing_told : (x : Refusal) → a ≡ Err x → listing f ≡ line (refusal_number x ∷ [])
  listing_told x d =
      let z : refusal_number x ≡ program_refusal File f = ap answer_number (sym d) ∙ refusal_is f n room a a-is in
      rw z (listing_refused f (λ e. omega (arith, refusal_counts x)))
