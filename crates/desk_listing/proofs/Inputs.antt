-- An input longer than every file: its listing can be told from its first bytes, one more than the longest file has.
use Prim.Native.Nat.{ℕ, ◌+◌, ◌≤◌}
use native.Mathlib.Decide.{dec_le}
use native.Mathlib.Omega.{arith}
use mathlib.Core.Path.{◌≡◌, refl, sym, ◌∙◌}
use mathlib.Core.Bool.{Bool, true, false, cond, ◌&&◌}
use mathlib.Core.List.{List}
use lib.Dec.{eqb, leb}
use lib.ListN.{length, take}
use lib.Seq.{get_or-take, take_all, length-take-le}
use borrow.Author.Tests.{leb-true, le-leb, ne_eqb}
use Rattle.base.specs.Lists.{first_failing}
use Rattle.base.proofs.Lists.{and_left, and_right}
use Rattle.meaning.specs.declared.Form.TheVariants.{File}
use Rattle.meaning.specs.Sizes.{max_parts, max_variables, max_clocks, header_length, length_of}
use Rattle.meaning.specs.Program.{parts, variables, clocks, sizes_allowed, part_tests, program_refusal}
use Rattle.desk_listing.specs.Listing.{listing}
use Rattle.desk_listing.proofs.Listed.{listing_refused}

abbrev pub max_input : ℕ
max_input = length_of File max_parts + 1

few_parts : (s : List ℕ) → sizes_allowed s ≡ true → parts s ≤ max_parts
unfolding sizes_allowed
few_parts s h =
    let rest : Bool = leb 1 (variables s) && (leb (variables s) max_variables && leb (clocks s) max_clocks) in
    leb-true (parts s) max_parts (and_left (leb (parts s) max_parts) rest (and_right (leb 1 (parts s)) (leb (parts s) max_parts && rest) h))

-- bytes that are too many for a file are refused for their sizes or their length
long_refused : (s : List ℕ) → max_input ≤ length s → program_refusal File s ≡ cond (sizes_allowed s) 3 2
unfolding program_refusal
long_refused s h = rw (le-leb header_length (length s) (omega arith)) (go (sizes_allowed s) refl)
  where
    go : (b : Bool) → sizes_allowed s ≡ b → cond b (cond (eqb (length s) (length_of File (parts s))) (first_failing (part_tests File s)) 3) 2 ≡ cond b 3 2
    go true e = rw (ne_eqb (length s) (length_of File (parts s)) (λ l. omega (arith, few_parts s e)))
    go false e = refl

sizes_first : (s : List ℕ) → sizes_allowed (take max_input s) ≡ sizes_allowed s
unfolding sizes_allowed
sizes_first s = rw (get_or-take max_input s 0 0 (omega arith), get_or-take max_input s 1 0 (omega arith), get_or-take max_input s 2 0 (omega arith))

some_refusal : (s : List ℕ) → max_input ≤ length s → program_refusal File s ≡ 0 → ⊥
some_refusal s h e = go (sizes_allowed s) (long_refused s h)
  where
    go : (b : Bool) → program_refusal File s ≡ cond b 3 2 → ⊥
    go true is = omega arith
    go false is = omega arith

-- so a buffer for so many bytes is enough to list any input
pub listing_first : (s : List ℕ) → listing (take max_input s) ≡ listing s
listing_first s = go (dec_le (length s) max_input)
  where
    go : Dec (length s ≤ max_input) → listing (take max_input s) ≡ listing s
    go (yes h) = rw (take_all max_input s h)
    go (no h) =
        let l : max_input ≤ length s = omega arith in
        let f : max_input ≤ length (take max_input s) = rw (length-take-le max_input s l) (omega arith) in
        listing_refused (take max_input s) (some_refusal (take max_input s) f)
        ∙ rw (long_refused (take max_input s) f, sizes_first s, ← (long_refused s l)) (sym (listing_refused s (some_refusal s l)))
