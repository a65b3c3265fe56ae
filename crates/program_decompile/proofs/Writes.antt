-- Laws behind the arrays that the code stores: each turn of its loop stores the kind and the operand of one part.
use Prim.Native.Nat.{ℕ, ◌+◌, ◌-◌, ◌<◌, ◌≤◌}
use mathlib.Core.Path.{◌≡◌, refl, ◌∙◌}
use mathlib.Core.List.{List, ◌∷◌, ◌++◌}
use native.Mathlib.Omega.{arith}
use lib.ListN.{length, drop, set, length-drop}
use lib.Seq.{sets}
use Rattle.base.specs.Lists.{flat}
use Rattle.base.proofs.Lists.{length_pieces}
use Rattle.base.proofs.Stores.{sets-append, sets_swap}
use Rattle.meaning.specs.declared.Entry.{Entry}
use Rattle.meaning.specs.Sizes.{header_length, kind_place, operand_place}
use Rattle.meaning.specs.declared.Form.TheVariants.{File, Table}
use Rattle.meaning.specs.Program.{parts, operand_bytes, entry_at, entries, kind_byte, entry_operand, arrays}
use Rattle.meaning.proofs.Files.{length_entries}
use Rattle.program_walk.proofs.Entries.{entries_next, entries_past}

-- what the kinds and the operands of a table's n parts, from part p on, make of the bytes l
abbrev pub stored_from : List ℕ → ℕ → ℕ → List ℕ → List ℕ
stored_from s n p l = sets (sets l (kind_place File n p) (flat kind_byte (drop p (entries Table s)))) (operand_place File n p) (flat entry_operand (drop p (entries Table s)))

module _ (s : List ℕ) (n : ℕ) (n-is : n ≡ parts s) where
  abbrev es : List Entry
  es = entries Table s

  kinds_long : (p : ℕ) → length (flat kind_byte (drop p es)) ≡ n - p
  kinds_long p = length_pieces kind_byte 1 (λ e. refl) (drop p es) ∙ rw length-drop (omega (arith, length_entries Table s, n-is))

  -- at the beginning they are all of both arrays, of which the second begins where the first ends
  pub arrays_left : (l : List ℕ) → stored_from s n 0 l ≡ sets l header_length (arrays es)
  arrays_left l = sets-append l (kind_place File n 0) (operand_place File n 0) (flat kind_byte es) (flat entry_operand es) (omega (arith, kinds_long 0))

  -- a turn stores those of part p
  pub turn_stored : (l m o w : List ℕ) (p i j : ℕ) (e : Entry) → stored_from s n p l ≡ w → p < n → e ≡ entry_at Table s p → i ≡ kind_place File n p → m ≡ set l i e.kind → j ≡ operand_place File n p → o ≡ sets m j (operand_bytes e.operand)
      → stored_from s n (p + 1) o ≡ w
  turn_stored l m o w p i j e left there e-is i-is m-is j-is o-is =
      let later : List Entry = drop (p + 1) es in
      let kinds : List ℕ = flat kind_byte later in
      let operands : List ℕ = flat entry_operand later in
      let from : ℕ = kind_place File n (p + 1) in
      let apart : from + length kinds ≤ j = omega (arith, kinds_long (p + 1), j-is) in
      let swapped : sets o from kinds ≡ sets (sets m from kinds) j (operand_bytes e.operand) = rw o-is (sets_swap m from j kinds (operand_bytes e.operand) apart) in
      let joined : stored_from s n (p + 1) o ≡ sets (sets m from kinds) j (operand_bytes e.operand ++ operands) =
      rw swapped (sets-append (sets m from kinds) j (operand_place File n (p + 1)) (operand_bytes e.operand) operands (omega (arith, j-is))) in
      let k : i + 1 ≡ from = omega (arith, i-is) in
      let kind : sets m from kinds ≡ sets l i (e.kind ∷ kinds) = rw (m-is, ← k) (sets-append l i (i + 1) (kind_byte e) kinds refl) in
      joined ∙ rw (kind, i-is, j-is, e-is) (rw (entries_next Table s p (omega arith)) at left)

  -- and at the end none is left
  pub none_left : (l w : List ℕ) (p : ℕ) → stored_from s n p l ≡ w → n ≤ p → l ≡ w
  none_left l w p left past = rw (entries_past Table s p (omega arith)) at left
