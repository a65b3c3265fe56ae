-- The arrays of a file, made of the parts in a buffer.
use Prim.Native.Nat.{ℕ, ◌+◌, ◌-◌, ◌*◌, ◌<◌, ◌≤◌}
use mathlib.Core.Path.{◌≡◌, refl, ap, sym, ◌∙◌}
use mathlib.Core.List.{List, ◌++◌}
use native.Mathlib.Omega.{arith}
use native.Mathlib.Nat.{mod-eq_of_lt}
use native.Mathlib.Numerals.{towards_suc}
use lib.ListN.{length, set, get_or}
use lib.Seq.{sets}
use Rattle.base.specs.Lists.{flat, tabulate, bytes_at}
use Rattle.base.proofs.Lists.{length_pieces, length-tabulate}
use Rattle.base.proofs.Stores.{sets-append, stores_step, stores_end}
use Rattle.meaning.specs.declared.Entry.{Entry}
use Rattle.meaning.specs.Sizes.{byte_values, header_length, kind_length, operand_length}
use Rattle.meaning.specs.Program.{size_bytes, kind_byte, entry_operand}
use Rattle.text_parts.specs.Stored.{part_length}
use Rattle.text_assemble.specs.Packing.{packed_entry, packed_entries, packed_file}

pub sizes_packed : (f f₁ f₂ f₃ : List ℕ) (n v k : ℕ) → n < byte_values → f₁ ≡ set f 0 n → f₂ ≡ set f₁ 1 v → f₃ ≡ set f₂ 2 k → f₃ ≡ sets f 0 (size_bytes n v k)
sizes_packed f f₁ f₂ f₃ n v k h e₁ e₂ e₃ = rw (mod-eq_of_lt h, e₃, e₂, e₁)

-- f of each entry in turn, from place i on: w is all of them, stored onto what there was
module _ (g : Entry → List ℕ) (b : List ℕ) where
  abbrev turn : ℕ → List ℕ
  turn p = g (packed_entry b p)

  abbrev rest : ℕ → ℕ → List ℕ
  rest p n = flat g (tabulate (packed_entry b) p n)

  pub record Packing (f₀ : List ℕ) (i n : ℕ) (f : List ℕ) (j p : ℕ) : Type 0 where
    pub as_long : length f ≡ length f₀
    pub left : sets f j (rest p (n - p)) ≡ sets f₀ i (flat g (packed_entries b n))

  packing_starts : (f₀ : List ℕ) (i j n : ℕ) → j ≡ i → Packing f₀ i n f₀ j 0
  unfolding packed_entries
  packing_starts f₀ i j n e = let k : n - 0 ≡ n = omega arith in record { as_long = refl; left = rw (k, e) }

  packing_more : (f₀ : List ℕ) (i n : ℕ) (f f' : List ℕ) (j j' p : ℕ) → Packing f₀ i n f j p → p < n → f' ≡ sets f j (turn p) → j + length (turn p) ≡ j' → length f' ≡ length f → Packing f₀ i n f' j' (p + 1)
  packing_more f₀ i n f f' j j' p q h e l kept = record {
    as_long = kept ∙ q.as_long;
    left = stores_step turn rest (λ p n. refl) f f' (sets f₀ i (flat g (packed_entries b n))) j j' p n h e l q.left;
  }

  packing_ends : (f₀ : List ℕ) (i n : ℕ) (f : List ℕ) (j p : ℕ) → Packing f₀ i n f j p → n ≤ p → f ≡ sets f₀ i (flat g (packed_entries b n))
  packing_ends f₀ i n f j p q h = stores_end turn rest (λ p n. refl) f (sets f₀ i (flat g (packed_entries b n))) j p n refl h q.left

-- the kinds
module _ (b f₀ : List ℕ) (n : ℕ) where
  pub kinds_start : Packing kind_byte b f₀ header_length n f₀ (header_length + 0) 0
  kinds_start = packing_starts kind_byte b f₀ header_length (header_length + 0) n (omega arith)

  pub kinds_more : (f f' : List ℕ) (m p x : ℕ) → m ≡ n → Packing kind_byte b f₀ header_length n f (header_length + p) p → p < m → x ≡ get_or b (part_length * p) 0 → f' ≡ set f (header_length + p) x → length f' ≡ length f
      → Packing kind_byte b f₀ header_length n f' (header_length + (p + 1)) (p + 1)
  kinds_more f f' m p x m-is q h e w kept = packing_more kind_byte b f₀ header_length n f f' (header_length + p) (header_length + (p + 1)) p q (omega arith) (w ∙ rw e) (omega arith) kept

  pub kinds_end : (f : List ℕ) (m p : ℕ) → m ≡ n → Packing kind_byte b f₀ header_length n f (header_length + p) p → m ≤ p → f ≡ sets f₀ header_length (flat kind_byte (packed_entries b n))
  kinds_end f m p m-is q h = packing_ends kind_byte b f₀ header_length n f (header_length + p) p q (omega arith)

-- the operands
operand_bytes_lem : (b : List ℕ) (p : ℕ) → entry_operand (packed_entry b p) ≡ bytes_at b (part_length * p + kind_length) operand_length
operand_bytes_lem b p = simp towards_suc

module _ (b f₀ : List ℕ) (n : ℕ) where
  pub operands_start : Packing entry_operand b f₀ (header_length + n) n f₀ (header_length + n + operand_length * 0) 0
  operands_start = packing_starts entry_operand b f₀ (header_length + n) (header_length + n + operand_length * 0) n (omega arith)

  pub operands_more : (f f' : List ℕ) (m p w : ℕ) → m ≡ n → w ≡ n → Packing entry_operand b f₀ (header_length + n) n f (header_length + n + operand_length * p) p → p < m
      → f' ≡ sets f (header_length + w + operand_length * p) (bytes_at b (part_length * p + kind_length) operand_length) → length f' ≡ length f
      → Packing entry_operand b f₀ (header_length + n) n f' (header_length + n + operand_length * (p + 1)) (p + 1)
  operands_more f f' m p w m-is w-is q h e kept =
      packing_more entry_operand b f₀ (header_length + n) n f f' (header_length + n + operand_length * p) (header_length + n + operand_length * (p + 1)) p q (omega arith) (e ∙ ap (λ (x : ℕ). sets f (header_length + x + operand_length * p) (bytes_at b (part_length * p + kind_length) operand_length)) w-is ∙ ap (sets f (header_length + n + operand_length * p)) (sym (operand_bytes_lem b p))) (omega arith) kept

  pub operands_end : (f : List ℕ) (m p : ℕ) → m ≡ n → Packing entry_operand b f₀ (header_length + n) n f (header_length + n + operand_length * p) p → m ≤ p → f ≡ sets f₀ (header_length + n) (flat entry_operand (packed_entries b n))
  operands_end f m p m-is q h = packing_ends entry_operand b f₀ (header_length + n) n f (header_length + n + operand_length * p) p q (omega arith)

pub packed_length : (b : List ℕ) (n : ℕ) → length (packed_entries b n) ≡ n
unfolding packed_entries
packed_length b n = length-tabulate (packed_entry b) 0 n

pub file_packed : (b f f₁ f₂ f₃ : List ℕ) (n v k : ℕ) → f₁ ≡ sets f 0 (size_bytes n v k) → f₂ ≡ sets f₁ header_length (flat kind_byte (packed_entries b n))
    → f₃ ≡ sets f₂ (header_length + n) (flat entry_operand (packed_entries b n)) → f₃ ≡ sets f 0 (packed_file b n v k)
unfolding packed_file
file_packed b f f₁ f₂ f₃ n v k e₁ e₂ e₃ =
    let ks : List ℕ = flat kind_byte (packed_entries b n) in
    let os : List ℕ = flat entry_operand (packed_entries b n) in
    e₃ ∙ rw (e₂, e₁)
    (sets-append (sets f 0 (size_bytes n v k)) header_length (header_length + n) ks os (omega (arith, length_pieces kind_byte 1 (λ e. refl) (packed_entries b n), packed_length b n))
    ∙ sets-append f 0 header_length (size_bytes n v k) (ks ++ os) refl)
