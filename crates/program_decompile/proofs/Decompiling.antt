-- Decompiling: the bytes that are written, and one law for each place where the code gives its answer.
use Prim.Native.Nat.{ℕ, ◌≤◌, ◌<◌}
use native.Mathlib.Omega.{arith}
use mathlib.Core.Path.{◌≡◌, refl, ap, ◌∙◌}
use mathlib.Core.Bool.{true, false, cond}
use mathlib.Core.List.{List}
use lib.Dec.{eqb}
use lib.ListN.{length}
use lib.Seq.{sets}
use borrow.Author.Tests.{le-leb, lt-leb}
use Rattle.base.proofs.Stores.{sets-append}
use Rattle.meaning.specs.declared.Form.TheVariants.{File, Table}
use Rattle.meaning.specs.Sizes.{header_length, length_of, bytes_at}
use Rattle.meaning.specs.Program.{parts, entries, arrays}
use Rattle.meaning.specs.Table.{file_in, is_table, decompile_refusal, decompiled_into}
use Rattle.meaning.specs.Answers.{buffer_too_short, not_a_table}
use Rattle.meaning.specs.Operations.{Decompiled}
use Rattle.meaning.proofs.Tables.{table_held}
use Rattle.meaning.proofs.Refusals.{effect}

-- a table has its sizes
pub sizes_there : (t : List ℕ) → is_table t ≡ true → header_length ≤ length t
sizes_there t table = omega (arith, (table_held t table).1.length_is)

-- The bytes of the file: the sizes, then the two arrays
pub file_written : (t out out₁ out₂ : List ℕ) → out₁ ≡ sets out 0 (bytes_at t 0 header_length) → out₂ ≡ sets out₁ header_length (arrays (entries Table t)) → out₂ ≡ sets out 0 (file_in t)
unfolding file_in
file_written t out out₁ out₂ h₁ h₂ = rw (h₂, h₁) (sets-append out 0 header_length (bytes_at t 0 header_length) (arrays (entries Table t)) refl)

-- Giving back, at each of its answers
module _ (t out : List ℕ) where
  answered_by : (n : ℕ) (out₁ : List ℕ) → n ≡ decompile_refusal t (length out) → out₁ ≡ cond (eqb n 0) (sets out 0 (file_in t)) out → Decompiled t out n out₁
  unfolding decompiled_into
  answered_by n out₁ e h =
      let x = effect n (decompile_refusal t (length out)) (sets out 0 (file_in t)) out out₁ e h in
      record { answer_is = x.0; buffer_is = x.1 }

  pub decompile_refused : is_table t ≡ false → Decompiled t out not_a_table out
  unfolding decompile_refusal
  decompile_refused none = answered_by not_a_table out (rw none) refl

  module _ (table : is_table t ≡ true) (n m : ℕ) (n-is : n ≡ parts t) (m-is : m ≡ length_of File n) where
    pub decompile_short : length out < m → Decompiled t out buffer_too_short out
    unfolding decompile_refusal
    decompile_short l =
        answered_by buffer_too_short out
        (rw (table, lt-leb (length_of File (parts t)) (length out) (omega (arith, m-is ∙ ap (length_of File) n-is))))
        refl

    pub decompile_done : (out₁ : List ℕ) → m ≤ length out → out₁ ≡ sets out 0 (file_in t) → Decompiled t out 0 out₁
    unfolding decompile_refusal
    decompile_done out₁ l w =
        answered_by 0 out₁
        (rw (table, le-leb (length_of File (parts t)) (length out) (omega (arith, m-is ∙ ap (length_of File) n-is))))
        w
