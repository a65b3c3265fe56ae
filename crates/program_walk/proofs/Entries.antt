-- The entries of a program one by one.
use Prim.Native.Nat.{ℕ, zero, suc, ◌+◌, ◌<◌, ◌≤◌}
use mathlib.Core.Path.{◌≡◌}
use mathlib.Core.Bool.{Bool, true}
use mathlib.Core.List.{List, [], ◌∷◌}
use native.Mathlib.Nat.{add-zero, zero-add}
use native.Mathlib.Numerals.{add-one}
use native.Mathlib.Omega.{arith}
use lib.ListN.{drop, drop_of_length-le}
use Rattle.base.specs.Lists.{all, tabulate}
use Rattle.base.proofs.Lists.{all-tabulate, each_tabulated}
use Rattle.meaning.specs.declared.Entry.{Entry}
use Rattle.meaning.specs.declared.Form.{Form}
use Rattle.meaning.specs.Program.{parts, entry_at, entries}
use Rattle.meaning.proofs.Files.{length_entries}

module _ (form : Form) (s : List ℕ) where
  from_at : (q n p : ℕ) → p < n → drop p (tabulate (entry_at form s) q n) ≡ entry_at form s (q + p) ∷ drop (suc p) (tabulate (entry_at form s) q n)
  from_at q zero p h = absurd (omega arith)
  from_at q (suc n) zero h = rw (add-zero q)
  from_at q (suc n) (suc p) h = let k : q + suc p ≡ suc q + p = omega arith in rw k (from_at (suc q) n p (omega arith))

  pub entries_at : (p : ℕ) → p < parts s → drop p (entries form s) ≡ entry_at form s p ∷ drop (suc p) (entries form s)
  unfolding entries
  entries_at p h = rw zero-add at (from_at 0 (parts s) p h)

  -- with the code's p + 1
  pub entries_next : (p : ℕ) → p < parts s → drop p (entries form s) ≡ entry_at form s p ∷ drop (p + 1) (entries form s)
  entries_next p h = rw (add-one p) (entries_at p h)

  pub entries_past : (p : ℕ) → parts s ≤ p → drop p (entries form s) ≡ []
  entries_past p h = drop_of_length-le (entries form s) {i = p} (rw (length_entries form s) h)

  pub entries_end : drop (parts s) (entries form s) ≡ []
  entries_end = entries_past (parts s) (omega arith)

  -- what holds of each entry holds of all, and the other way round
  module _ (f : Entry → Bool) where
    pub all_entries : ((p : ℕ) → p < parts s → f (entry_at form s p) ≡ true) → all f (entries form s) ≡ true
    unfolding entries
    all_entries h = all-tabulate (entry_at form s) f 0 (parts s) (λ p l. rw zero-add (h p l))

    pub each_entry : all f (entries form s) ≡ true → (p : ℕ) → p < parts s → f (entry_at form s p) ≡ true
    unfolding entries
    each_entry h p b = rw zero-add at (each_tabulated (entry_at form s) f 0 (parts s) h p b)
