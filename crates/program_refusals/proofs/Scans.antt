-- The tests over all entries: all of them pass one; and what a turn, a turn that stops and the end of the loop make of the entries from p on.
use Prim.Native.Nat.{ℕ, zero, suc, ◌+◌, ◌-◌, ◌<◌, ◌≤◌}
use mathlib.Core.Path.{◌≡◌, refl, ap, ◌∙◌}
use mathlib.Core.Bool.{Bool, false}
use mathlib.Core.List.{List}
use native.Mathlib.Numerals.{add-one}
use native.Mathlib.Omega.{arith}
use lib.Dec.{eqb}
use lib.ListN.{drop}
use borrow.Author.Tests.{ne_eqb}
use Rattle.std.specs.List.{list_all, range_with_len}
use Rattle.base.specs.Lists.{all, tabulate}
use Rattle.meaning.specs.declared.Entry.{Entry}
use Rattle.meaning.specs.declared.Form.{Form}
use Rattle.meaning.specs.Program.{parts, entry_at, entries, arity_of}
use Rattle.program_refusals.specs.Counting.{fills}
use Rattle.program_walk.proofs.Entries.{entries_next, entries_past}

module _ (form : Form) (s : List ℕ) (n : ℕ) (n-is : n ≡ parts s) where
  -- a test of the entries of all parts in turn is one of all entries
  pub all_parts : (f : Entry → Bool) (b : Bool) → b ≡ list_all (λ p. f (entry_at form s p)) (range_with_len 0 n) → b ≡ all f (entries form s)
  unfolding entries
  all_parts f b h = h ∙ in_turn 0 n ∙ ap (λ m. all f (tabulate (entry_at form s) 0 m)) n-is
    where
      in_turn : (q m : ℕ) → list_all (λ p. f (entry_at form s p)) (range_with_len q m) ≡ all f (tabulate (entry_at form s) q m)
      in_turn q zero = refl
      in_turn q (suc m) = rw (add-one q, in_turn (suc q) m)

module _ (form : Form) (s : List ℕ) (n p : ℕ) (n-is : n ≡ parts s) where
  -- the trees that remain are one fewer for the entry at p, and more by its children
  pub fills_next : (e : Entry) (remaining a b : ℕ) (x : Bool) → p < n → e ≡ entry_at form s p → (remaining ≡ 0 → ⊥) → a ≡ arity_of e → b ≡ a → fills (drop p (entries form s)) remaining ≡ x → fills (drop (p + 1) (entries form s)) (remaining - 1 + b) ≡ x
  unfolding fills
  fills_next e remaining a b x h e-is t a-is b-is i = rw (b-is, a-is, e-is) (rw (entries_next form s p (omega arith), ne_eqb remaining 0 t) at i)

  pub fills_stops : (remaining : ℕ) (x : Bool) → p < n → remaining ≡ 0 → fills (drop p (entries form s)) remaining ≡ x → false ≡ x
  unfolding fills
  fills_stops remaining x h z i = rw (entries_next form s p (omega arith), z) at i

  pub fills_ends : (remaining : ℕ) (x : Bool) → n ≤ p → fills (drop p (entries form s)) remaining ≡ x → eqb remaining 0 ≡ x
  unfolding fills
  fills_ends remaining x h i = rw (entries_past form s p (omega arith)) at i
