-- The loop of a walk over parts that stand one after the other: what each place of its code comes to.
use Prim.Native.Nat.{ℕ, suc, ◌+◌, ◌-◌, ◌≤◌, ◌<◌}
use native.Mathlib.Omega.{arith}
use native.Mathlib.Numerals.{add-one}
use mathlib.Core.Path.{◌≡◌, sym, ap, ◌∙◌}
use mathlib.Core.Logic.{◌⊎◌, inl, inr}
use mathlib.Core.Bool.{Bool, true, false, cond}
use mathlib.Core.List.{List}
use lib.Dec.{eqb}
use borrow.Author.Tests.{lt-ltb, le-ltb, eq-eqb, ne_eqb}
use Rattle.base.proofs.Lists.{cond_same}
use Rattle.meaning.specs.declared.Entry.{Entry}
use Rattle.meaning.specs.declared.Form.{Form}
use Rattle.meaning.specs.Program.{parts, variables, clocks, entry_at}
use Rattle.std.specs.Prelude.{Option, None, Some}
use Rattle.program_part.specs.declared.layout.Sizes.{Sizes}
use Rattle.program_part.specs.Readable.{sizes_in}
use Rattle.program_part.specs.Children.{children_of}
use Rattle.program_walk.specs.Walk.{along, end_with, part_end, parts_end}
use Rattle.program_walk.proofs.Ending.{part_further, parts_further}

-- the loop counts the parts that it has gone over: what is left of n after i of them
pub more_left : {i n : ℕ} → i < n → 0 < n - i
more_left h = omega arith

pub all_gone : {i n : ℕ} → n ≤ i → n - i ≤ 0
all_gone h = omega arith

pub one_fewer : (i n : ℕ) → n - (i + 1) ≡ n - i - 1
one_fewer i n = omega arith

-- the parts that are left, from q on, end where all of them do, which stand from p on; `below` levels are left for their children
pub record Walking (form : Form) (s : List ℕ) (test : ℕ → ℕ → Bool) (below p q remaining whole : ℕ) : Type 0 where
  pub from : p ≤ q
  pub comes : along (part_end form s test (parts_end form s test below)) remaining q ≡ whole

module _ (form : Form) (s : List ℕ) (test : ℕ → ℕ → Bool) (levels p count : ℕ) where
  pub no_level : levels ≡ 0 → 0 ≡ parts_end form s test levels count p
  unfolding parts_end
  no_level z = rw z

  pub walk_starts : (below : ℕ) → levels ≡ suc below → Walking form s test below p p count (parts_end form s test levels count p)
  unfolding parts_end
  walk_starts below is = record { from = omega arith; comes = rw is }

module _ (form : Form) (s : List ℕ) (test : ℕ → ℕ → Bool) (below p q remaining whole : ℕ) (w : Walking form s test below p q remaining whole) where
  pub walk_ends : remaining ≤ 0 → q ≡ whole
  unfolding along
  walk_ends h = let z : remaining ≡ 0 = omega arith in rw z at w.comes

  module _ (some-remaining : 0 < remaining) (z : Sizes) (z-is : z ≡ sizes_in s) where
    abbrev inside : ℕ → ℕ → ℕ
    inside = parts_end form s test below

    abbrev end : ℕ
    end = part_end form s test inside q

    -- the first part that is left, and the others
    next : cond (eqb end 0) 0 (along (part_end form s test inside) (remaining - 1) end) ≡ whole
    unfolding along
    next = let k : remaining ≡ suc (remaining - 1) = omega arith in rw k at w.comes

    stops : end ≡ 0 → 0 ≡ whole
    stops e = rw (eq-eqb end 0 e) at next

    pub walk_beyond : z.parts ≤ q → 0 ≡ whole
    unfolding part_end
    walk_beyond h = stops (rw (le-ltb q (parts s) (omega (arith, ap (λ (x : Sizes). x.parts) z-is))))

    module _ (there : q < z.parts) (e : Entry) (e-is : e ≡ entry_at form s q) (c : Option ℕ) (c-is : c ≡ children_of z.variables z.clocks e) where
      held : q < parts s
      held = omega (arith, ap (λ (x : Sizes). x.parts) z-is)

      children_are : children_of (variables s) (clocks s) (entry_at form s q) ≡ c
      children_are = sym (c-is ∙ rw (z-is, e-is))

      end_is : end ≡ cond (test q (end_with inside c q)) (end_with inside c q) 0
      unfolding part_end
      end_is = rw (lt-ltb q (parts s) held, children_are)

      pub none_found : c ≡ None → end ≡ 0
      none_found d = end_is ∙ (rw d (cond_same (test q 0) 0))

      pub walk_refused : c ≡ None → 0 ≡ whole
      walk_refused d = stops (none_found d)

      module _ (n : ℕ) (n-is : c ≡ Some n) where
        -- a part that has no children ends right after itself, any other where its children do
        abbrev pub ChildrenEnd : ℕ → Type 0
        ChildrenEnd x = ((0 < n) × (x ≡ parts_end form s test below n (q + 1))) ⊎ ((n ≤ 0) × (x ≡ q + 1))

        child_ends : (x : ℕ) → ChildrenEnd x → end_with inside c q ≡ x
        child_ends x (inl h) = rw (n-is, ne_eqb n 0 (λ z. omega (arith, h.0)), h.1, add-one q)
        child_ends x (inr h) = rw (n-is, eq-eqb n 0 (omega (arith, h.0)), h.1, add-one q)

        module _ (x : ℕ) (child : ChildrenEnd x) where
          pub found : end ≡ cond (test q x) x 0
          found = end_is ∙ ap (λ (i : ℕ). cond (test q i) i 0) (child_ends x child)

          pub walk_stuck : x ≡ 0 → 0 ≡ whole
          walk_stuck d = stops (found ∙ rw d (cond_same (test q 0) 0))

          pub walk_differs : test q x ≡ false → 0 ≡ whole
          walk_differs t = stops (found ∙ rw t)

          pub walk_on : (x ≡ 0 → ⊥) → test q x ≡ true → Walking form s test below p x (remaining - 1) whole
          walk_on some_end t =
              let ends : end ≡ x = found ∙ rw t in
              let ended : end ≡ 0 → ⊥ = λ d. some_end (sym ends ∙ d) in
              record {
                from = omega (arith, w.from, ends, part_further form s test inside (parts_further form s test below) q ended);
                comes = ap (along (part_end form s test inside) (remaining - 1)) (sym ends) ∙ (rw (ne_eqb end 0 ended) at next);
              }
