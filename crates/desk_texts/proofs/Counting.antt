-- Laws of lines and columns: what one byte more makes of them.
use Prim.Native.Nat.{ℕ, ◌+◌, ◌<◌}
use native.Mathlib.Numerals.{add-one}
use native.Mathlib.Omega.{arith}
use mathlib.Core.Path.{◌≡◌, refl, sym, ◌∙◌}
use mathlib.Core.List.{List, [], ◌∷◌, ◌++◌, reverse-append}
use lib.Dec.{eqb}
use lib.ListN.{length, get_or, take}
use lib.Seq.{take-suc, get_or-take}
use borrow.Author.Tests.{eq-eqb, ne_eqb}
use Rattle.base.specs.Lists.{flag}
use Rattle.desk_parse.specs.Words.{leading}
use Rattle.desk_texts.specs.Places.{line_end, line_ends, line_of, column_of}

ends_more : (l : List ℕ) (b : ℕ) → line_ends (l ++ (b ∷ [])) ≡ line_ends l + flag (eqb b line_end)
unfolding line_ends
ends_more [] b = omega arith
ends_more (x ∷ xs) b = rw (ends_more xs b) (omega arith)

pub first_line : (t : List ℕ) → 1 ≡ line_of t 0
unfolding line_of line_ends
first_line t = refl

pub first_column : (t : List ℕ) → 1 ≡ column_of t 0
unfolding column_of leading
first_column t = refl

module _ (t : List ℕ) (place i n : ℕ) (before : i < place) (h : i < length t) where
  here : get_or (take place t) i 0 ≡ get_or t i 0
  here = get_or-take place t i 0 before

  module _ (e : get_or (take place t) i 0 ≡ line_end) where
    pub next_line : n ≡ line_of t i → n + 1 ≡ line_of t (i + 1)
    unfolding line_of
    next_line n-is = rw (add-one i, take-suc t i 0, ends_more (take i t) (get_or t i 0), eq-eqb (get_or t i 0) line_end (sym here ∙ e)) (omega arith)

    pub column_back : 1 ≡ column_of t (i + 1)
    unfolding column_of leading
    column_back = rw (add-one i, take-suc t i 0, reverse-append (take i t) (get_or t i 0 ∷ []), eq-eqb (get_or t i 0) line_end (sym here ∙ e))

  module _ (e : get_or (take place t) i 0 ≡ line_end → ⊥) where
    pub same_line : n ≡ line_of t i → n ≡ line_of t (i + 1)
    unfolding line_of
    same_line n-is = rw (add-one i, take-suc t i 0, ends_more (take i t) (get_or t i 0), ne_eqb (get_or t i 0) line_end (λ x. e (here ∙ x))) (omega arith)

    pub next_column : n ≡ column_of t i → n + 1 ≡ column_of t (i + 1)
    unfolding column_of leading
    next_column n-is = rw (add-one i, take-suc t i 0, reverse-append (take i t) (get_or t i 0 ∷ []), ne_eqb (get_or t i 0) line_end (λ x. e (here ∙ x))) (omega arith)
