-- The number that a run is: its digits read in turn, and what the answer for no number says.
use Prim.Native.Nat.{ℕ, ◌+◌, ◌*◌, ◌-◌, ◌<◌, ◌≤◌}
use Prim.Native.Char.{code}
use native.Mathlib.Numerals.{add-one}
use native.Mathlib.Omega.{arith}
use mathlib.Core.Path.{◌≡◌, refl, sym, ◌∙◌}
use mathlib.Core.Bool.{Bool, true, false, cond, not, ◌&&◌, and-true, and-false}
use mathlib.Core.List.{List, [], ◌∷◌}
use lib.Dec.{eqb, leb, ltb}
use Rattle.std.specs.Prelude.{Option, Some, None}
use lib.ListN.{length, get_or, drop, drop_of_length-le}
use lib.Seq.{drop-cons}
use borrow.Author.Tests.{not-true, not-false, leb-true, le-leb, lt-leb, lt-ltb}
use Rattle.base.specs.Lists.{all}
use Rattle.base.proofs.Lists.{and_left}
use Rattle.text_grammar.specs.Characters.{is_digit}
use Rattle.text_grammar.specs.Tokens.{decimal_from, max_number, leading_zero, is_number}
use Rattle.text_tokens.specs.First.{number_in}

pub digit_least : (d : ℕ) (b : Bool) → b ≡ is_digit d → not b ≡ false → code "0" ≤ d
unfolding is_digit
digit_least d b b-is e = leb-true (code "0") d (and_left (leb (code "0") d) (leb d (code "9")) (sym b-is ∙ not-false b e))

-- the number that digits are, read on from x, if it is none too large
unfoldable pub read_on : ℕ → List ℕ → Option ℕ
read_on x ds = cond (all is_digit ds && leb (decimal_from x ds) max_number) (Some (decimal_from x ds)) None

grows : (x : ℕ) (ds : List ℕ) → x ≤ decimal_from x ds
unfolding decimal_from
grows x [] = omega arith
grows x (d ∷ ds) = omega (arith, grows (x * 10 + (d - code "0")) ds)

read_large : (x : ℕ) (ds : List ℕ) → max_number < x → read_on x ds ≡ None
unfolding read_on
read_large x ds h = rw (lt-leb (decimal_from x ds) max_number (omega (arith, grows x ds)), and-false)

-- what is no number from the start
pub number_none : (run : List ℕ) → length run < 1 → None ≡ number_in run
unfolding number_in is_number
number_none [] h = refl
number_none (d ∷ run) h = absurd (omega arith)

leading_zero_lem : (run : List ℕ) → leading_zero run ≡ (eqb (get_or run 0 0) (code "0") && ltb 1 (length run))
unfolding leading_zero
leading_zero_lem [] = refl
leading_zero_lem (d ∷ []) = sym (and-false (eqb d (code "0")))
leading_zero_lem (d ∷ e ∷ run) = rw (lt-ltb 1 (length (d ∷ e ∷ run)) (omega arith), and-true)

pub number_leading : (run : List ℕ) → (eqb (get_or run 0 0) (code "0") && ltb 1 (length run)) ≡ true → None ≡ number_in run
unfolding number_in is_number
number_leading run e = rw (leading_zero_lem run ∙ e, and-false, and-false)

-- the digits from place i on, read on from x, give the whole
pub number_starts : (run : List ℕ) → 1 ≤ length run → (eqb (get_or run 0 0) (code "0") && ltb 1 (length run)) ≡ false → read_on 0 run ≡ number_in run
unfolding number_in is_number read_on
number_starts [] h e = absurd (omega arith)
number_starts (d ∷ run) h e = rw (leading_zero_lem (d ∷ run) ∙ e)

module _ (run : List ℕ) (x i : ℕ) (whole : Option ℕ) (b : Bool) (inv : read_on x (drop i run) ≡ whole) (h : i < length run) (b-is : b ≡ is_digit (get_or run i 0)) where
  pub number_broken : not b ≡ true → None ≡ whole
  unfolding read_on
  number_broken e =
      let no_digit : is_digit (get_or run i 0) ≡ false = sym b-is ∙ not-true b e in
      rw (drop-cons run i 0 h, no_digit) at inv

  module _ (e : b ≡ true) where
    pub number_next : (y : ℕ) → y ≡ x * 10 + (get_or run i 0 - code "0") → read_on y (drop (i + 1) run) ≡ whole
    unfolding read_on decimal_from
    number_next y y-is =
        let digit : is_digit (get_or run i 0) ≡ true = sym b-is ∙ e in
        rw (y-is, add-one i) (rw (drop-cons run i 0 h, digit) at inv)

    pub number_large : max_number < x * 10 + (get_or run i 0 - code "0") → None ≡ whole
    number_large l = sym (read_large (x * 10 + (get_or run i 0 - code "0")) (drop (i + 1) run) l) ∙ number_next (x * 10 + (get_or run i 0 - code "0")) refl

pub number_ends : (run : List ℕ) (x i : ℕ) (whole : Option ℕ) → read_on x (drop i run) ≡ whole → length run ≤ i → x ≤ max_number → Some x ≡ whole
unfolding read_on decimal_from
number_ends run x i whole inv h small = rw (drop_of_length-le run h, le-leb x max_number small) at inv
