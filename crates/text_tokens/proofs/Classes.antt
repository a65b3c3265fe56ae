-- What token a run is.
use Prim.Native.Nat.{ℕ, ◌-◌, ◌<◌, ◌≤◌}
use Prim.Native.Char.{code}
use native.Mathlib.Omega.{arith}
use lib.Dec.{eqb}
use borrow.Author.Tests.{ne_eqb}
use mathlib.Core.Path.{◌≡◌, refl, sym, ◌∙◌}
use mathlib.Core.Bool.{Bool, true, false, cond}
use mathlib.Core.List.{List, [], ◌∷◌}
use lib.ListN.{length, get_or, take, drop}
use Rattle.std.specs.Prelude.{Some, None}
use Rattle.std.specs.Str.{bytes_eq}
use Rattle.base.specs.Lists.{same}
use Rattle.base.proofs.Lists.{cond_same}
use Rattle.base.proofs.Stores.{take_rest}
use Rattle.text_grammar.specs.declared.tokens.Mark.{Mark}
use Rattle.text_grammar.specs.declared.tokens.Token.TheVariants.{Mark as mark, Number as number, Variable as variable, Clock as clock, Unknown as unknown}
use Rattle.text_grammar.specs.Tokens.{marks, spelling, decimal, is_number, numbered, named_token, token_among, token_of}
use Rattle.text_tokens.specs.First.{mark_among, number_in}

-- `==` on bytes
pub same_bytes : (xs ys : List ℕ) (r : Bool) → r ≡ bytes_eq xs ys → r ≡ same xs ys
same_bytes xs ys r h = h ∙ go xs ys
  where
    go : (xs ys : List ℕ) → bytes_eq xs ys ≡ same xs ys
    go [] [] = refl
    go [] (y ∷ ys) = refl
    go (x ∷ xs) [] = refl
    go (x ∷ xs) (y ∷ ys) = rw (go xs ys)

-- A run that is spelled as one of these marks, and one that is spelled as none
among_mark : (ms : List Mark) (run : List ℕ) (m : Mark) → Some m ≡ mark_among ms run → token_among ms run ≡ mark m
unfolding mark_among token_among
among_mark [] run m h = cc
among_mark (k ∷ ms) run m h = go (same run (spelling k)) h (among_mark ms run m)
  where
    go : (b : Bool) → Some m ≡ cond b (Some k) (mark_among ms run) → (Some m ≡ mark_among ms run → token_among ms run ≡ mark m) → cond b (mark k) (token_among ms run) ≡ mark m
    go true i rest = cc
    go false i rest = rest i

among_none : (ms : List Mark) (run : List ℕ) → None ≡ mark_among ms run → token_among ms run ≡ numbered number run (named_token run)
unfolding mark_among token_among
among_none [] run h = refl
among_none (k ∷ ms) run h = go (same run (spelling k)) h (among_none ms run)
  where
    go : (b : Bool) → None ≡ cond b (Some k) (mark_among ms run) → (None ≡ mark_among ms run → token_among ms run ≡ numbered number run (named_token run))
        → cond b (mark k) (token_among ms run) ≡ numbered number run (named_token run)
    go true i rest = cc
    go false i rest = rest i

pub token_mark : (run : List ℕ) (m : Mark) → Some m ≡ mark_among marks run → mark m ≡ token_of run
unfolding token_of
token_mark run m h = sym (among_mark marks run m h)

-- whether a run is a number
number_some : (run : List ℕ) (n : ℕ) → Some n ≡ number_in run → (is_number run ≡ true) × (decimal run ≡ n)
unfolding number_in
number_some run n h = go (is_number run) refl h
  where
    go : (b : Bool) → is_number run ≡ b → Some n ≡ cond b (Some (decimal run)) None → (is_number run ≡ true) × (decimal run ≡ n)
    go true e i = (e, cc)
    go false e i = cc

number_none_lem : (run : List ℕ) → None ≡ number_in run → is_number run ≡ false
unfolding number_in
number_none_lem run h = go (is_number run) refl h
  where
    go : (b : Bool) → is_number run ≡ b → None ≡ cond b (Some (decimal run)) None → is_number run ≡ false
    go true e i = cc
    go false e i = e

pub token_number : (run : List ℕ) (n : ℕ) → None ≡ mark_among marks run → Some n ≡ number_in run → number n ≡ token_of run
unfolding token_of
token_number run n h i = let s = number_some run n i in sym (among_none marks run h ∙ rw (s.0, s.1))

pub token_name : (run : List ℕ) → None ≡ mark_among marks run → None ≡ number_in run → named_token run ≡ token_of run
unfolding token_of
token_name run h i = sym (among_none marks run h ∙ rw (number_none_lem run i))

-- A run of `v` or `c` and a number, or of neither
pub named_empty : (run : List ℕ) → length run < 1 → unknown ≡ named_token run
unfolding named_token
named_empty [] h = refl
named_empty (b ∷ rest) h = absurd (omega arith)

module _ (run : List ℕ) (h : 1 ≤ length run) where
  named_first : named_token run
      ≡ cond (eqb (get_or run 0 0) (code "v")) (numbered variable (drop 1 run) unknown) (cond (eqb (get_or run 0 0) (code "c")) (numbered clock (drop 1 run) unknown) unknown)
  unfolding named_token
  named_first = go run h
    where
      go : (l : List ℕ) → 1 ≤ length l
          → named_token l ≡ cond (eqb (get_or l 0 0) (code "v")) (numbered variable (drop 1 l) unknown) (cond (eqb (get_or l 0 0) (code "c")) (numbered clock (drop 1 l) unknown) unknown)
      go [] k = absurd (omega arith)
      go (b ∷ rest) k = refl

  module _ (n : ℕ) (n-is : Some n ≡ number_in (take (length run - 1) (drop 1 run))) where
    pub behind : (is_number (drop 1 run) ≡ true) × (decimal (drop 1 run) ≡ n)
    behind = number_some (drop 1 run) n (rw (take_rest run 1) at n-is)

    pub named_variable : get_or run 0 0 ≡ code "v" → variable n ≡ named_token run
    named_variable e = let s = behind in sym (named_first ∙ rw (e, s.0, s.1))

    pub named_clock : get_or run 0 0 ≡ code "c" → clock n ≡ named_token run
    named_clock e = let s = behind in sym (named_first ∙ rw (e, s.0, s.1))

  pub named_unnumbered : None ≡ number_in (take (length run - 1) (drop 1 run)) → unknown ≡ named_token run
  named_unnumbered e = sym (named_first ∙ simp (number_none_lem (drop 1 run) (rw (take_rest run 1) at e), cond_same))

  pub named_other : (get_or run 0 0 ≡ code "v" → ⊥) → (get_or run 0 0 ≡ code "c" → ⊥) → unknown ≡ named_token run
  named_other n m = sym (named_first ∙ rw (ne_eqb (get_or run 0 0) (code "v") n, ne_eqb (get_or run 0 0) (code "c") m))
