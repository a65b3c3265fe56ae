-- Which mark a run is: no two marks begin with the same byte, so the first byte leaves one to compare with.
use Prim.Native.Nat.{ℕ, ◌<◌, ◌≤◌}
use Prim.Native.Char.{code}
use native.Mathlib.Omega.{arith}
use lib.Dec.{eqb}
use mathlib.Core.Path.{◌≡◌, refl, ap, sym, ◌∙◌}
use mathlib.Core.Bool.{Bool, true, false, cond, ◌&&◌}
use mathlib.Core.List.{List, [], ◌∷◌}
use lib.ListN.{length, get_or, drop}
use Rattle.std.specs.Prelude.{Option, Some, None, find}
use Rattle.std.specs.Bool.{Decides, then_some}
use Rattle.std.proofs.lemmas.Bool.{eqb-true}
use Rattle.base.specs.Lists.{same}
use Rattle.base.proofs.Lists.{same_eq}
use Rattle.text_grammar.specs.declared.tokens.Mark.{Mark}
use Rattle.text_grammar.specs.declared.tokens.Mark.TheVariants.{StartWord as start_word, WaitWord as wait_word, MaintainWord as maintain_word, RepeatWord as repeat_word, IfWord as if_word, ThenWord as then_word, ElseWord as else_word, EqualSign as equal_sign, DiffersSign as differs_sign, AtLeastSign as at_least_sign, BelowSign as below_sign, Semicolon as semicolon, Comma as comma, Opening as opening, Closing as closing, Colon as colon}
use Rattle.text_grammar.specs.declared.tokens.Token.{Token}
use Rattle.text_grammar.specs.declared.tokens.Token.TheVariants.{Mark as mark, Number as number, Variable as variable, Clock as clock, Unknown as unknown}
use Rattle.text_grammar.specs.Tokens.{marks, spelling, decimal, is_number, numbered, named_token, token_among, token_of}
use Rattle.text_tokens.specs.First.{mark_among, mark_from}

unfoldable first_byte : Mark → ℕ
first_byte m = get_or (spelling m) 0 0

-- a run is spelled as a mark where its first byte and the others are
same_first : (m : Mark) (b : ℕ) (run : List ℕ) → same (b ∷ run) (spelling m) ≡ (eqb b (first_byte m) && same run (drop 1 (spelling m)))
unfolding spelling first_byte
same_first start_word b run = refl
same_first wait_word b run = refl
same_first maintain_word b run = refl
same_first repeat_word b run = refl
same_first if_word b run = refl
same_first then_word b run = refl
same_first else_word b run = refl
same_first equal_sign b run = refl
same_first differs_sign b run = refl
same_first at_least_sign b run = refl
same_first below_sign b run = refl
same_first semicolon b run = refl
same_first comma b run = refl
same_first opening b run = refl
same_first closing b run = refl
same_first colon b run = refl

-- of the marks, one alone begins as it does
alone : (m : Mark) (run : List ℕ) → mark_among marks (first_byte m ∷ run) ≡ cond (same (first_byte m ∷ run) (spelling m)) (Some m) None
unfolding spelling first_byte mark_among
alone start_word run = refl
alone wait_word run = refl
alone maintain_word run = refl
alone repeat_word run = refl
alone if_word run = refl
alone then_word run = refl
alone else_word run = refl
alone equal_sign run = refl
alone differs_sign run = refl
alone at_least_sign run = refl
alone below_sign run = refl
alone semicolon run = refl
alone comma run = refl
alone opening run = refl
alone closing run = refl
alone colon run = refl

then_cond : (b : Bool) (m : Mark) → then_some b m ≡ cond b (Some m) None
then_cond true m = refl
then_cond false m = refl

found_first : (ms : List Mark) (b : ℕ) (m : Mark) → Some m ≡ find (λ k. eqb b (first_byte k)) ms → b ≡ first_byte m
found_first [] b m h = cc
found_first (k ∷ ms) b m h = go (eqb b (first_byte k)) refl h (found_first ms b m)
  where
    go : (c : Bool) → eqb b (first_byte k) ≡ c → Some m ≡ cond c (Some k) (find (λ n. eqb b (first_byte n)) ms) → (Some m ≡ find (λ n. eqb b (first_byte n)) ms → b ≡ first_byte m)
        → b ≡ first_byte m
    go true e i rest = let s : m ≡ k = cc in eqb-true b (first_byte k) e ∙ rw s
    go false e i rest = rest i

none_first : (ms : List Mark) (b : ℕ) (run : List ℕ) → None ≡ find (λ k. eqb b (first_byte k)) ms → None ≡ mark_among ms (b ∷ run)
unfolding mark_among
none_first [] b run h = refl
none_first (k ∷ ms) b run h = go (eqb b (first_byte k)) refl h (none_first ms b run)
  where
    go : (c : Bool) → eqb b (first_byte k) ≡ c → None ≡ cond c (Some k) (find (λ n. eqb b (first_byte n)) ms) → (None ≡ find (λ n. eqb b (first_byte n)) ms → None ≡ mark_among ms (b ∷ run))
        → None ≡ cond (same (b ∷ run) (spelling k)) (Some k) (mark_among ms (b ∷ run))
    go true e i rest = cc
    go false e i rest = rw (same_first k b run, e) (rest i)

pub mark_of_none : (run : List ℕ) → length run < 1 → None ≡ mark_among marks run
unfolding mark_among spelling
mark_of_none [] h = refl
mark_of_none (b ∷ run) h = absurd (omega arith)

pub mark_unbegun : (run : List ℕ) → 1 ≤ length run → None ≡ mark_from (get_or run 0 0) → None ≡ mark_among marks run
unfolding mark_from first_byte
mark_unbegun [] h e = absurd (omega arith)
mark_unbegun (b ∷ run) h e = none_first marks b run e

pub mark_begun : (run : List ℕ) (m : Mark) (b : Bool) (r : Option Mark) → 1 ≤ length run → Some m ≡ mark_from (get_or run 0 0) → b ≡ same run (spelling m) → r ≡ then_some b m → r ≡ mark_among marks run
unfolding mark_from first_byte
mark_begun [] m b r h e b-is r-is = absurd (omega arith)
mark_begun (b ∷ run) m c r h e c-is r-is = let s = found_first marks b m e in r-is ∙ then_cond c m ∙ rw (c-is, s) (sym (alone m run))

-- Whether a run is one mark: it is spelled so, since what is spelled as a mark is that mark, and what is not is none
spelled_mark : (m : Mark) → token_of (spelling m) ≡ mark m
unfolding token_of token_among spelling
spelled_mark start_word = refl
spelled_mark wait_word = refl
spelled_mark maintain_word = refl
spelled_mark repeat_word = refl
spelled_mark if_word = refl
spelled_mark then_word = refl
spelled_mark else_word = refl
spelled_mark equal_sign = refl
spelled_mark differs_sign = refl
spelled_mark at_least_sign = refl
spelled_mark below_sign = refl
spelled_mark semicolon = refl
spelled_mark comma = refl
spelled_mark opening = refl
spelled_mark closing = refl
spelled_mark colon = refl

numbered_none : (f : ℕ → Token) (run : List ℕ) (other : Token) (m : Mark) → ((n : ℕ) → f n ≡ mark m → ⊥) → (other ≡ mark m → ⊥) → numbered f run other ≡ mark m → ⊥
numbered_none f run other m h k = go (is_number run)
  where
    go : (b : Bool) → cond b (f (decimal run)) other ≡ mark m → ⊥
    go true e = h (decimal run) e
    go false e = k e

named_none : (run : List ℕ) (m : Mark) → named_token run ≡ mark m → ⊥
unfolding named_token
named_none [] m e = cc
named_none (b ∷ run) m e = go (eqb b (code "v")) (eqb b (code "c")) e
  where
    go : (v c : Bool) → cond v (numbered variable run unknown) (cond c (numbered clock run unknown) unknown) ≡ mark m → ⊥
    go true c i = numbered_none variable run unknown m (λ n j. cc) (λ j. cc) i
    go false true i = numbered_none clock run unknown m (λ n j. cc) (λ j. cc) i
    go false false i = cc

among_spelled : (ms : List Mark) (run : List ℕ) (m : Mark) → token_among ms run ≡ mark m → same run (spelling m) ≡ true
unfolding token_among
among_spelled [] run m e = absurd (numbered_none number run (named_token run) m (λ n j. cc) (named_none run m) e)
among_spelled (k ∷ ms) run m e = go (same run (spelling k)) refl e (among_spelled ms run m)
  where
    go : (b : Bool) → same run (spelling k) ≡ b → cond b (mark k) (token_among ms run) ≡ mark m → (token_among ms run ≡ mark m → same run (spelling m) ≡ true) → same run (spelling m) ≡ true
    go true i j rest = let s : k ≡ m = cc in rw (← s) i
    go false i j rest = rest j

pub mark_present : (f : Option Token) (run : List ℕ) (m : Mark) (b : Bool) → Some (token_of run) ≡ f → b ≡ same run (spelling m) → Decides b (f ≡ Some (mark m))
unfolding token_of
mark_present f run m b f-is b-is = (
  (λ h. sym f-is ∙ ap Some (ap token_of (same_eq run (spelling m) (sym b-is ∙ h)) ∙ spelled_mark m)),
  (λ h. let k : token_of run ≡ mark m = cc in b-is ∙ among_spelled marks run m k),
)

pub mark_absent : (f : Option Token) (m : Mark) → None ≡ f → Decides false (f ≡ Some (mark m))
mark_absent f m f-is = ((λ h. cc), (λ h. cc))
