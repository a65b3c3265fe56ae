-- Laws of texts that are written on a page one after the other.
use Prim.Native.Nat.{ℕ, zero, suc, ◌+◌, ◌-◌, ◌/◌, ◌%◌, ◌^◌, ◌≤◌, ◌<◌, min}
use native.Mathlib.Decide.{dec_lt}
use native.Mathlib.Nat.{add-zero, zero-add}
use native.Mathlib.Numerals.{add-one}
use native.Mathlib.Omega.{arith}
use mathlib.Core.Path.{◌≡◌, refl, sym, ap, ◌∙◌}
use mathlib.Core.List.{List, [], ◌∷◌, ◌++◌, append_assoc, append-nil}
use lib.ListN.{length, get_or, take, length-append}
use lib.Seq.{sets, length-sets}
use Rattle.base.proofs.Stores.{sets-append, sets_out}
use Rattle.base.specs.Lists.{bytes_at}
use Rattle.desk_format.specs.Hexadecimal.{pairs}
use Rattle.desk_format.proofs.Pairs.{pair_at, pairs_are}
use Rattle.desk_format.specs.Decimal.{glyph, decimal}
use Rattle.desk_format.specs.Writing.{Written, texts_from}
use Rattle.desk_format.proofs.Digits.{decimal_one, decimal_more}
use Rattle.desk_format.specs.declared.page.Page.{Page}
use Rattle.desk_format.specs.Pages.{max_length, Adds}

-- two texts, of which the second begins where the first ends; beyond the largest length nothing is stored
sets_joined : (l xs ys : List ℕ) (i j : ℕ) → length l ≤ max_length → min j max_length ≡ min (i + length xs) max_length → sets (sets l i xs) j ys ≡ sets l i (xs ++ ys)
sets_joined l xs ys i j fits at-j = go (dec_lt (i + length xs) max_length)
  where
    go : Dec (i + length xs < max_length) → sets (sets l i xs) j ys ≡ sets l i (xs ++ ys)
    go (yes h) = sets-append l i j xs ys (omega (arith, at-j, h))
    go (no h) =
        let far : length (sets l i xs) ≤ j = rw length-sets (omega (arith, at-j, fits, h)) in
        let further : length (sets l i xs) ≤ i + length xs = rw length-sets (omega (arith, fits, h)) in
        sets_out (sets l i xs) j ys far ∙ sym (sets_out (sets l i xs) (i + length xs) ys further) ∙ sets-append l i (i + length xs) xs ys refl

pub adds_append : {xs ys : List ℕ} {a b c : Page} → Adds xs a b → Adds ys b c → Adds (xs ++ ys) a c
adds_append {xs} {ys} {a} {b} {c} x y =
    record {
      same_page = y.same_page ∙ x.same_page;
      fits = x.fits;
      bytes = y.bytes ∙ rw x.bytes (sets_joined a.out.now xs ys a.length b.length x.fits x.after);
      after = rw length-append (omega (arith, x.after, y.after));
    }

-- a text of no bytes
pub adds_none : {a : Page} → length a.out.now ≤ max_length → Adds [] a a
adds_none fits = record { same_page = refl; fits = fits; bytes = refl; after = omega arith }

-- a text that is another
pub adds_same : {xs ys : List ℕ} {a b : Page} → ys ≡ xs → Adds xs a b → Adds ys a b
adds_same e x = rw e x

-- one byte more of a word
take_next : (w : List ℕ) (k : ℕ) → k < length w → take (suc k) w ≡ take k w ++ (get_or w k 0 ∷ [])
take_next [] k h = absurd (omega arith)
take_next (x ∷ w) zero h = refl
take_next (x ∷ w) (suc k) h = ap (λ (l : List ℕ). x ∷ l) (take_next w k (omega arith))

pub word_next : (w : List ℕ) {k : ℕ} {a b c : Page} → k < length w → Adds (take k w) a b → Adds (get_or w k 0 ∷ []) b c → Adds (take (k + 1) w) a c
word_next w {k} h x y = rw (add-one k, take_next w k h) (adds_append x y)

-- A number of one digit, and one of more
pub number_one : {n d : ℕ} {a b : Page} → n < 10 → d ≡ glyph n → Adds (d ∷ []) a b → Adds (decimal n) a b
number_one {n} {d} h d-is x = rw (decimal_one n h, ← d-is) x

pub number_more : {n d : ℕ} {a b c : Page} → 10 ≤ n → n < 2 ^ 64 → d ≡ glyph (n % 10) → Adds (decimal (n / 10)) a b → Adds (d ∷ []) b c → Adds (decimal n) a c
number_more {n} {d} h s d-is x y = rw (decimal_more n h (omega arith), ← d-is) (adds_append x y)

-- Texts one after the other, number by number: those from number i on and before number k
texts_last : (f : ℕ → List ℕ) (i n : ℕ) → texts_from f i (suc n) ≡ texts_from f i n ++ f (i + n)
unfolding texts_from
texts_last f i zero = rw (append-nil, add-zero) refl
texts_last f i (suc n) = let same : i + suc n ≡ suc i + n = omega arith in rw (same, append_assoc) (ap (λ (l : List ℕ). f i ++ l) (texts_last f (suc i) n))

pub texts_none : (f : ℕ → List ℕ) (i : ℕ) {a : Page} → length a.out.now ≤ max_length → Adds (texts_from f i (i - i)) a a
unfolding texts_from
texts_none f i {a} fits = let none : i - i ≡ 0 = omega arith in rw none (record { same_page = refl; fits = fits; bytes = refl; after = omega arith })

pub texts_next : (f : ℕ → List ℕ) {i k : ℕ} {a b c : Page} → i ≤ k → Adds (texts_from f i (k - i)) a b → Adds (f k) b c → Adds (texts_from f i (k + 1 - i)) a c
texts_next f {i} {k} h x y =
    let one : k + 1 - i ≡ suc (k - i) = omega arith in
    let last : i + (k - i) ≡ k = omega arith in
    rw (one, texts_last f i (k - i), last) (adds_append x y)

-- the same from number 0 on
pub first_none : (f : ℕ → List ℕ) {a : Page} → length a.out.now ≤ max_length → Adds (texts_from f 0 0) a a
first_none f fits = texts_none f 0 fits

pub first_next : (f : ℕ → List ℕ) {k : ℕ} {a b c : Page} → Adds (texts_from f 0 k) a b → Adds (f k) b c → Adds (texts_from f 0 (k + 1)) a c
first_next f {k} x y = rw (add-one k, texts_last f 0 k, zero-add) (adds_append x y)

pub first_whole : (f : ℕ → List ℕ) (n : ℕ) {k : ℕ} {a b : Page} → k ≡ n → Adds (texts_from f 0 k) a b → Adds (texts_from f 0 n) a b
first_whole f n e x = rw e at x

-- The bytes from place i on, when the last is written
pub pairs_whole : (s : List ℕ) (i n : ℕ) {k : ℕ} {a b : Page} → k ≡ i + n → Adds (texts_from (pair_at s) i (k - i)) a b → Adds (pairs (bytes_at s i n)) a b
pairs_whole s i n {k} e x = let all : k - i ≡ n = omega arith in rw pairs_are (rw all at x)

-- The text of a page that had none: how long it is, and how it stands in the buffer that was lent
pub page_length : {text : List ℕ} {a b : Page} → a.length ≡ 0 → length text < max_length → Adds text a b → b.length ≡ length text
page_length none short x = omega (arith, x.after, none, short)

pub page_bytes : {text l m : List ℕ} {a b : Page} → l ≡ a.out.now → a.length ≡ 0 → m ≡ b.out.now → Adds text a b → m ≡ sets l 0 text
page_bytes before none after x = after ∙ rw (before, ← none) x.bytes

pub page_written : {text l m : List ℕ} {a b : Page} → l ≡ a.out.now → a.length ≡ 0 → m ≡ b.out.now → length text < max_length → Adds text a b → Written text l 0 m b.length
page_written before none after short x = record { bytes = page_bytes before none after x; after = omega (arith, page_length none short x) }
