-- Laws of texts written one after the other, and of loops that write.
use Prim.Native.Nat.{ℕ, zero, suc, ◌+◌, ◌-◌, ◌*◌, ◌/◌, ◌%◌, ◌^◌, ◌≤◌, ◌<◌}
use native.Mathlib.Nat.{sub-zero}
use native.Mathlib.Numerals.{add-one}
use native.Mathlib.Omega.{arith}
use mathlib.Core.Path.{◌≡◌, refl, sym, ap, ◌∙◌}
use mathlib.Core.List.{List, [], ◌∷◌, ◌++◌}
use lib.ListN.{length, set, length-append}
use lib.Seq.{sets}
use Rattle.base.proofs.Stores.{sets-append}
use Rattle.desk_format.specs.Decimal.{glyph, decimal}
use Rattle.desk_format.specs.Writing.{Written, texts_from}
use Rattle.desk_format.proofs.Digits.{decimal_one, decimal_more}

-- a byte, and two texts of which the second begins where the first ends
pub written_byte : (l m : List ℕ) (x i : ℕ) → m ≡ set l i x → Written (x ∷ []) l i m (i + 1)
written_byte l m x i e = record { bytes = e; after = refl }

pub written_append : (xs ys l m o : List ℕ) (i j k : ℕ) → Written xs l i m j → Written ys m j o k → Written (xs ++ ys) l i o k
written_append xs ys l m o i j k a b =
    record {
      bytes = b.bytes ∙ rw a.bytes (sets-append l i j xs ys (sym a.after));
      after = rw length-append (omega (arith, a.after, b.after));
    }

-- A text of three pieces, written one after the other: how far each piece goes, and the whole
pub record Three (text xs ys zs : List ℕ) : Type 0 where
  pub made : text ≡ xs ++ (ys ++ zs)

pub three_length : {text xs ys zs : List ℕ} → Three text xs ys zs → length text ≡ length xs + (length ys + length zs)
three_length {text} {xs} {ys} {zs} t = ap length t.made ∙ simp length-append

pub first_room : {text xs ys zs : List ℕ} (i : ℕ) → i + length text < 2 ^ 64 → Three text xs ys zs → i + length xs < 2 ^ 64
first_room i r t = omega (arith, three_length t)

pub second_room : {text xs ys zs l m : List ℕ} {i j : ℕ} → i + length text < 2 ^ 64 → Three text xs ys zs → Written xs l i m j → j + length ys < 2 ^ 64
second_room r t a = omega (arith, three_length t, a.after)

pub third_room : {text xs ys zs l m n : List ℕ} {i j k : ℕ} → i + length text < 2 ^ 64 → Three text xs ys zs → Written xs l i m j → Written ys m j n k → k + length zs < 2 ^ 64
third_room r t a b = omega (arith, three_length t, a.after, b.after)

pub three_written : {text xs ys zs l m n o : List ℕ} {i j k e : ℕ} → Three text xs ys zs → Written xs l i m j → Written ys m j n k → Written zs n k o e → Written text l i o e
three_written {text} {xs} {ys} {zs} {l} {m} {n} {o} {i} {j} {k} {e} t a b c =
    rw t.made (written_append xs (ys ++ zs) l m o i j e a (written_append ys zs m n o j k e b c))

-- a text that is another: how far it goes, and what has written it
pub same_room : {xs ys : List ℕ} (i : ℕ) → ys ≡ xs → i + length ys < 2 ^ 64 → i + length xs < 2 ^ 64
same_room i e r = rw (← e) r

pub same_text : {xs ys l m : List ℕ} {i j : ℕ} → ys ≡ xs → Written xs l i m j → Written ys l i m j
same_text e w = rw e w

-- A loop that writes `text` into l from place i on: it has come to m and place j, and `rest`, which is left, completes the text
pub record Writing (text l : List ℕ) (i : ℕ) (rest m : List ℕ) (j : ℕ) : Type 0 where
  pub completes : sets m j rest ≡ sets l i text
  pub ends : j + length rest ≡ i + length text

-- Turn k of a loop of e turns writes `turn k`, and `rest k` is what is left to write before it
module _ (e : ℕ) (turn rest : ℕ → List ℕ) (more : (k : ℕ) → k < e → rest k ≡ turn k ++ rest (k + 1)) (none : (k : ℕ) → e ≤ k → rest k ≡ []) (text l m : List ℕ) (i j k : ℕ) (w : Writing text l i (rest k) m j) where
  -- a turn goes no further than the whole text
  pub turn_room : (b : ℕ) → k < e → i + length text < b → j + length (turn k) < b
  turn_room b h r = omega (arith, length-append (turn k) (rest (k + 1)), ap length (more k h), w.ends)

  pub turn_step : (o : List ℕ) (r : ℕ) → k < e → Written (turn k) m j o r → Writing text l i (rest (k + 1)) o r
  turn_step o r h x =
      record {
        completes = rw x.bytes (sets-append m j r (turn k) (rest (k + 1)) (sym x.after) ∙ rw (more k h) at w.completes);
        ends = omega (arith, x.after, length-append (turn k) (rest (k + 1)), ap length (more k h), w.ends);
      }

  pub turn_end : e ≤ k → Written text l i m j
  turn_end h = record { bytes = rw (none k h) at w.completes; after = omega (arith, ap length (none k h), w.ends) }

-- Texts one after the other, number by number: before number k those from k to e are left
module _ (f : ℕ → List ℕ) (text l m : List ℕ) (i j k e : ℕ) where
  abbrev TextsLeft : ℕ → List ℕ → ℕ → Type 0
  TextsLeft q o r = Writing text l i (texts_from f q (e - q)) o r

  texts_more : (q : ℕ) → q < e → texts_from f q (e - q) ≡ f q ++ texts_from f (q + 1) (e - (q + 1))
  unfolding texts_from
  texts_more q h = let n : e - q ≡ suc (e - (q + 1)) = omega arith in rw (n, add-one q)

  texts_none : (q : ℕ) → e ≤ q → texts_from f q (e - q) ≡ []
  unfolding texts_from
  texts_none q h = let n : e - q ≡ 0 = omega arith in rw n

  pub texts_room : k < e → TextsLeft k m j → i + length text < 2 ^ 64 → j + length (f k) < 2 ^ 64
  texts_room h w r = turn_room e f (λ q. texts_from f q (e - q)) texts_more texts_none text l m i j k w (2 ^ 64) h r

  pub texts_step : (o : List ℕ) (r : ℕ) → k < e → TextsLeft k m j → Written (f k) m j o r → TextsLeft (k + 1) o r
  texts_step o r h w x = turn_step e f (λ q. texts_from f q (e - q)) texts_more texts_none text l m i j k w o r h x

  pub texts_end : e ≤ k → TextsLeft k m j → Written text l i m j
  texts_end h w = turn_end e f (λ q. texts_from f q (e - q)) texts_more texts_none text l m i j k w h

-- before the first all are left
pub texts_first : (f : ℕ → List ℕ) (l : List ℕ) (i e : ℕ) → Writing (texts_from f 0 e) l i (texts_from f 0 (e - 0)) l i
texts_first f l i e = rw sub-zero (record { completes = refl; ends = refl })

-- texts of at most b bytes each
pub texts_fit : (f : ℕ → List ℕ) (b i n : ℕ) → ((k : ℕ) → length (f k) ≤ b) → length (texts_from f i n) ≤ b * n
unfolding texts_from
texts_fit f b i zero h = omega arith
texts_fit f b i (suc n) h = omega (arith, length-append (f i) (texts_from f (suc i) n), h i, texts_fit f b (suc i) n h)

-- A number of one digit, and one of more
pub number_one : (l m : List ℕ) (n d i : ℕ) → n < 10 → d ≡ glyph n → m ≡ set l i d → Written (decimal n) l i m (i + 1)
number_one l m n d i h d-is e = rw (decimal_one n h, ← d-is) (written_byte l m d i e)

pub number_more : (l m o : List ℕ) (n d i j : ℕ) → 10 ≤ n → n < 2 ^ 64 → Written (decimal (n / 10)) l i m j → d ≡ glyph (n % 10) → o ≡ set m j d → Written (decimal n) l i o (j + 1)
number_more l m o n d i j h s w d-is e =
    rw (decimal_more n h (omega arith), ← d-is) (written_append (decimal (n / 10)) (d ∷ []) l m o i j (j + 1) w (written_byte m o d j e))

-- and how long they are
pub length_one : (n : ℕ) → n < 10 → length (decimal n) ≡ 1
length_one n h = rw (decimal_one n h)

pub length_more : (n : ℕ) → 10 ≤ n → n < 2 ^ 64 → length (decimal n) ≡ length (decimal (n / 10)) + 1
length_more n h s = rw (decimal_more n h (omega arith), length-append)
