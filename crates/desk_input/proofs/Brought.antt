-- What a read brings: laws of `Reading`.
use Prim.Native.Nat.{ℕ, ◌+◌, ◌-◌, ◌<◌, ◌≤◌, min}
use native.Mathlib.Omega.{arith}
use mathlib.Core.Path.{◌≡◌, refl, sym, ◌∙◌, ap}
use mathlib.Core.List.{List}
use lib.ListN.{length}
use borrow.Rule.Slice.PartMut.{put_mid, mid_of, mid_len, take_put}
use Rattle.std.proofs.Common.{Option, Some, None}
use Rattle.std.proofs.lemmas.Option.{none-some}
use Rattle.desk_input.specs.Reading.{piece_of, Reads, Filled, none, more, Whole, full, ended, failed, ReadIfOpen, unopened, opened, FileRead, FitsBuffer}

-- the buffer with what was read in the place of the bytes from place n on
abbrev pub after : List ℕ → ℕ → List ℕ → List ℕ
after buf n mid = put_mid n (length buf - n) buf mid

pub read_brings : (buf mid : List ℕ) (n : ℕ) (got : Option ℕ) (p : Option ℕ) → n ≤ length buf → length (after buf n mid) ≡ length buf → p ≡ piece_of got n (length (mid_of n (length (after buf n mid) - n) (after buf n mid)))
    → Reads buf n p (after buf n mid)
read_brings buf mid n got p h l e =
    record { got = got; piece_is = rw (mid_len n (length (after buf n mid)) (after buf n mid) (omega arith), l) at e; kept = take_put n (length buf - n) buf mid h; length_is = l }

held_same : (n k : ℕ) → Some k ≡ Some n → n ≡ k
held_same n k e = cc

-- what a read brings lies in the buffer, after what it held
held_inside : (got : Option ℕ) (n room k : ℕ) → Some k ≡ piece_of got n room → (n ≤ k) × (k ≤ n + room)
unfolding piece_of
held_inside (Some j) n room k e = let is = held_same (n + min j room) k e in (omega arith, omega arith)
held_inside None n room k e = cc

pub read_inside : (buf : List ℕ) (n k : ℕ) (buf' : List ℕ) → n ≤ length buf → Reads buf n (Some k) buf' → (n ≤ k) × (k ≤ length buf')
read_inside buf n k buf' h r = let inside = held_inside r.got n (length buf - n) k r.piece_is in (inside.0, omega (arith, inside.1, r.length_is))

pub filled_inside : (buf : List ℕ) (n : ℕ) (b : List ℕ) → Filled buf n b → (length b ≡ length buf) × (n ≤ length b)
filled_inside buf _ _ none = (refl, omega arith)
filled_inside buf _ _ (more n k b b' f h r l) = let before = filled_inside buf n b f in (r.length_is ∙ before.0, (read_inside b n k b' before.1 r).1)

held_within : (buf : List ℕ) (k : ℕ) (b : List ℕ) → Whole buf (Some k) b → k ≤ length b
held_within buf k b (full n f is e) = (filled_inside buf k b (rw (held_same n k e) at f)).1
held_within buf k b (ended n b₀ f h r e) = (read_inside b₀ n k b (filled_inside buf n b₀ f).1 r).1
held_within buf k b (failed n b₀ f h r e) = cc

pub whole_inside : (buf : List ℕ) (p : Option ℕ) (k : ℕ) (b : List ℕ) → p ≡ Some k → Whole buf p b → k ≤ length b
whole_inside buf p k b e w = held_within buf k b (rw e at w)

pub file_inside : (buf : List ℕ) (p : Option ℕ) (k : ℕ) (b : List ℕ) → p ≡ Some k → FileRead buf p b → k ≤ length b
file_inside buf p k b e r = go r.read
  where
    go : ReadIfOpen r.is_open buf p b → k ≤ length b
    go (unopened closed is same) = absurd (none-some k (sym is ∙ e))
    go (opened known w) = whole_inside buf p k b e w

-- and so for any piece
pub whole_within : (buf : List ℕ) (p : Option ℕ) (b : List ℕ) → Whole buf p b → FitsBuffer p (length b)
whole_within buf None b w = tt
whole_within buf (Some k) b w = whole_inside buf (Some k) k b refl w

pub file_within : (buf : List ℕ) (p : Option ℕ) (b : List ℕ) → FileRead buf p b → FitsBuffer p (length b)
file_within buf None b r = tt
file_within buf (Some k) b r = file_inside buf (Some k) k b refl r

pub held_fits : (p : Option ℕ) (k n : ℕ) → p ≡ Some k → FitsBuffer p n → k ≤ n
held_fits p k n e w = rw e at w

-- a read while there is room, after those that filled n bytes
module _ (buf b b' : List ℕ) (n : ℕ) (p : Option ℕ) (f : Filled buf n b) (room : n < length b) (r : Reads b n p b') where
  pub read_failed : (q : Option ℕ) → p ≡ None → q ≡ None → Whole buf q b'
  read_failed q e d = let same : p ≡ q = e ∙ sym d in failed n b f room (rw same at r) d

  module _ (k : ℕ) (e : p ≡ Some k) where
    pub nothing_brought : k ≡ n → Whole buf (Some k) b'
    nothing_brought is = ended n b f room (rw e at r) (ap Some is)

    further : (k ≡ n → ⊥) → n < k
    further other = let inside = read_inside b n k b' (omega arith) (rw e at r) in omega (arith, inside.0, other)

    pub more_brought : (k ≡ n → ⊥) → Filled buf k b'
    more_brought other = more n k b b' f room (rw e at r) (further other)

    pub less_room : (k ≡ n → ⊥) → length buf - k < length buf - n
    less_room other = omega (arith, further other, room, (filled_inside buf n b f).0)

pub read_length : (buf b b' : List ℕ) (n : ℕ) (p : Option ℕ) → Filled buf n b → Reads b n p b' → length b' ≡ length buf
read_length buf b b' n p f r = r.length_is ∙ (filled_inside buf n b f).0
