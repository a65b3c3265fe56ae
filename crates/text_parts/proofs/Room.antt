-- Room for a part: bytes moved up one by one, the last first, as far as the buffer goes.
use Prim.Native.Nat.{ℕ, suc, ◌+◌, ◌-◌, ◌<◌, ◌≤◌}
use mathlib.Core.Path.{◌≡◌, refl, sym, ◌∙◌}
use mathlib.Core.Logic.{inl}
use mathlib.Core.List.{List, ◌++◌}
use native.Mathlib.Omega.{arith}
use lib.ListN.{length, get_or, set, length-append}
use lib.Seq.{sets, length-sets}
use Rattle.base.specs.Lists.{bytes_at}
use Rattle.base.proofs.Stores.{sets-append, set_before, sets_swap, sets_out, sets_cover, sets_bytes_cut, sets_again, get_or-sets_out}
use Rattle.text_parts.specs.Stored.{part_length, moved_up}

-- The loop: b is what b₀ has become when the bytes from place i on are moved
pub record Moving (b₀ : List ℕ) (from to : ℕ) (b : List ℕ) (i : ℕ) : Type 0 where
  pub as_long : length b ≡ length b₀
  pub not_below : from ≤ i
  pub not_above : i ≤ to
  pub moved : b ≡ moved_up b₀ i to

module _ (b₀ : List ℕ) (from to : ℕ) where
  pub move_starts : from ≤ to → Moving b₀ from to b₀ to
  move_starts h =
      let none : to - to ≡ 0 = omega arith in
      record { as_long = refl; not_below = h; not_above = omega arith; moved = rw none }

  module _ (b : List ℕ) (i : ℕ) (moving : Moving b₀ from to b i) where
    -- byte j, which the stores so far have left alone, is stored before them
    pub move_step : (b' : List ℕ) (j x : ℕ) → from < i → i ≡ suc j → x ≡ get_or b j 0 → b' ≡ set b (j + part_length) x → length b' ≡ length b → Moving b₀ from to b' j
    move_step b' j x h i-is x-is b'-is kept =
        let bytes : List ℕ = bytes_at b₀ i (to - i) in
        let next : i + part_length ≡ suc (j + part_length) = omega arith in
        let one_more : to - j ≡ suc (to - i) = omega arith in
        let as_before : x ≡ get_or b₀ j 0 = x-is ∙ rw moving.moved (get_or-sets_out bytes b₀ (i + part_length) j (inl (omega arith))) in
        record {
          as_long = kept ∙ moving.as_long;
          not_below = omega arith;
          not_above = omega arith;
          moved = b'-is ∙ rw (moving.moved, set_before b₀ (j + part_length) (i + part_length) x bytes (omega arith), next, one_more, ← i-is, as_before);
        }

    pub move_ends : i ≤ from → b ≡ moved_up b₀ from to
    move_ends h = let all_moved : from ≡ i = omega arith in rw all_moved moving.moved

-- Where no part is there is nothing to move, and beyond the end nothing and nowhere
pub no_part_moved : (b : List ℕ) (from to : ℕ) → to ≤ from → b ≡ moved_up b from to
no_part_moved b from to h = let none : to - from ≡ 0 = omega arith in rw none

pub none_moved : (b : List ℕ) (from to : ℕ) → length b ≤ from → b ≡ moved_up b from to
none_moved b from to h = sym (sets_out b (from + part_length) (bytes_at b from (to - from)) (omega arith))

pub moved_to_the_end : (b b' : List ℕ) (from to : ℕ) → length b ≤ to → b' ≡ moved_up b from (length b) → b' ≡ moved_up b from to
moved_to_the_end b b' from to h b'-is = b'-is ∙ sets_bytes_cut b b from (from + part_length) (length b - from) (to - from) (omega arith) (omega arith)

-- A part's bytes ps put into the room before xs, all or as far as the buffer goes
pub room_filled : (b₀ b b₁ b' ps xs : List ℕ) (from to : ℕ) → b ≡ sets b₀ from xs → length xs ≡ to - from → b₁ ≡ moved_up b from to → length ps ≡ part_length → b' ≡ sets b₁ from ps → b' ≡ sets b₀ from (ps ++ xs)
room_filled b₀ b b₁ b' ps xs from to b-is xs-long b₁_is ps-long b'-is =
    let room : from + length ps ≡ from + part_length = rw ps-long in
    b'-is ∙ rw (b₁_is, b-is, ← xs-long)
    (sets_swap (sets b₀ from xs) from (from + part_length) ps (bytes_at (sets b₀ from xs) from (length xs)) (omega arith)
    ∙ sets_again (sets (sets b₀ from xs) from ps) b₀ from (from + part_length) xs (omega arith) (simp length-sets (omega arith))
    ∙ sets-append (sets b₀ from xs) from (from + part_length) ps xs room
    ∙ sets_cover b₀ from xs (ps ++ xs) (omega (arith, length-append ps xs)))
