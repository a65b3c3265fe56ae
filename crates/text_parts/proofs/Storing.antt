-- A number as a byte.
use Prim.Native.Nat.{ℕ, ◌<◌}
use mathlib.Core.Path.{◌≡◌}
use borrow.Author.Tests.{lt-ltb, le-ltb}
use native.Mathlib.Omega.{arith}
use Rattle.std.specs.Prelude.{Result, Ok, Err, OkIff}
use Rattle.std.specs.Result.{result_unwrap_or}
use Rattle.meaning.specs.Sizes.{byte_values}
use Rattle.text_parts.specs.Stored.{clamped}

-- what a byte holds, and the largest byte for what none holds
pub clamped_lem : {E : Type 0} (x : ℕ) (r : Result ℕ E) → OkIff r (x < byte_values) x → result_unwrap_or r 255 ≡ clamped x
unfolding clamped
clamped_lem x (Ok b) held = rw (held.1, lt-ltb x byte_values held.0)
clamped_lem x (Err e) large = rw (le-ltb x byte_values (omega (arith, large)))
