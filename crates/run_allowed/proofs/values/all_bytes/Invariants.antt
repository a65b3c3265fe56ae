-- `all_bytes` meets its contract: at each turn the bytes passed and the bytes that are left all pass exactly where all bytes do.
use Prim.Native.Nat.{ℕ}
use mathlib.Core.Path.{◌≡◌}
use mathlib.Core.Bool.{Bool, ◌&&◌}
use lib.ListN.{drop}
use Rattle.base.specs.Lists.{all}
use Rattle.run_allowed.proofs.values.all_bytes.Given as goal

abbrev pub invariant-loop-b : goal.invariant-loop-b
invariant-loop-b g l =
    goal.F-IsAlwaysCallable g l.test
    × ((p : ℕ → Bool) → ((b : ℕ) (x : Bool) → goal.F-post g l.test b x → x ≡ p b) → (l.all && all p (drop l.b-index l.s)) ≡ all p l.s)
