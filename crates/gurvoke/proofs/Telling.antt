-- A promise about an answer is one about any number that is the answer's.
use Prim.Native.Nat.{ℕ}
use mathlib.Core.Path.{◌≡◌}
use mathlib.Core.List.{List}
use Rattle.meaning.specs.Operations.{Offered}

pub offer_numbered : (t r : List ℕ) (time : ℕ) (goals : List ℕ) (n a : ℕ) (r' goals' : List ℕ) → n ≡ a → Offered t r time goals a r' goals' → Offered t r time goals n r' goals'
offer_numbered t r time goals n a r' goals' e o = rw e o
