-- One tree, decided by counting: what the code computes, which proofs/Counting.antt joins to `trees`.
use Rattle.std.specs.Prelude.{ℕ, ◌+◌, ◌-◌, Bool, not, ◌&&◌, List, [], ◌∷◌, eqb}
use Rattle.meaning.specs.declared.Entry.{Entry}
use Rattle.meaning.specs.Program.{arity_of}

-- the entries form exactly so many trees
unfoldable pub fills : List Entry → ℕ → Bool
fills [] remaining = eqb remaining 0
fills (e ∷ es) remaining = not (eqb remaining 0) && fills es (remaining - 1 + arity_of e)
