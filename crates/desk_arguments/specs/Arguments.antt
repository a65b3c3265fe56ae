-- What reading an argument comes to.
use Rattle.std.specs.Prelude.{ℕ, ◌≡◌, Bool, true, false, List, take, Result, Ok, Err}
use Rattle.std.specs.Borrow.{Bor}
use Rattle.std.specs.declared.env.FillError.{FillError}
use Rattle.std.specs.declared.env.FillError.TheVariants.{NotPresent, TooLong}

-- An argument of n bytes is read as the first n of its buffer, and one that is not read is not made up
abbrev pub PartRead : Result ℕ FillError → List ℕ → Result (Bor (List ℕ)) FillError → Type 0
PartRead (Ok n) buf (Ok part) = part.now ≡ take n buf
PartRead (Ok n) buf (Err why) = ⊥
PartRead (Err cause) buf (Ok part) = ⊥
PartRead (Err cause) buf (Err why) = cause ≡ why

-- whether an argument was longer than its buffer
abbrev pub is_cut : Result (Bor (List ℕ)) FillError → Bool
is_cut (Ok part) = false
is_cut (Err NotPresent) = false
is_cut (Err TooLong) = true
