-- What reads come to: how many bytes a buffer holds then, and nothing where a read failed.
use Rattle.std.specs.Prelude.{ℕ, ◌+◌, ◌-◌, ◌<◌, ◌≤◌, min, ◌≡◌, Bool, true, false, List, length, take, Option, Some, None}

-- what a read comes to, after n bytes and with so much room: nothing where it failed, and else by how many bytes came
unfoldable pub piece_of : Option ℕ → ℕ → ℕ → Option ℕ
piece_of (Some k) n room = Some (n + min k room)
piece_of None n room = None

-- one read into the bytes from place n on: some number came, or it failed, and the bytes before place n stay
pub record Reads (buf : List ℕ) (n : ℕ) (piece : Option ℕ) (buf' : List ℕ) : Type 0 where
  pub got : Option ℕ
  pub piece_is : piece ≡ piece_of got n (length buf - n)
  pub kept : take n buf' ≡ take n buf
  pub length_is : length buf' ≡ length buf

-- reads that each brought something, while there was room: n bytes by now
pub data Filled (buf : List ℕ) : ℕ → List ℕ → Type 0 where
  none : Filled buf 0 buf
  more : (n k : ℕ) (b b' : List ℕ) → Filled buf n b → n < length b → Reads b n (Some k) b' → n < k → Filled buf k b'

-- reads until the buffer is full, or one brings nothing or fails
pub data Whole (buf : List ℕ) (piece : Option ℕ) (buf' : List ℕ) : Type 0 where
  full : (n : ℕ) → Filled buf n buf' → n ≡ length buf' → piece ≡ Some n → Whole buf piece buf'
  ended : (n : ℕ) (b : List ℕ) → Filled buf n b → n < length b → Reads b n piece buf' → piece ≡ Some n → Whole buf piece buf'
  failed : (n : ℕ) (b : List ℕ) → Filled buf n b → n < length b → Reads b n piece buf' → piece ≡ None → Whole buf piece buf'

-- a file that is open is read, and of one that is not nothing is
pub data ReadIfOpen (is_open : Bool) (buf : List ℕ) (piece : Option ℕ) (buf' : List ℕ) : Type 0 where
  unopened : is_open ≡ false → piece ≡ None → buf' ≡ buf → ReadIfOpen is_open buf piece buf'
  opened : is_open ≡ true → Whole buf piece buf' → ReadIfOpen is_open buf piece buf'

-- a file that is opened, or not, and read
pub record FileRead (buf : List ℕ) (piece : Option ℕ) (buf' : List ℕ) : Type 0 where
  pub is_open : Bool
  pub read : ReadIfOpen is_open buf piece buf'

-- what a read holds lies within a buffer of so many bytes
abbrev pub FitsBuffer : Option ℕ → ℕ → Type 0
FitsBuffer None n = Unit {0}
FitsBuffer (Some k) n = k ≤ n
