-- What the bytes of a file say: a gate of one byte, a number of eight, the length of the state in eight, and the state.
-- The numbers are big endian. This project's choice.
use Rattle.std.specs.Prelude.{◌≡◌, ℕ, ◌+◌, ◌≤◌, ◌<◌, Bool, true, false, List, length, slice_index}
use Rattle.std.specs.Int.{w64, from_be_bytes}
use Rattle.ic_disk.specs.Content.{bytes_at}
use Rattle.ic_kept.specs.declared.head.TheConstants.{HEAD}

-- the gate, which is open if it is 1
abbrev pub gate : List ℕ → ℕ
gate file = slice_index file 0

-- the number
unfoldable pub number : List ℕ → ℕ
number file = from_be_bytes w64 (bytes_at 1 8 file)

-- the length of the state
unfoldable pub size : List ℕ → ℕ
size file = from_be_bytes w64 (bytes_at 9 8 file)

-- the file has a gate, a number and a length
abbrev pub IsMade : List ℕ → Type 0
IsMade file = HEAD ≤ length file

-- This number and this state stand in the file, whole, whatever the gate is.
pub record IsAfterGate (n : ℕ) (state file : List ℕ) : Type 0 where
  pub number_is : number file ≡ n
  pub size_is : size file ≡ length state
  pub within : HEAD + length state ≤ length file
  pub state_is : bytes_at HEAD (length state) file ≡ state

-- the gate is open before them
pub record IsNewest (n : ℕ) (state file : List ℕ) : Type 0 where
  pub opened : gate file ≡ 1
  pub after : IsAfterGate n state file

-- the gate isn't open
pub record IsShut (file : List ℕ) : Type 0 where
  pub made : IsMade file
  pub shut : ¬ (gate file ≡ 1)

-- the number is below this one, whatever the gate is
pub record IsBelow (n : ℕ) (file : List ℕ) : Type 0 where
  pub made : IsMade file
  pub below : number file < n

-- the gate is closed for good, or the number is below this one
abbrev pub IsBeside : (closed : Bool) → ℕ → List ℕ → Type 0
IsBeside true n file = IsShut file
IsBeside false n file = IsBelow n file

-- the gate isn't open, or it is before a number below this one
pub record IsOlder (n : ℕ) (file : List ℕ) : Type 0 where
  pub made : IsMade file
  pub older : gate file ≡ 1 → number file < n
