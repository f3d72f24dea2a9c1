-- What the bytes of a slot say: a gate of one byte, a number of eight, the length of the body in
-- four, and the body. The numbers are big endian. This project's choice.
use Rattle.std.specs.Prelude.{ℕ, ◌+◌, ◌==◌, ◌≤◌, Bool, ◌&&◌, nat_le, List, length, slice_index}
use Rattle.std.specs.Int.{w32, w64, from_be_bytes}
use Rattle.ic_disk.specs.Content.{bytes_at}
use Rattle.ic_frames.specs.declared.frame.TheConstants.{HEAD, MAX_BODY}
use Rattle.ic_frames.specs.declared.slot.TheConstants.{SECOND_AT}

-- the gate of the slot that begins at this place
abbrev pub gate : ℕ → List ℕ → ℕ
gate at file = slice_index file at

-- its number
unfoldable pub number : ℕ → List ℕ → ℕ
number at file = from_be_bytes w64 (bytes_at (at + 1) 8 file)

-- the length of its body
unfoldable pub size : ℕ → List ℕ → ℕ
size at file = from_be_bytes w32 (bytes_at (at + 9) 4 file)

-- its body
unfoldable pub body : ℕ → List ℕ → List ℕ
body at file = bytes_at (at + HEAD) (size at file) file

-- its head, of `HEAD` bytes, lies within the file, and its gate is 1
unfoldable pub is_open : ℕ → List ℕ → Bool
is_open at file = nat_le (at + HEAD) (length file) && (gate at file == 1)

-- its body is no longer than a body may be, and lies within the file
unfoldable pub is_whole : ℕ → List ℕ → Bool
is_whole at file = nat_le (size at file) MAX_BODY && nat_le (at + HEAD + size at file) (length file)

-- both heads lie within the file
abbrev pub IsMade : List ℕ → Type 0
IsMade file = SECOND_AT + HEAD ≤ length file
