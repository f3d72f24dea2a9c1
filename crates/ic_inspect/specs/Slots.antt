-- What is read of the two slots of a file (this project's choice).
use Rattle.std.specs.Prelude.{◌≡◌, ◌⊎◌, ◌≤◌, ℕ, ◌+◌, List, [], ◌∷◌, ◌++◌, Bool, true, false, ◌&&◌, Option, None, Some, length, nat_le, take, if◌then◌else◌}
use Rattle.std.specs.Io.KnownBytes.{Consumes}
use Rattle.ic_disk.specs.Content.{filled_to}
use Rattle.ic_frames.specs.declared.frame.TheConstants.{HEAD, MAX_BODY}
use Rattle.ic_frames.specs.declared.slot.TheConstants.{SECOND_AT}
use Rattle.ic_frames.specs.Fields.{size}

-- How many bytes of a slot's body are read, of the bytes from its place on: as many as its head
-- tells. None are read where the head is cut off or tells too many.
abbrev pub body_room : List ℕ → ℕ
body_room bytes =
    if nat_le HEAD (length bytes) && nat_le (size 0 bytes) MAX_BODY then size 0 bytes else 0

-- what is read of a slot, of the bytes from its place on: its head and these
abbrev pub slot_read : List ℕ → List ℕ
slot_read bytes = take (HEAD + body_room bytes) bytes

-- the file that has these bytes at the places of its two slots, with zeros between, as far as it is
-- looked at; where nothing was read of the second slot it ends before that
abbrev pub file_of : (first second : List ℕ) → List ℕ
file_of first [] = take SECOND_AT first
file_of first (b ∷ bs) = take SECOND_AT (filled_to SECOND_AT first) ++ b ∷ bs

-- they may be of one file: one that ends within its first slot has no second one
abbrev pub is_one_file : (first second : List ℕ) → Bool
is_one_file first [] = true
is_one_file first (b ∷ bs) = nat_le (HEAD + body_room first) (length first)

-- no more than so many bytes are taken from a reader
abbrev pub TakesAtMost : ℕ → Option (List ℕ) → Option (List ℕ) → Type 0
TakesAtMost n old new = (bytes : List ℕ) × Consumes old new bytes × (length bytes ≤ n)

-- this was read of a slot, from the place of which on a reader has its bytes
abbrev pub IsSlotOf : List ℕ → Option (List ℕ) → Type 0
IsSlotOf bytes None = Unit {0}
IsSlotOf bytes (Some all) = bytes ≡ slot_read all

-- a reader has the same head of a slot as these bytes
abbrev pub HasHead : List ℕ → Option (List ℕ) → Type 0
HasHead bytes None = Unit {0}
HasHead bytes (Some all) = take HEAD bytes ≡ take HEAD all

-- it has another one
abbrev pub HasOtherHead : List ℕ → Option (List ℕ) → Type 0
HasOtherHead bytes None = Unit {0}
HasOtherHead bytes (Some all) = ¬ (take HEAD bytes ≡ take HEAD all)

-- The slots of a file have changed: a second reading gives another head of one of them, or the file
-- ended within the first one, and had the second one later.
abbrev pub HaveChanged : (first second : List ℕ) → (first_again second_again : Option (List ℕ))
    → Type 0
HaveChanged first second first_again second_again = HasOtherHead first first_again
    ⊎ (HasOtherHead second second_again ⊎ (is_one_file first second ≡ false))
