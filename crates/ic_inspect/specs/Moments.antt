-- A file that a server writes while it is read, as it is at each moment (this
-- project's choice).
use Rattle.std.specs.Prelude.{◌≡◌, ◌⊎◌, ◌+◌, ◌<◌, ◌≤◌, ℕ, List, true, false, length, slice_index}
use Rattle.ic_frames.specs.declared.frame.TheConstants.{HEAD}
use Rattle.ic_frames.specs.declared.slot.Slot.{Slot}
use Rattle.ic_frames.specs.declared.slot.Slot.TheVariants.{First, Second}
use Rattle.ic_frames.specs.Fields.{number, size, body, is_open, is_whole}
use Rattle.ic_frames.specs.Held.{IsNewest}
use Rattle.ic_frames.specs.Places.{place, other}

-- two files have the same slot
pub record IsSameSlot (slot : Slot) (old new : List ℕ) : Type 0 where
  pub opened : is_open (place slot) new ≡ is_open (place slot) old
  pub number_is : number (place slot) new ≡ number (place slot) old
  pub size_is : size (place slot) new ≡ size (place slot) old
  pub whole_is : is_whole (place slot) new ≡ is_whole (place slot) old
  pub body_is : body (place slot) new ≡ body (place slot) old

-- a slot that was closed is open, with a number above that of the newest one
pub record OpensAbove (slot : Slot) (old new : List ℕ) : Type 0 where
  pub shut : is_open (place slot) old ≡ false
  pub above : number (place (other slot)) old < number (place slot) new

-- One step of a server: its newest slot stays the same, and the one beside it is closed then,
-- whatever else it has, or is the same, or was closed and is opened with a greater number.
pub record IsServerStep (old new : List ℕ) : Type 0 where
  pub newest : Slot
  pub is_newest : IsNewest newest old
  pub stays : IsSameSlot newest old new
  pub beside : (is_open (place (other newest)) new ≡ false)
      ⊎ (IsSameSlot (other newest) old new ⊎ OpensAbove (other newest) old new)

-- a slot is the newest of a file, and its body is whole
pub record IsWholeNewest (slot : Slot) (file : List ℕ) : Type 0 where
  pub is_newest : IsNewest slot file
  pub whole : is_whole (place slot) file ≡ true

-- a file over time, as a server writes it
abbrev pub IsServed : (ℕ → List ℕ) → Type 0
IsServed at = (i : ℕ) → IsServerStep (at i) (at (i + 1))

-- what was read from a slot's place on begins with the head of this slot in the file
pub record IsHeadRead (slot : Slot) (bytes file : List ℕ) : Type 0 where
  pub opened : is_open (place slot) file ≡ is_open 0 bytes
  pub number_is : number (place slot) file ≡ number 0 bytes
  pub size_is : size (place slot) file ≡ size 0 bytes

-- each byte of its body was read of the file at some moment between these, if that is whole
abbrev pub IsBodyRead : Slot → (ℕ → List ℕ) → (from until : ℕ) → List ℕ → Type 0
IsBodyRead slot at from until bytes = is_whole 0 bytes ≡ true → (k : ℕ) → k < size 0 bytes
    → (m : ℕ) × (from ≤ m) × (m ≤ until) × (place slot + HEAD + k < length (at m))
    × (slice_index (at m) (place slot + HEAD + k) ≡ slice_index bytes (HEAD + k))

-- These bytes were read from the places of the two slots on between two moments: the head of each
-- slot at one moment, and that of the first slot first.
pub record AreHeadsRead (at : ℕ → List ℕ) (from until : ℕ) (one two : List ℕ) : Type 0 where
  pub first : ℕ
  pub second : ℕ
  pub in_order : (from ≤ first) × (first ≤ second) × (second ≤ until)
  pub first_head : IsHeadRead First one (at first)
  pub second_head : IsHeadRead Second two (at second)

-- their bodies were read too, byte by byte, each after its head
pub record AreSlotsRead (at : ℕ → List ℕ) (from until : ℕ) (one two : List ℕ) : Type 0 where
  pub heads : AreHeadsRead at from until one two
  pub first_body : IsBodyRead First at heads.first until one
  pub second_body : IsBodyRead Second at heads.second until two
