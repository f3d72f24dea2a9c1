-- For proofs: a file that is read twice while it is written, as one file that was read.
use Rattle.std.specs.Prelude.{◌≡◌, ◌+◌, ◌<◌, ◌≤◌, ℕ, List, true, length, slice_index}
use Rattle.ic_frames.specs.declared.frame.TheConstants.{HEAD}
use Rattle.ic_frames.specs.declared.slot.Slot.{Slot}
use Rattle.ic_frames.specs.declared.slot.Slot.TheVariants.{First, Second}
use Rattle.ic_frames.specs.Fields.{number, size, is_open, is_whole}
use Rattle.ic_frames.specs.Places.{place}

-- what was read of the head of a slot is that of the file
pub record IsHeadOf (slot : Slot) (read file : List ℕ) : Type 0 where
  pub opened : is_open (place slot) file ≡ is_open (place slot) read
  pub number_is : number (place slot) file ≡ number (place slot) read
  pub size_is : size (place slot) file ≡ size (place slot) read

-- a byte was read of the file
pub record IsByteOf (i : ℕ) (read file : List ℕ) : Type 0 where
  pub within : i < length file
  pub same : slice_index file i ≡ slice_index read i

-- each byte of a slot's body was read of the file at some moment between these, if that is whole
abbrev pub IsBodyAmid : Slot → (ℕ → List ℕ) → (from until : ℕ) → List ℕ → Type 0
IsBodyAmid slot at from until read = is_whole (place slot) read ≡ true
    → (k : ℕ) → k < size (place slot) read
    → (m : ℕ) × (from ≤ m) × (m ≤ until) × IsByteOf (place slot + HEAD + k) read (at m)

-- These bytes were read of a file, and the heads of its slots twice: each head at one moment each
-- time, and each body, where it is whole, byte by byte between the two times of its head.
pub record IsReadTwice (at : ℕ → List ℕ) (read : List ℕ) : Type 0 where
  pub first : ℕ
  pub second : ℕ
  pub first_again : ℕ
  pub second_again : ℕ
  pub in_order : (first ≤ second) × (second ≤ first_again) × (first_again ≤ second_again)
  pub first_head : IsHeadOf First read (at first)
  pub second_head : IsHeadOf Second read (at second)
  pub first_head_again : IsHeadOf First read (at first_again)
  pub second_head_again : IsHeadOf Second read (at second_again)
  pub first_body : IsBodyAmid First at first first_again read
  pub second_body : IsBodyAmid Second at second second_again read

-- they were, between these two moments
abbrev pub IsReadTwiceBetween : (ℕ → List ℕ) → (from until : ℕ) → List ℕ → Type 0
IsReadTwiceBetween at from until read =
    (twice : IsReadTwice at read) × (from ≤ twice.first) × (twice.second_again ≤ until)
