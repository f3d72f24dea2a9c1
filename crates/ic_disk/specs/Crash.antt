-- Which of its images the disk in memory takes at a crash.
-- This project's choice.
use Rattle.std.specs.Prelude.{◌≡◌, ◌⊎◌, ℕ, ◌+◌, ◌-◌, ◌<◌, ◌≤◌, List, [], ◌∷◌, length, slice_index, map, take}
use Rattle.ic_disk.specs.Content.{laid}
use Rattle.ic_disk.specs.PlainImages.{Range, IsOutside}
use Rattle.ic_disk.specs.Model.{Write, State, range_of}
use Rattle.ic_disk.specs.declared.mem.Choice.{Choice}
use Rattle.ic_disk.specs.declared.mem.Choice.TheVariants.{Synced, Written, Fill, Front}

-- a place in one of the ranges
abbrev pub IsInside : List Range → ℕ → Type 0
IsInside [] i = ⊥
IsInside (range ∷ ranges) i = ((range.at ≤ i) × (i < range.at + range.size)) ⊎ IsInside ranges i

-- the content, with this byte at each pending place and at each place past the synced end
pub record IsFilled (byte : ℕ) (s : State) (left : List ℕ) : Type 0 where
  pub as_long : length left ≡ length s.content
  pub kept : (i : ℕ) → i < length s.synced → IsOutside (map range_of s.pending) i
      → slice_index left i ≡ slice_index s.content i
  pub pending : (i : ℕ) → i < length s.content → IsInside (map range_of s.pending) i
      → slice_index left i ≡ byte
  pub past : (i : ℕ) → i < length s.content → length s.synced ≤ i → slice_index left i ≡ byte

-- the file after these bytes were written to it; where there are none, no write was begun
abbrev pub after_bytes : ℕ → List ℕ → List ℕ → List ℕ
after_bytes at [] file = file
after_bytes at (byte ∷ bytes) file = laid at (byte ∷ bytes) file

-- the file with the first n bytes of all these writes, in order, laid over it
abbrev pub fronted : ℕ → List Write → List ℕ → List ℕ
fronted n [] file = file
fronted n (w ∷ ws) file = fronted (n - length w.bytes) ws (after_bytes w.at (take n w.bytes) file)

-- what the crash leaves
abbrev pub Takes : Choice → State → List ℕ → Type 0
Takes Synced s left = left ≡ s.synced
Takes Written s left = left ≡ s.content
Takes (Fill byte) s left = IsFilled byte s left
Takes (Front n) s left = left ≡ fronted n s.pending s.synced
