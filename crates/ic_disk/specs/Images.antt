-- What a crash may leave of a disk, as tests on lists of bytes (this project's choice).
use Rattle.std.specs.Prelude.{◌≡◌, ◌⊎◌, ℕ, ◌+◌, ◌<◌, ◌≤◌, List, length, slice_index}

-- A write of n bytes at a place has torn the old file: any bytes there and past its end, the same
-- elsewhere.
pub record Torn (at n : ℕ) (old new : List ℕ) : Type 0 where
  pub no_shorter : length old ≤ length new
  pub before : (i : ℕ) → i < length old → i < at → slice_index new i ≡ slice_index old i
  pub after : (i : ℕ) → i < length old → at + n ≤ i → slice_index new i ≡ slice_index old i

-- one of the images, torn by a write of n bytes at a place
abbrev pub TornFrom : ℕ → ℕ → (List ℕ → Type 0) → List ℕ → Type 0
TornFrom at n images file = (image : List ℕ) × images image × Torn at n image file

-- each of the former images is one of the latter
abbrev pub Within : (List ℕ → Type 0) → (List ℕ → Type 0) → Type 0
Within images others = (file : List ℕ) → images file → others file

-- there is no other image than this file
pub record Only (file : List ℕ) (images : List ℕ → Type 0) : Type 0 where
  pub no_other : (other : List ℕ) → images other → other ≡ file

-- A call that failed has changed nothing, or each old image, torn in any way, is an image now.
abbrev pub StaysOrTears : (at n : ℕ) (content new_content : List ℕ)
    (images new_images : List ℕ → Type 0) → Type 0
StaysOrTears at n content new_content images new_images =
    ((new_content ≡ content) × Within new_images images) ⊎ Within (TornFrom at n images) new_images
