-- The plain picture of a disk: what a crash may leave while ranges are pending
-- (this project's choice).
use Rattle.std.specs.Prelude.{◌≡◌, ◌⊎◌, ℕ, ◌+◌, ◌<◌, ◌≤◌, List, [], ◌∷◌, length, slice_index}
use Rattle.ic_disk.specs.Content.{laid}
use Rattle.ic_disk.specs.Images.{Torn, TornFrom}

-- n bytes from a place on
pub record Range : Type 0 where
  pub at : ℕ
  pub size : ℕ

-- a place in none of the ranges
abbrev pub IsOutside : List Range → ℕ → Type 0
IsOutside [] i = Unit {0}
IsOutside (range ∷ ranges) i = ((i < range.at) ⊎ (range.at + range.size ≤ i)) × IsOutside ranges i

-- no shorter than the old file, and the same in it outside the ranges; any bytes elsewhere
pub record AgreesOutside (ranges : List Range) (old new : List ℕ) : Type 0 where
  pub no_shorter : length old ≤ length new
  pub same : (i : ℕ) → i < length old → IsOutside ranges i → slice_index new i ≡ slice_index old i

-- the same as one of these files outside the ranges
abbrev pub AgreesWithAny : List Range → (List ℕ → Type 0) → List ℕ → Type 0
AgreesWithAny ranges files new = (old : List ℕ) × files old × AgreesOutside ranges old new

-- n bytes from one place on
abbrev pub one_range : (at n : ℕ) → List Range
one_range at n = record { at = at; size = n } ∷ []

-- n bytes from one place on, and m from another
abbrev pub two_ranges : (at n other m : ℕ) → List Range
two_ranges at n other m = record { at = at; size = n } ∷ record { at = other; size = m } ∷ []

-- What a crash may leave where `synced` is on the disk and these ranges are pending.
pub record IsImage (synced : List ℕ) (pending : List Range) (left : List ℕ) : Type 0 where
  pub agrees : AgreesOutside pending synced left
  pub nothing_pending : pending ≡ [] → left ≡ synced

-- One of the images torn by a write of these bytes, or the content with them laid over it, torn by
-- a second write, of m bytes.
abbrev pub TornInTurn : (at : ℕ) (bytes : List ℕ) (other m : ℕ) (content : List ℕ)
    → (List ℕ → Type 0) → List ℕ → Type 0
TornInTurn at bytes other m content images file =
    TornFrom at (length bytes) images file ⊎ Torn other m (laid at bytes content) file
