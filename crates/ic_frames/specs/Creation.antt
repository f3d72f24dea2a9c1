-- What a stop leaves of writes that are made in turn, and which writes `create` makes.
-- This project's choice.
use Rattle.std.specs.Prelude.{◌≡◌, ◌⊎◌, ℕ, ◌+◌, ◌≤◌, List, [], ◌∷◌, length, replicate, slice_index, EachIndex}
use Rattle.ic_disk.specs.Content.{laid}
use Rattle.ic_disk.specs.Images.{Torn}
use Rattle.ic_disk.specs.Model.{Write}
use Rattle.ic_disk.specs.Time.{LeftSince}
use Rattle.ic_frames.specs.declared.frame.TheConstants.{HEAD}
use Rattle.ic_frames.specs.declared.slot.Slot.TheVariants.{First, Second}
use Rattle.ic_frames.specs.Layout.{after_gate}
use Rattle.ic_frames.specs.Places.{place}

-- a write has left any bytes in its range and past the old end
abbrev pub IsTornBy : Write → (old new : List ℕ) → Type 0
IsTornBy w old new = Torn w.at (length w.bytes) old new

-- A write is made in part, on a file system that fills up with zeros: each byte is the one from
-- before or the one after it. Past the end of a file there are zeros.
pub record IsMadeInPart (w : Write) (old new : List ℕ) : Type 0 where
  pub no_shorter : length old ≤ length new
  pub no_longer : length new ≤ length (laid w.at w.bytes old)
  pub each : EachIndex new (λ i. (slice_index new i ≡ slice_index old i)
      ⊎ (slice_index new i ≡ slice_index (laid w.at w.bytes old) i))

-- These writes are made in turn, each of them there to stay before the next begins, and one of them
-- has come to this file: the first from one of the images, the next from the content with the first,
-- and so on.
abbrev pub IsInOneOf : (comes : Write → (old new : List ℕ) → Type 0) → List Write
    → (content : List ℕ) → (images : List ℕ → Type 0) → List ℕ → Type 0
IsInOneOf comes [] content images file = ⊥
IsInOneOf comes (w ∷ ws) content images file =
    ((image : List ℕ) × images image × comes w image file)
    ⊎ IsInOneOf comes ws (laid w.at w.bytes content) (λ f. f ≡ laid w.at w.bytes content) file

-- Each of these writes is there to stay after two calls: what a crash leaves from then on is in one
-- of those after it, and in the end it has all of them.
abbrev pub KeepPace : (left : ℕ → List ℕ → Type 0) → ℕ → List Write
    → (content : List ℕ) → (images : List ℕ → Type 0) → Type 0
KeepPace left t [] content images = (file : List ℕ) → LeftSince left t file → images file
KeepPace left t (w ∷ ws) content images =
    ((file : List ℕ) → LeftSince left t file → IsInOneOf IsTornBy (w ∷ ws) content images file)
    × KeepPace left (t + 2) ws (laid w.at w.bytes content) (λ f. f ≡ laid w.at w.bytes content)

-- what `create` writes, in this order: a closed head in the second slot, the first slot with its
-- gate closed as yet, and that gate as open
abbrev pub writes_of_create : (body : List ℕ) → List Write
writes_of_create body =
    record { at = place Second; bytes = replicate HEAD 0 }
    ∷ record { at = place First; bytes = 0 ∷ after_gate 1 body }
    ∷ record { at = place First; bytes = 1 ∷ [] }
    ∷ []
