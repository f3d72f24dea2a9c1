-- Calls that only read a disk, or sync it, and what they leave of it. Inner: private functions cite it.
use Rattle.std.specs.Prelude.{◌≡◌, ℕ, List}
use Rattle.ic_disk.specs.Images.{Within}
use Rattle.ic_disk.specs.Time.{LeavesOnly}

-- The content stays, no image joins, and a crash at any moment leaves an image from before.
pub record OnlyReads {D : Type 0} (content : D → List ℕ) (image : D → List ℕ → Type 0)
    (clock : D → ℕ) (left : D → ℕ → List ℕ → Type 0) (old new : D) : Type 0 where
  pub same : content new ≡ content old
  pub images : Within (image new) (image old)
  pub leaves : LeavesOnly clock left old new (image old)
