-- What an opening leaves of the two disks. This project's choice.
use Rattle.std.specs.Prelude.{◌≡◌, ◌⊎◌, ℕ, Bool, List, Result, Ok, Err}
use Rattle.ic_disk.specs.Images.{Within}
use Rattle.ic_disk.specs.Time.{LeavesOnly}
use Rattle.ic_kept.specs.declared.keeper.Keeper.{Keeper}
use Rattle.ic_kept.specs.declared.keeper.OpenFault.{OpenFault}
use Rattle.ic_kept.specs.Keeper.{newest_of, other_of}

-- The disk keeps the model if it did. The content stays, no image joins, and a crash at any moment leaves an image from
-- before.
pub record OnlyReads {D : Type 0} (keeps_model : D → Bool) (content : D → List ℕ)
    (image : D → List ℕ → Type 0) (clock : D → ℕ) (left : D → ℕ → List ℕ → Type 0) (old new : D)
    : Type 0 where
  pub keeps : keeps_model new ≡ keeps_model old
  pub same : content new ≡ content old
  pub images : Within (image new) (image old)
  pub leaves : LeavesOnly clock left old new (image old)

-- a relation from two disks to two others, in either order
abbrev pub InSomeOrder : {D : Type 0} → (D → D → Type 0) → (first second one other : D) → Type 0
InSomeOrder R first second one other =
    (R first one × R second other) ⊎ (R first other × R second one)

-- a relation of the disks from before to those that are handed out, whichever of them is the newest, or back
abbrev pub Relates : {D T : Type 0} → (D → D → Type 0)
    → Result (Keeper D × T) (OpenFault D) → (first second : D) → Type 0
Relates R (Ok opened) first second =
    InSomeOrder R first second (newest_of opened.0) (other_of opened.0)
Relates R (Err fault) first second = R first fault.first × R second fault.second
