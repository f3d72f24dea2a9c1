-- What an opening leaves of a disk, and what a refusal says. This project's choice.
use Rattle.std.specs.Prelude.{◌≡◌, ℕ, Bool, List, Result, IsTrue, IsErrOf}
use Rattle.ic_disk.specs.Images.{Only}
use Rattle.ic_disk.specs.Time.{LeavesOnly}
use Rattle.ic_frames.specs.declared.faults.OpenCause.{OpenCause}
use Rattle.ic_frames.specs.declared.faults.OpenCause.TheVariants.{Device, NoSlot, TwoAlike, Damaged, Memory}
use Rattle.ic_frames.specs.Held.{Held, no_slot, two_alike, damaged}

-- what a refusal says of what is held
abbrev pub Answers : OpenCause → Held → Type 0
Answers NoSlot held = held ≡ no_slot
Answers TwoAlike held = held ≡ two_alike
Answers Damaged held = held ≡ damaged
Answers Device held = Unit {0}
Answers Memory held = Unit {0}

-- An opening changes nothing that reads give. A crash meanwhile leaves an image from before. Unless
-- a call failed, the content is then the only image.
pub record LeavesAsFound {D T : Type 0} (keeps_model : D → Bool) (content : D → List ℕ)
    (image : D → List ℕ → Type 0) (clock : D → ℕ) (left : D → ℕ → List ℕ → Type 0)
    (result : Result T OpenCause) (old new : D) : Type 0 where
  pub keeps : keeps_model new ≡ keeps_model old
  pub any_moment : IsTrue (keeps_model old) → LeavesOnly clock left old new (image old)
  pub same : IsTrue (keeps_model old) → content new ≡ content old
  pub synced : IsTrue (keeps_model old) → ¬ IsErrOf result Device → Only (content old) (image new)
