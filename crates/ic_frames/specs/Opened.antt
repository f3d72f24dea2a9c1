-- What an opening hands out.
use Rattle.std.specs.Prelude.{◌≡◌, ℕ, true, false, List, Result, Ok, Err}
use Rattle.ic_disk.specs.declared.disk.Disk.{Ghosts}
use Rattle.ic_frames.specs.declared.opened.Opened.{Opened}
use Rattle.ic_frames.specs.declared.faults.OpenCause.{OpenCause}
use Rattle.ic_frames.specs.declared.faults.OpenFault.{OpenFault}
use Rattle.ic_frames.specs.declared.frames.Frames.{Frames}
use Rattle.ic_frames.specs.Places.{place, other}
use Rattle.ic_frames.specs.Fields.{number, is_open}
use Rattle.ic_frames.specs.Held.{HasBody, IsNewest}
use Rattle.ic_frames.specs.Frames.{disk_of, content_of, target_of, number_of, is_closed, EachImage}

-- the disk that is handed out, or back
abbrev pub disk_after : {D : Type 0} {ghosts : Ghosts D}
    → Result (Opened D ghosts) (OpenFault D) → D
disk_after (Ok opened) = disk_of opened.frames
disk_after (Err fault) = fault.disk

-- which refusal it was
abbrev pub outcome_of : {D : Type 0} {ghosts : Ghosts D}
    → Result (Opened D ghosts) (OpenFault D) → Result (Opened D ghosts) OpenCause
outcome_of (Ok opened) = Ok opened
outcome_of (Err fault) = Err fault.cause

-- Reads give this body, and each image has it, made or not.
pub record KeepsOneBody {D : Type 0} {ghosts : Ghosts D} (frames : Frames D ghosts) : Type 0 where
  pub kept : List ℕ
  pub held : HasBody kept (content_of frames)
  pub images : EachImage frames (HasBody kept)

-- The slot beside the one that is written next is the newest of this file, with this number, and
-- the other is taken for closed exactly where it is closed.
pub record IsOnNewest {D : Type 0} {ghosts : Ghosts D} (frames : Frames D ghosts) (file : List ℕ)
    : Type 0 where
  pub newest : IsNewest (other (target_of frames)) file
  pub number_is : number (place (other (target_of frames))) file ≡ number_of frames
  pub shut : is_closed frames ≡ true → is_open (place (target_of frames)) file ≡ false
  pub opened : is_closed frames ≡ false → is_open (place (target_of frames)) file ≡ true
