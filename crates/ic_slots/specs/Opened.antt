-- What an opening hands out.
use Rattle.std.specs.Prelude.{Result, Ok, Err}
use Rattle.ic_disk.specs.declared.disk.Disk.{Ghosts}
use Rattle.ic_frames.specs.declared.faults.OpenCause.{OpenCause}
use Rattle.ic_frames.specs.declared.faults.OpenFault.{OpenFault}
use Rattle.ic_slots.specs.declared.keeper.Keeper.{Keeper}
use Rattle.ic_slots.specs.Keeper.{disk_of}

-- the disk that is handed out, or back
abbrev pub disk_after : {D T : Type 0} {ghosts : Ghosts D}
    → Result (Keeper D ghosts × T) (OpenFault D) → D
disk_after (Ok opened) = disk_of opened.0
disk_after (Err fault) = fault.disk

-- which refusal it was
abbrev pub outcome_of : {D T : Type 0} {ghosts : Ghosts D}
    → Result (Keeper D ghosts × T) (OpenFault D) → Result (Keeper D ghosts × T) OpenCause
outcome_of (Ok opened) = Ok opened
outcome_of (Err fault) = Err fault.cause
