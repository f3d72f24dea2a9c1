-- What an opening hands out.
use Rattle.std.specs.Prelude.{Result, Ok, Err}
use Rattle.ic_disk.specs.declared.disk.Disk.{Ghosts}
use Rattle.ic_frames.specs.declared.faults.OpenCause.{OpenCause}
use Rattle.ic_frames.specs.declared.faults.OpenFault.{OpenFault}
use Rattle.ic_book.specs.declared.book.Book.{Book}
use Rattle.ic_book.specs.Book.{disk_of}

-- the disk that is handed out, or back
abbrev pub disk_after : {D : Type 0} {ghosts : Ghosts D}
    → Result (Book D ghosts) (OpenFault D) → D
disk_after (Ok book) = disk_of book
disk_after (Err fault) = fault.disk

-- which refusal it was
abbrev pub outcome_of : {D : Type 0} {ghosts : Ghosts D}
    → Result (Book D ghosts) (OpenFault D) → Result (Book D ghosts) OpenCause
outcome_of (Ok book) = Ok book
outcome_of (Err fault) = Err fault.cause
