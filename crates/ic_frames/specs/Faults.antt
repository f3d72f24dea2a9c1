-- That a fault of the disk is told exactly where a failure was counted.
use Rattle.std.specs.Prelude.{◌≡◌, ℕ, Result, Ok, Err}
use Rattle.ic_disk.specs.Time.{OneMore}
use Rattle.ic_frames.specs.declared.faults.KeepFault.{KeepFault}
use Rattle.ic_frames.specs.declared.faults.KeepFault.TheVariants.{Broken, Worn}
use Rattle.ic_frames.specs.declared.faults.KeepFault.TheVariants.{Device as KeepDevice}
use Rattle.ic_frames.specs.declared.faults.OpenCause.{OpenCause}
use Rattle.ic_frames.specs.declared.faults.OpenCause.TheVariants.{NoSlot, TwoAlike, Damaged, Memory}
use Rattle.ic_frames.specs.declared.faults.OpenCause.TheVariants.{Device as OpenDevice}

-- at `Device` one more failure is counted, and at any other answer none
abbrev pub CountsKeep : {T : Type 0} → Result T KeepFault → ℕ → ℕ → Type 0
CountsKeep (Ok value) old new = new ≡ old
CountsKeep (Err KeepDevice) old new = OneMore old new
CountsKeep (Err Broken) old new = new ≡ old
CountsKeep (Err Worn) old new = new ≡ old

abbrev pub CountsOpen : {T : Type 0} → Result T OpenCause → ℕ → ℕ → Type 0
CountsOpen (Ok value) old new = new ≡ old
CountsOpen (Err OpenDevice) old new = OneMore old new
CountsOpen (Err NoSlot) old new = new ≡ old
CountsOpen (Err TwoAlike) old new = new ≡ old
CountsOpen (Err Damaged) old new = new ≡ old
CountsOpen (Err Memory) old new = new ≡ old
