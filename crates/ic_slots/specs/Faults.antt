-- That a fault of the disk is told exactly where a failure was counted.
use Rattle.std.specs.Prelude.{◌≡◌, ℕ, Result, Ok, Err}
use Rattle.ic_disk.specs.Time.{OneMore}
use Rattle.ic_slots.specs.declared.fault.CreateFault.{CreateFault}
use Rattle.ic_slots.specs.declared.fault.CreateFault.TheVariants.{Device, Memory}

-- at `Device` one more failure is counted, and at any other answer none
abbrev pub CountsCreate : {T : Type 0} → Result T CreateFault → ℕ → ℕ → Type 0
CountsCreate (Ok value) old new = new ≡ old
CountsCreate (Err Device) old new = OneMore old new
CountsCreate (Err Memory) old new = new ≡ old
