-- What a refusal to open a disk says. This project's choice.
use Rattle.std.specs.Prelude.{ℕ, List}
use Rattle.ic_frames.specs.declared.faults.OpenCause.{OpenCause}
use Rattle.ic_frames.specs.declared.faults.OpenCause.TheVariants.{Device, NoSlot, TwoAlike, Damaged, Memory}
use Rattle.ic_slots.specs.Held.{IsHeld, no_slot, two_alike, damaged}

-- what a refusal says of what a file holds
abbrev pub Says : OpenCause → List ℕ → Type 0
Says NoSlot file = IsHeld no_slot file
Says TwoAlike file = IsHeld two_alike file
Says Damaged file = IsHeld damaged file
Says Device file = Unit {0}
Says Memory file = Unit {0}
