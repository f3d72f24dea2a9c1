-- Where the two slots of a disk begin. This project's choice.
use Rattle.std.specs.Prelude.{ℕ}
use Rattle.ic_frames.specs.declared.slot.Slot.{Slot}
use Rattle.ic_frames.specs.declared.slot.Slot.TheVariants.{First, Second}
use Rattle.ic_frames.specs.declared.slot.TheConstants.{SECOND_AT}

-- the byte that a slot begins at
abbrev pub place : Slot → ℕ
place First = 0
place Second = SECOND_AT

-- the slot beside it
abbrev pub other : Slot → Slot
other First = Second
other Second = First
