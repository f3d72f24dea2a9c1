-- The parts of a keeper that clauses speak of.
use Rattle.std.specs.Prelude.{ℕ, Bool}
use Rattle.ic_disk.specs.declared.disk.Disk.{Ghosts}
use Rattle.ic_frames.specs.declared.slot.Slot.{Slot}
use Rattle.ic_frames.specs.declared.frames.Frames.{Frames}
use Rattle.ic_frames.specs.Frames as frames
use Rattle.ic_slots.specs.declared.keeper.Keeper.{Keeper}

-- the two slots that it writes
abbrev pub frames_of : {D : Type 0} {ghosts : Ghosts D} → Keeper D ghosts → Frames D ghosts
frames_of keeper = keeper.frames

-- the disk that they are on
abbrev pub disk_of : {D : Type 0} {ghosts : Ghosts D} → Keeper D ghosts → D
disk_of keeper = frames.disk_of keeper.frames

-- the slot that is written next
abbrev pub target_of : {D : Type 0} {ghosts : Ghosts D} → Keeper D ghosts → Slot
target_of keeper = frames.target_of keeper.frames

-- the number of the newest slot
abbrev pub number_of : {D : Type 0} {ghosts : Ghosts D} → Keeper D ghosts → ℕ
number_of keeper = frames.number_of keeper.frames

-- a call to the disk has failed
abbrev pub is_broken : {D : Type 0} {ghosts : Ghosts D} → Keeper D ghosts → Bool
is_broken keeper = frames.is_broken keeper.frames

-- the slot that is written next is closed
abbrev pub is_closed : {D : Type 0} {ghosts : Ghosts D} → Keeper D ghosts → Bool
is_closed keeper = frames.is_closed keeper.frames

-- its number and a table are written after the closed gate
abbrev pub is_staged : {D : Type 0} {ghosts : Ghosts D} → Keeper D ghosts → Bool
is_staged keeper = frames.is_staged keeper.frames
