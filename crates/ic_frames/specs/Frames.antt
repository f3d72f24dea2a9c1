-- The parts of two kept frames that clauses speak of.
use Rattle.std.specs.Prelude.{ℕ, Bool, List, IsTrue}
use Rattle.ic_disk.specs.declared.disk.Disk.{Ghosts}
use Rattle.ic_disk.specs.Images.{Within}
use Rattle.ic_disk.specs.Time.{LeavesOnly}
use Rattle.ic_frames.specs.declared.slot.Slot.{Slot}
use Rattle.ic_frames.specs.Places.{other}
use Rattle.ic_frames.specs.declared.frames.Frames.{Frames}

-- the disk that they are on
abbrev pub disk_of : {D : Type 0} {ghosts : Ghosts D} → Frames D ghosts → D
disk_of f = f.disk

-- the slot that is written next
abbrev pub target_of : {D : Type 0} {ghosts : Ghosts D} → Frames D ghosts → Slot
target_of f = other f.newest

-- the number of the newest slot
abbrev pub number_of : {D : Type 0} {ghosts : Ghosts D} → Frames D ghosts → ℕ
number_of f = f.number

-- a call to the disk has failed
abbrev pub is_broken : {D : Type 0} {ghosts : Ghosts D} → Frames D ghosts → Bool
is_broken f = f.broken

-- the slot that is written next is closed
abbrev pub is_closed : {D : Type 0} {ghosts : Ghosts D} → Frames D ghosts → Bool
is_closed f = f.closed

-- its number and body are written after the closed gate
abbrev pub is_staged : {D : Type 0} {ghosts : Ghosts D} → Frames D ghosts → Bool
is_staged f = f.staged

-- what reads of their disk give
abbrev pub content_of : {D : Type 0} {ghosts : Ghosts D} → Frames D ghosts → List ℕ
content_of {D} {ghosts} f = ghosts.content (disk_of f)

-- their disk keeps the model
abbrev pub KeepsModel : {D : Type 0} {ghosts : Ghosts D} → Frames D ghosts → Type 0
KeepsModel {D} {ghosts} f = IsTrue (ghosts.keeps (disk_of f))

-- each image of their disk has P
abbrev pub EachImage : {D : Type 0} {ghosts : Ghosts D} → Frames D ghosts → (List ℕ → Type 0) → Type 0
EachImage {D} {ghosts} f P = Within (ghosts.image (disk_of f)) P

-- a crash at any moment from the one to the other leaves a file that has P
abbrev pub Leaves : {D : Type 0} {ghosts : Ghosts D} → (old new : Frames D ghosts)
    → (List ℕ → Type 0) → Type 0
Leaves {D} {ghosts} old new P = LeavesOnly ghosts.clock ghosts.left (disk_of old) (disk_of new) P
