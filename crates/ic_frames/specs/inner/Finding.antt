-- What is found in a disk that is opened. Inner: private functions cite it.
use Rattle.std.specs.Prelude.{◌≡◌, ℕ, ◌+◌, ◌<◌, true, false, List, length, drop, Option, None, Some, Result, Ok, Err}
use Rattle.ic_frames.specs.declared.slot.Slot.{Slot}
use Rattle.ic_frames.specs.declared.slot.TheConstants.{SECOND_AT}
use Rattle.ic_frames.specs.declared.frame.TheConstants.{HEAD}
use Rattle.ic_frames.specs.declared.found.Head.{Head}
use Rattle.ic_frames.specs.declared.found.Newest.{Newest}
use Rattle.ic_frames.specs.declared.found.Found.{Found}
use Rattle.ic_frames.specs.declared.faults.OpenCause.{OpenCause}
use Rattle.ic_frames.specs.declared.faults.OpenCause.TheVariants.{Device, NoSlot, TwoAlike, Damaged, Memory}
use Rattle.ic_frames.specs.Places.{place, other}
use Rattle.ic_frames.specs.Fields.{number, size, body, is_open, is_whole, IsMade}
use Rattle.ic_frames.specs.Held.{no_slot, two_alike, body_held, IsNewest}

-- an open slot has this head
pub record HasHead (slot : Slot) (head : Head) (file : List ℕ) : Type 0 where
  pub opened : is_open (place slot) file ≡ true
  pub number_is : number (place slot) file ≡ head.number
  pub size_is : size (place slot) file ≡ head.size

-- the slot has this head, or it isn't open
abbrev pub IsHeadOf : Slot → Option Head → List ℕ → Type 0
IsHeadOf slot None file = is_open (place slot) file ≡ false
IsHeadOf slot (Some head) file = HasHead slot head file

-- the newest slot, its head, and whether the other is closed
pub record IsChosen (newest : Newest) (file : List ℕ) : Type 0 where
  pub is_newest : IsNewest newest.slot file
  pub head : HasHead newest.slot newest.head file
  pub shut : newest.alone ≡ true → is_open (place (other newest.slot)) file ≡ false
  pub older : newest.alone ≡ false → (is_open (place (other newest.slot)) file ≡ true)
      × (number (place (other newest.slot)) file < newest.head.number)

-- the slot to take, or why there is none
abbrev pub Chooses : Result Newest OpenCause → List ℕ → Type 0
Chooses (Ok newest) file = IsChosen newest file
Chooses (Err NoSlot) file = body_held file ≡ no_slot
Chooses (Err TwoAlike) file = body_held file ≡ two_alike
Chooses (Err Damaged) file = ⊥
Chooses (Err Device) file = ⊥
Chooses (Err Memory) file = ⊥

-- what a disk with this content was found to hold
pub record IsFound (found : Found) (file : List ℕ) : Type 0 where
  pub chosen : IsChosen found.newest file
  pub whole : is_whole (place found.newest.slot) file ≡ true
  pub body_is : body (place found.newest.slot) file ≡ drop 13 found.frame.items
  pub made : found.made ≡ true → IsMade file
  pub not_made : found.made ≡ false → length file < SECOND_AT + HEAD

-- a refusal that says something of the slots alone
abbrev pub IsOfSlots : OpenCause → Type 0
IsOfSlots NoSlot = Unit {0}
IsOfSlots TwoAlike = Unit {0}
IsOfSlots Damaged = ⊥
IsOfSlots Device = ⊥
IsOfSlots Memory = ⊥

-- a refusal that says nothing of the disk's content
abbrev pub IsOfCalls : OpenCause → Type 0
IsOfCalls Device = Unit {0}
IsOfCalls Memory = Unit {0}
IsOfCalls NoSlot = ⊥
IsOfCalls TwoAlike = ⊥
IsOfCalls Damaged = ⊥

-- a refusal of the newest slot
abbrev pub IsDamage : OpenCause → Type 0
IsDamage Damaged = Unit {0}
IsDamage NoSlot = ⊥
IsDamage TwoAlike = ⊥
IsDamage Device = ⊥
IsDamage Memory = ⊥
