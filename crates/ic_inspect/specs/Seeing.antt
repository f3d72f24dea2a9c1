-- What is seen of the slots of a file, and why it isn't shown.
use Rattle.std.specs.Prelude.{◌≡◌, ◌+◌, ◌<◌, ◌≤◌, ℕ, List, [], ◌∷◌, Option, None, Some, true, length}
use Rattle.ic_jobs.specs.Job.{JobParts}
use Rattle.ic_jobs.specs.Table.{IsTable}
use Rattle.ic_codec.specs.Tables.{IsFormOf}
use Rattle.ic_frames.specs.declared.frame.TheConstants.{HEAD, MAX_BODY}
use Rattle.ic_frames.specs.declared.slot.Slot.{Slot}
use Rattle.ic_frames.specs.declared.slot.Slot.TheVariants as slot
use Rattle.ic_frames.specs.Fields.{number, size, body, is_open, is_whole}
use Rattle.ic_frames.specs.Held.{HasTwoAlike, IsNewest, IsShut}
use Rattle.ic_frames.specs.Places.{place}
use Rattle.ic_slots.specs.Held.{IsHeld, the_table}
use Rattle.ic_inspect.specs.declared.choosing.Newest.{Newest}
use Rattle.ic_inspect.specs.declared.choosing.Newest.TheVariants.{NoSlot, TwoAlike, First, Second}
use Rattle.ic_inspect.specs.declared.fault.InspectFault.{InspectFault}
use Rattle.ic_inspect.specs.declared.fault.InspectFault.TheVariants.{Read, Changed, Memory, Write}
use Rattle.ic_inspect.specs.declared.seen.Looked.{Looked}
use Rattle.ic_inspect.specs.declared.seen.Body.{Body}
use Rattle.ic_inspect.specs.declared.seen.Body.TheVariants.{TooLong, CutShort, NoTable, Holds}
use Rattle.ic_inspect.specs.declared.seen.Seen.{Seen}

-- what the body of the slot that begins at this place is
abbrev pub IsBodySeen : ℕ → Body → List ℕ → Type 0
IsBodySeen at TooLong file = MAX_BODY < size at file
IsBodySeen at CutShort file = (size at file ≤ MAX_BODY) × (length file < at + HEAD + size at file)
IsBodySeen at NoTable file =
    (is_whole at file ≡ true) × ((t : List JobParts) → IsTable t → ¬ IsFormOf t (body at file))
IsBodySeen at (Holds t) file = (is_whole at file ≡ true) × IsTable t × IsFormOf t (body at file)

-- a slot whose head lies within the file has these fields
pub record IsSlotSeen (at : ℕ) (seen : Seen) (file : List ℕ) : Type 0 where
  pub within : at + HEAD ≤ length file
  pub opened : seen.opened ≡ is_open at file
  pub number_is : seen.number ≡ number at file
  pub size_is : seen.size ≡ size at file
  pub body_is : IsBodySeen at seen.body file

-- what is seen of the slot that begins here: nothing, where the file ends before its head does
abbrev pub IsSeenAt : ℕ → Option Seen → List ℕ → Type 0
IsSeenAt at None file = length file < at + HEAD
IsSeenAt at (Some seen) file = IsSlotSeen at seen file

-- what is seen of a slot
abbrev pub IsSeen : Slot → Option Seen → List ℕ → Type 0
IsSeen slot seen file = IsSeenAt (place slot) seen file

-- this is seen of the two slots of a file
abbrev pub IsLookedAt : Looked → List ℕ → Type 0
IsLookedAt looked file = IsSeen slot.First looked.first file × IsSeen slot.Second looked.second file

-- this is the newest open slot of a file, or why there is none
abbrev pub IsNewestOf : Newest → List ℕ → Type 0
IsNewestOf NoSlot file = IsShut file
IsNewestOf TwoAlike file = HasTwoAlike file
IsNewestOf First file = IsNewest slot.First file
IsNewestOf Second file = IsNewest slot.Second file

-- a file holds this table, or none
abbrev pub IsTableOf : Option (List JobParts) → List ℕ → Type 0
IsTableOf (Some t) file = IsHeld (the_table t) file
IsTableOf None file = (t : List JobParts) → ¬ IsHeld (the_table t) file

-- the lasting numbers of the faults
abbrev pub inspect_fault_number : InspectFault → ℕ
inspect_fault_number Read = 1
inspect_fault_number Changed = 2
inspect_fault_number Memory = 3
inspect_fault_number Write = 4

-- all faults, in the order of their lasting numbers
abbrev pub all_inspect_faults : List InspectFault
all_inspect_faults = Read ∷ Changed ∷ Memory ∷ Write ∷ []
