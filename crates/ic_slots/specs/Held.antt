-- What a file with two slots holds, as a table. This project's choice.
use Rattle.std.specs.Prelude.{◌≡◌, ◌⊎◌, ℕ, List}
use Rattle.ic_jobs.specs.Job.{JobParts}
use Rattle.ic_jobs.specs.Table.{IsTable}
use Rattle.ic_codec.specs.Tables.{table_bytes, IsFormOf}
use Rattle.ic_frames.specs.declared.slot.Slot.{Slot}
use Rattle.ic_frames.specs.Fields.{IsMade}
use Rattle.ic_frames.specs.Staged.{IsStaged}
use Rattle.ic_frames.specs.Held.{body_held, the_body}
use Rattle.ic_frames.specs.Held.{no_slot as no_open_slot, two_alike as two_alike_slots, damaged as damaged_slot}

-- a table, or why there is none
pub data Held : Type 0 where
  the_table : List JobParts → Held
  no_slot : Held
  two_alike : Held
  damaged : Held

-- the body of the newest slot is whole, and a byte form of this table
pub record HoldsFormOf (t : List JobParts) (file : List ℕ) : Type 0 where
  pub body : List ℕ
  pub held : body_held file ≡ the_body body
  pub form : IsFormOf t body

-- the body that the file holds is the byte form of no table
abbrev pub HoldsNoTable : List ℕ → Type 0
HoldsNoTable file =
    (body : List ℕ) × (body_held file ≡ the_body body)
    × ((t : List JobParts) → IsTable t → ¬ IsFormOf t body)

-- what the file holds: the table of which the body of its newest slot is a byte form
abbrev pub IsHeld : Held → List ℕ → Type 0
IsHeld (the_table t) file = IsTable t × HoldsFormOf t file
IsHeld no_slot file = body_held file ≡ no_open_slot
IsHeld two_alike file = body_held file ≡ two_alike_slots
IsHeld damaged file = (body_held file ≡ damaged_slot) ⊎ HoldsNoTable file

-- the file holds this table, made or not
abbrev pub HasTable : (t : List JobParts) (file : List ℕ) → Type 0
HasTable t file = IsHeld (the_table t) file

-- a made file that holds this table
pub record HoldsTable (t : List JobParts) (file : List ℕ) : Type 0 where
  pub made : IsMade file
  pub held : IsHeld (the_table t) file

-- it holds one of the two
abbrev pub HoldsEitherTable : (old new : List JobParts) (file : List ℕ) → Type 0
HoldsEitherTable old new file = HoldsTable old file ⊎ HoldsTable new file

-- the slot has this number and the written form of this table, whole, whatever its gate is
abbrev pub IsStagedTable : Slot → ℕ → List JobParts → List ℕ → Type 0
IsStagedTable slot n t file = IsTable t × IsStaged slot n (table_bytes t) file
