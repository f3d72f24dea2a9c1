-- When a disk may be made anew without a loss (this project's choice).
use Rattle.std.specs.Prelude.{◌≡◌, ◌⊎◌, ◌+◌, ◌≤◌, ℕ, List, [], ◌∷◌, Result, Ok, Err, length, slice_index, EachIndex}
use Rattle.ic_codec.specs.Tables.{old_table_bytes, table_bytes}
use Rattle.ic_frames.specs.Layout.{after_gate}
use Rattle.ic_frames.specs.declared.frame.TheConstants.{HEAD}
use Rattle.ic_frames.specs.declared.slot.TheConstants.{SECOND_AT}
use Rattle.ic_frames.specs.declared.faults.OpenCause.{OpenCause}
use Rattle.ic_frames.specs.declared.faults.OpenCause.TheVariants as cause
use Rattle.ic_slots.specs.declared.fault.CreateFault.{CreateFault}
use Rattle.ic_slots.specs.declared.fault.CreateFault.TheVariants as fault
use Rattle.ic_slots.specs.Held.{IsHeld, the_table}

-- what `create` puts in the first slot: a form of the empty table, after a gate that is closed as yet
abbrev pub first_bytes : List ℕ → List ℕ
first_bytes form = 0 ∷ after_gate 1 form

-- nothing but these bytes in their places, and zeros
abbrev pub IsPartOf : (bytes file : List ℕ) → Type 0
IsPartOf bytes file =
    EachIndex file (λ i. (slice_index file i ≡ 0) ⊎ (slice_index file i ≡ slice_index bytes i))

-- nothing but these bytes and zeros: with the form that is written, or with the one of before
abbrev pub IsFirst : List ℕ → Type 0
IsFirst file = IsPartOf (first_bytes (table_bytes [])) file
    ⊎ IsPartOf (first_bytes (old_table_bytes [])) file

-- What `create` leaves of an empty file where it is stopped, whichever of its bytes were written, on a
-- file system that fills up with zeros: no more than the two heads span, and nothing but its bytes and
-- zeros. An empty file is such a one.
abbrev pub IsBegun : List ℕ → Type 0
IsBegun file = (length file ≤ SECOND_AT + HEAD) × IsFirst file

-- nothing is lost where the disk is made anew: it holds the empty table, or its `create` was stopped
abbrev pub IsUnused : List ℕ → Type 0
IsUnused file = IsHeld (the_table []) file ⊎ IsBegun file

-- a fault that ends the look, as it ends an opening
abbrev pub looking_of : {T : Type 0} → Result T CreateFault → Result T OpenCause
looking_of (Ok value) = Ok value
looking_of (Err fault.Device) = Err cause.Device
looking_of (Err fault.Memory) = Err cause.Memory
