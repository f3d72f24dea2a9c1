-- A body that is written after a gate. This project's choice.
use Rattle.std.specs.Prelude.{◌≡◌, ℕ, true, List}
use Rattle.ic_frames.specs.declared.slot.Slot.{Slot}
use Rattle.ic_frames.specs.Places.{place}
use Rattle.ic_frames.specs.Fields.{number, body, is_whole}

-- the slot has this number and this body, whole, whatever its gate is
pub record IsStaged (slot : Slot) (n : ℕ) (staged file : List ℕ) : Type 0 where
  pub number_is : number (place slot) file ≡ n
  pub whole : is_whole (place slot) file ≡ true
  pub body_is : body (place slot) file ≡ staged
