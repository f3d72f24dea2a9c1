-- What a file with two slots holds. This project's choice.
use Rattle.std.specs.Prelude.{◌≡◌, ◌⊎◌, ℕ, ◌<◌, ◌==◌, true, false, nat_lt, if◌then◌else◌, List}
use Rattle.ic_disk.specs.Content.{bytes_at}
use Rattle.ic_frames.specs.declared.frame.TheConstants.{HEAD}
use Rattle.ic_frames.specs.declared.slot.Slot.{Slot}
use Rattle.ic_frames.specs.declared.slot.Slot.TheVariants.{First, Second}
use Rattle.ic_frames.specs.Places.{place, other}
use Rattle.ic_frames.specs.Fields.{number, body, is_open, is_whole, IsMade}

-- a body, or why there is none
pub data Held : Type 0 where
  the_body : List ℕ → Held
  no_slot : Held
  two_alike : Held
  damaged : Held

-- the body of this slot, where it is whole
abbrev pub body_of : Slot → List ℕ → Held
body_of slot file =
    if is_whole (place slot) file then the_body (body (place slot) file) else damaged

-- of two open slots, the body of the one with the greater number
abbrev pub newer_body : List ℕ → Held
newer_body file =
    if number (place First) file == number (place Second) file
    then two_alike
    else (if nat_lt (number (place Second) file) (number (place First) file)
    then body_of First file
    else body_of Second file)

-- the body of the newest open slot
unfoldable pub body_held : List ℕ → Held
body_held file =
    if is_open (place First) file
    then (if is_open (place Second) file then newer_body file else body_of First file)
    else (if is_open (place Second) file then body_of Second file else no_slot)

-- the slot is open, and newer than the other where that is open too
pub record IsNewest (slot : Slot) (file : List ℕ) : Type 0 where
  pub opened : is_open (place slot) file ≡ true
  pub newer : is_open (place (other slot)) file ≡ true
      → number (place (other slot)) file < number (place slot) file

-- no slot is open
abbrev pub IsShut : List ℕ → Type 0
IsShut file = (is_open (place First) file ≡ false) × (is_open (place Second) file ≡ false)

-- both slots are open, with one number
pub record HasTwoAlike (file : List ℕ) : Type 0 where
  pub first : is_open (place First) file ≡ true
  pub second : is_open (place Second) file ≡ true
  pub same : number (place First) file ≡ number (place Second) file

-- the heads of both slots are the same
abbrev pub HasSameHeads : (old new : List ℕ) → Type 0
HasSameHeads old new =
    (slot : Slot) → bytes_at (place slot) HEAD new ≡ bytes_at (place slot) HEAD old

-- the file holds this body, made or not
abbrev pub HasBody : (kept file : List ℕ) → Type 0
HasBody kept file = body_held file ≡ the_body kept

-- a made file that holds this body
pub record Holds (kept file : List ℕ) : Type 0 where
  pub made : IsMade file
  pub held : body_held file ≡ the_body kept

-- it holds one of the two
abbrev pub HoldsEither : (old new file : List ℕ) → Type 0
HoldsEither old new file = Holds old file ⊎ Holds new file

-- this slot isn't open in the file
abbrev pub IsClosedIn : Slot → List ℕ → Type 0
IsClosedIn slot file = is_open (place slot) file ≡ false
