-- How the two slots stand on a disk while it is kept. Inner: private fields and functions cite it.
use Rattle.std.specs.Prelude.{◌≡◌, ℕ, ◌+◌, ◌<◌, Bool, true, false, List, ◌∷◌, length, drop}
use Rattle.ic_frames.specs.declared.slot.Slot.{Slot}
use Rattle.ic_frames.specs.declared.slot.TheConstants.{SECOND_AT}
use Rattle.ic_frames.specs.declared.frame.TheConstants.{HEAD}
use Rattle.ic_frames.specs.Places.{place, other}
use Rattle.ic_frames.specs.Fields.{gate, number, size, body, is_open, is_whole, IsMade}
use Rattle.ic_frames.specs.Staged.{IsStaged}
use Rattle.ic_frames.specs.Layout.{after_gate}

-- The newest slot is open and whole, with this number and body. The other is closed, or older.
pub record Stands (newest : Slot) (n : ℕ) (closed : Bool) (kept file : List ℕ) : Type 0 where
  pub opened : is_open (place newest) file ≡ true
  pub number_is : number (place newest) file ≡ n
  pub whole : is_whole (place newest) file ≡ true
  pub body_is : body (place newest) file ≡ kept
  pub shut : closed ≡ true → is_open (place (other newest)) file ≡ false
  pub older : closed ≡ false → number (place (other newest)) file < n

-- what is on a disk that is kept: its content, and what a crash may leave
pub record IsKept (content : List ℕ) (image : List ℕ → Type 0) (newest : Slot) (n : ℕ)
    (closed staged made : Bool) : Type 0 where
  pub stands : (file : List ℕ) → image file
      → Stands newest n closed (body (place newest) content) file
  pub staged_is : staged ≡ true → (file : List ℕ) → image file
      → IsStaged (other newest) (n + 1) (body (place (other newest)) content) file
  pub staged_in : staged ≡ true → (closed ≡ true) × (made ≡ true)
  pub all_made : made ≡ true → (file : List ℕ) → image file → IsMade file
  pub not_made : made ≡ false → (length content < SECOND_AT + HEAD) × (closed ≡ true)

-- the bytes of a closed frame with this number and body
pub record IsFrame (n : ℕ) (held frame : List ℕ) : Type 0 where
  pub gate_is : gate 0 frame ≡ 0
  pub number_is : number 0 frame ≡ n
  pub size_is : size 0 frame ≡ length held
  pub long : length frame ≡ 13 + length held
  pub body_is : drop 13 frame ≡ held
  pub bytes_are : frame ≡ 0 ∷ after_gate n held
