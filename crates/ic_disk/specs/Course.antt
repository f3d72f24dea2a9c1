-- The written model in time: a disk as its state, and the moments that it has been through.
-- Laws say that whatever the written model allows is what the trait `Disk` says.
use Rattle.std.specs.Prelude.{◌≡◌, ◌⊎◌, ℕ, ◌+◌, ◌-◌, ◌^◌, ◌<◌, ◌≤◌, min, Bool, true, List, [], ◌∷◌, length, Result, Ok, Err}
use Rattle.ic_disk.specs.Content.{bytes_at}
use Rattle.ic_disk.specs.Images.{Torn}
use Rattle.ic_disk.specs.Model.{State, Write, begun, after, after_failed, write, sync, IsImageIn}

-- What a write may do to a state. At Err nothing has changed, or its range is pending and the content
-- torn there.
abbrev pub MayWrite : {T E : Type 0} → Write → Result T E → (old new : State) → Type 0
MayWrite w (Ok value) old new = new ≡ after (write w) old
MayWrite w (Err fault) old new =
    (new ≡ old)
    ⊎ (Torn w.at (length w.bytes) old.content new.content × (new ≡ after_failed w new.content old))

-- What a sync may do to it. At Err nothing has changed, or it has taken effect.
abbrev pub MaySync : {T E : Type 0} → Result T E → (old new : State) → Type 0
MaySync (Ok value) old new = new ≡ after sync old
MaySync (Err fault) old new = (new ≡ old) ⊎ (new ≡ after sync old)

-- What a call for the length may answer in a state. At Err it tells nothing.
abbrev pub MayTell : {E : Type 0} → Result ℕ E → State → Type 0
MayTell (Ok n) s = n ≡ length s.content
MayTell (Err fault) s = Unit {0}

-- What a read at a place may make of a buffer. At Err it may hold any bytes.
abbrev pub MayRead : {T E : Type 0} → ℕ → Result T E → (old new : List ℕ) → State → Type 0
MayRead at (Ok value) old new s = new ≡ bytes_at at (length old) s.content
MayRead at (Err fault) old new s = Unit {0}

-- how many calls have failed after one with this answer, up to 2^64 - 1
abbrev pub failures_after : {T E : Type 0} → Result T E → ℕ → ℕ
failures_after (Ok value) failures = failures
failures_after (Err fault) failures = min (failures + 1) (2 ^ 64 - 1)

-- a moment: how many calls had ended, and the state in which a crash would have found the disk
pub record Moment : Type 0 where
  pub calls : ℕ
  pub state : State

-- A disk: its state, how many calls have ended and how many of them failed, and its earlier moments,
-- the latest first.
pub record Course : Type 0 where
  pub state : State
  pub calls : ℕ
  pub failures : ℕ
  pub past : List Moment

-- a disk that begins with these bytes
abbrev pub first_course : List ℕ → Course
first_course file = record { state = begun file; calls = 0; failures = 0; past = [] }

-- It goes on by a call with this answer, this state in its midst and this one at its end.
abbrev pub after_call : {T E : Type 0} → Result T E → (midst now : State) → Course → Course
after_call result midst now c = record {
  state = now;
  calls = c.calls + 1;
  failures = failures_after result c.failures;
  past = record { calls = c.calls; state = c.state }
      ∷ record { calls = c.calls; state = midst } ∷ c.past;
}

-- it keeps the model
abbrev pub keeps_in : Course → Bool
keeps_in c = true

-- what reads give
abbrev pub content_in : Course → List ℕ
content_in c = c.state.content

-- what a crash now may leave
abbrev pub image_in : Course → List ℕ → Type 0
image_in c = IsImageIn c.state

abbrev pub calls_in : Course → ℕ
calls_in c = c.calls

abbrev pub failures_in : Course → ℕ
failures_in c = c.failures

-- a crash at one of these moments, when t calls had ended, may have left this file
abbrev pub IsLeftAtOne : List Moment → ℕ → List ℕ → Type 0
IsLeftAtOne [] t file = ⊥
IsLeftAtOne (m ∷ ms) t file = ((t ≡ m.calls) × IsImageIn m.state file) ⊎ IsLeftAtOne ms t file

-- at this moment or at an earlier one
abbrev pub left_in : Course → ℕ → List ℕ → Type 0
left_in c t file = ((t ≡ c.calls) × IsImageIn c.state file) ⊎ IsLeftAtOne c.past t file

-- at these moments fewer calls had ended
abbrev pub AreBefore : ℕ → List Moment → Type 0
AreBefore n [] = Unit {0}
AreBefore n (m ∷ ms) = (m.calls < n) × AreBefore n ms

-- what holds of each course: what reads give is an image, the count of failures doesn't pass its
-- end, and the past is past
pub record IsCourse (c : Course) : Type 0 where
  pub content_is_image : image_in c (content_in c)
  pub failures_end : failures_in c ≤ 2 ^ 64 - 1
  pub past_is_before : AreBefore c.calls c.past
