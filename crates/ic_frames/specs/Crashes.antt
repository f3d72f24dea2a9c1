-- What a crash leaves of a keep and of each of its three phases. This project's choice.
--
-- What is kept is a body, or what a body is the byte form of. `Holds` says that a made file holds
-- it, `Has` that a file does, made or not, and `Stages` that a slot has it after its gate, with a
-- number.
use Rattle.std.specs.Prelude.{◌≡◌, ◌⊎◌, ℕ, ◌+◌, List, Result, OnOk}
use Rattle.ic_disk.specs.declared.disk.Disk.{Ghosts}
use Rattle.ic_frames.specs.declared.faults.KeepFault.{KeepFault}
use Rattle.ic_frames.specs.declared.frames.Frames.{Frames}
use Rattle.ic_frames.specs.declared.slot.Slot.{Slot}
use Rattle.ic_frames.specs.Fields.{IsMade}
use Rattle.ic_frames.specs.Frames.{disk_of, content_of, target_of, number_of, EachImage, KeepsModel, Leaves}
use Rattle.ic_frames.specs.Held.{IsClosedIn}
use Rattle.ic_frames.specs.Opened.{IsOnNewest}

-- a file that holds one of the two
abbrev pub IsEither : {K : Type 0} → (K → List ℕ → Type 0) → (one other : K) → List ℕ → Type 0
IsEither Holds one other file = Holds one file ⊎ Holds other file

-- While a gate is closed a crash leaves what was kept.
pub record CrashInClosing {D T K : Type 0} {ghosts : Ghosts D} (Holds Has : K → List ℕ → Type 0)
    (result : Result T KeepFault) (old new : Frames D ghosts) : Type 0 where
  pub keeps : ghosts.keeps (disk_of new) ≡ ghosts.keeps (disk_of old)
  pub any_moment : (kept : K) → KeepsModel old → EachImage old (Holds kept)
      → Leaves old new (Holds kept)
  -- at Ok the slot is closed
  pub shut : KeepsModel old → OnOk result (EachImage new (IsClosedIn (target_of old)))
  -- whatever it answers, what each image had, made or not, each has after it
  pub stays : (kept : K) → KeepsModel old → EachImage old (Has kept) → EachImage new (Has kept)

-- While a body is written a crash leaves what was kept.
pub record CrashInWriting {D T K : Type 0} {ghosts : Ghosts D} (Holds Has : K → List ℕ → Type 0)
    (Stages : Slot → ℕ → K → List ℕ → Type 0) (next : K) (result : Result T KeepFault)
    (old new : Frames D ghosts) : Type 0 where
  pub keeps : ghosts.keeps (disk_of new) ≡ ghosts.keeps (disk_of old)
  pub any_moment : (kept : K) → KeepsModel old → EachImage old (Holds kept)
      → Leaves old new (Holds kept)
  -- at Ok the next one is whole after the gate, and each image is made
  pub whole : KeepsModel old
      → OnOk result (EachImage new (Stages (target_of new) (number_of new + 1) next))
  pub made : KeepsModel old → OnOk result (EachImage new IsMade)
  -- also on a disk that isn't made: whatever it answers, what each image had, each holds after it,
  -- if each is made then
  pub holds_if_made : (kept : K) → KeepsModel old → EachImage old (Has kept)
      → EachImage new IsMade → EachImage new (Holds kept)

-- While a gate is opened a crash leaves what was kept or what is written after the gate.
pub record CrashInOpening {D T K : Type 0} {ghosts : Ghosts D} (Holds : K → List ℕ → Type 0)
    (Stages : Slot → ℕ → K → List ℕ → Type 0) (result : Result T KeepFault)
    (old new : Frames D ghosts) : Type 0 where
  pub keeps : ghosts.keeps (disk_of new) ≡ ghosts.keeps (disk_of old)
  pub any_moment : (kept next : K) → KeepsModel old → EachImage old (Holds kept)
      → EachImage old (Stages (target_of old) (number_of old + 1) next)
      → Leaves old new (IsEither Holds kept next)
  -- at Ok only the latter, in the newest slot
  pub holds : (next : K) → KeepsModel old
      → EachImage old (Stages (target_of old) (number_of old + 1) next)
      → OnOk result (EachImage new (Holds next))
  pub newest : KeepsModel old → OnOk result (EachImage new (IsOnNewest new))

-- While another is put in its place a crash leaves what was kept or the next one.
pub record CrashInKeeping {D T K : Type 0} {ghosts : Ghosts D} (Holds Has : K → List ℕ → Type 0)
    (next : K) (result : Result T KeepFault) (old new : Frames D ghosts) : Type 0 where
  pub keeps : ghosts.keeps (disk_of new) ≡ ghosts.keeps (disk_of old)
  pub any_moment : (kept : K) → KeepsModel old → EachImage old (Holds kept)
      → Leaves old new (IsEither Holds kept next)
  -- also on a disk that isn't made: whatever it answers, where each image had one, each holds that
  -- or the next one after it, if each is made then
  pub either_if_made : (kept : K) → KeepsModel old → EachImage old (Has kept)
      → EachImage new IsMade → EachImage new (IsEither Holds kept next)
  -- at Ok the next one, in the newest slot, and so do reads
  pub holds : KeepsModel old → OnOk result (EachImage new (Holds next))
  pub held : KeepsModel old → OnOk result (Has next (content_of new))
  pub newest : KeepsModel old → OnOk result (EachImage new (IsOnNewest new))
