-- What a keep and each of its three phases do to two kept frames. This project's choice.
use Rattle.std.specs.Prelude.{◌≡◌, ◌↔◌, ℕ, ◌+◌, ◌-◌, ◌^◌, ◌≤◌, true, false, List, [], ◌∷◌, Result, OnOk, IsErr, IsErrOf}
use Rattle.ic_disk.specs.declared.disk.Disk.{Ghosts}
use Rattle.ic_disk.specs.Content.{laid}
use Rattle.ic_frames.specs.declared.faults.KeepFault.{KeepFault}
use Rattle.ic_frames.specs.declared.faults.KeepFault.TheVariants.{Broken, Worn, Device}
use Rattle.ic_frames.specs.declared.frames.Frames.{Frames}
use Rattle.ic_frames.specs.Places.{place, other}
use Rattle.ic_frames.specs.Fields.{IsMade}
use Rattle.ic_frames.specs.Faults.{CountsKeep}
use Rattle.ic_frames.specs.Frames.{disk_of, content_of, target_of, number_of, is_broken, is_closed, is_staged, KeepsModel}
use Rattle.ic_frames.specs.Layout.{after_gate, slot_bytes}

-- Which refusal comes when, in this order, and what it leaves. Where the disk has failed the frames
-- are broken; any other refusal changes nothing.
pub record FaultLeaves {D T : Type 0} {ghosts : Ghosts D} (result : Result T KeepFault)
    (old new : Frames D ghosts) : Type 0 where
  pub broken : IsErrOf result Broken ↔ (is_broken old ≡ true)
  pub worn : IsErrOf result Worn ↔ ((is_broken old ≡ false) × (number_of old ≡ 2 ^ 64 - 1))
  pub counted : CountsKeep result (ghosts.failures (disk_of old)) (ghosts.failures (disk_of new))
  pub breaks : IsErrOf result Device → is_broken new ≡ true
  pub refused : IsErr result → ¬ IsErrOf result Device → new ≡ old
  pub ready : OnOk result (is_broken new ≡ false)

-- The gate of the slot that is written next is closed at Ok: where it was open, a 0 is written there.
-- Where it was closed no call is made.
pub record ClosesGate {D T : Type 0} {ghosts : Ghosts D} (result : Result T KeepFault)
    (old new : Frames D ghosts) : Type 0 where
  pub closed : OnOk result (is_closed new ≡ true)
  pub staged : is_staged new ≡ is_staged old
  pub target : target_of new ≡ target_of old
  pub number : number_of new ≡ number_of old
  pub written : KeepsModel old → is_closed old ≡ false → OnOk result
      (content_of new ≡ laid (place (target_of old)) (0 ∷ []) (content_of old))
  pub idle : is_closed old ≡ true → disk_of new ≡ disk_of old
  pub calls : ghosts.clock (disk_of new) ≤ ghosts.clock (disk_of old) + 2

-- At Ok the next number, the length of this body and the body are written after the closed gate.
-- Where the disk wasn't made, a 0 is written before them.
pub record WritesBody {D T : Type 0} {ghosts : Ghosts D} (body : List ℕ)
    (result : Result T KeepFault) (old new : Frames D ghosts) : Type 0 where
  pub staged : OnOk result (is_staged new ≡ true)
  pub closed : is_closed new ≡ is_closed old
  pub target : target_of new ≡ target_of old
  pub number : number_of new ≡ number_of old
  pub written : KeepsModel old → IsMade (content_of old) → OnOk result
      (content_of new ≡ laid (place (target_of old) + 1) (after_gate (number_of old + 1) body)
      (content_of old))
  pub written_whole : KeepsModel old → ¬ IsMade (content_of old) → OnOk result
      (content_of new ≡ laid (place (target_of old)) (0 ∷ after_gate (number_of old + 1) body)
      (content_of old))
  pub calls : ghosts.clock (disk_of new) ≤ ghosts.clock (disk_of old) + 2

-- At Ok the slot that was written has the newest number, and the other is written next. At Err
-- neither changes.
pub record TakesTurns {D T : Type 0} {ghosts : Ghosts D} (result : Result T KeepFault)
    (old new : Frames D ghosts) : Type 0 where
  pub closed : OnOk result (is_closed new ≡ false)
  pub staged : OnOk result (is_staged new ≡ false)
  pub target : OnOk result (target_of new ≡ other (target_of old))
  pub number : OnOk result (number_of new ≡ number_of old + 1)
  pub target_stays : IsErr result → target_of new ≡ target_of old
  pub number_stays : IsErr result → number_of new ≡ number_of old

-- At Ok the gate is written as 1.
pub record OpensGate {D T : Type 0} {ghosts : Ghosts D} (result : Result T KeepFault)
    (old new : Frames D ghosts) : Type 0 where
  pub written : KeepsModel old → OnOk result
      (content_of new ≡ laid (place (target_of old)) (1 ∷ []) (content_of old))
  pub calls : ghosts.clock (disk_of new) ≤ ghosts.clock (disk_of old) + 2

-- At Ok the slot's bytes are written, with this body. It makes at most six calls, and four over a
-- closed slot.
pub record WritesSlot {D T : Type 0} {ghosts : Ghosts D} (body : List ℕ)
    (result : Result T KeepFault) (old new : Frames D ghosts) : Type 0 where
  pub written : KeepsModel old → OnOk result
      (content_of new ≡ laid (place (target_of old)) (slot_bytes (number_of old + 1) body)
      (content_of old))
  pub calls : ghosts.clock (disk_of new) ≤ ghosts.clock (disk_of old) + 6
  pub few_calls : is_closed old ≡ true
      → ghosts.clock (disk_of new) ≤ ghosts.clock (disk_of old) + 4
