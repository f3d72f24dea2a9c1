-- What a keep does to a keeper, and what a crash leaves of it. This project's choice.
use Rattle.std.specs.Prelude.{◌≡◌, ◌↔◌, ℕ, ◌-◌, ◌^◌, Bool, true, false, List, Result, Ok, Err, OnOk, IsErr, IsErrOf}
use Rattle.ic_disk.specs.Time.{LeavesOnly}
use Rattle.ic_frames.specs.declared.faults.KeepFault.{KeepFault}
use Rattle.ic_frames.specs.declared.faults.KeepFault.TheVariants.{Broken, Worn, Device}
use Rattle.ic_kept.specs.declared.keeper.Keeper.{Keeper}
use Rattle.ic_kept.specs.Held.{HoldEither}
use Rattle.ic_kept.specs.Keeper.{newest_of, other_of, number_of, is_broken, Keeps, KeepsModel}

-- the disk that was written, after the keep: at Ok it has the newest state
abbrev pub written_disk : {D T : Type 0} → Result T KeepFault → Keeper D → D
written_disk (Ok value) new = newest_of new
written_disk (Err fault) new = other_of new

-- the disk that wasn't
abbrev pub spared_disk : {D T : Type 0} → Result T KeepFault → Keeper D → D
spared_disk (Ok value) new = other_of new
spared_disk (Err fault) new = newest_of new

-- Which refusal comes when, in this order. Where a disk has failed the keeper is broken; any other refusal changes nothing.
pub record FaultLeaves {D T : Type 0} (result : Result T KeepFault) (old new : Keeper D)
    : Type 0 where
  pub broken : IsErrOf result Broken ↔ (is_broken old ≡ true)
  pub worn : IsErrOf result Worn ↔ ((is_broken old ≡ false) × (number_of old ≡ 2 ^ 64 - 1))
  pub breaks : IsErrOf result Device → is_broken new ≡ true
  pub refused : IsErr result → ¬ IsErrOf result Device → new ≡ old
  pub ready : OnOk result (is_broken new ≡ false)

-- At any moment of a keep, whatever it answers, a crash leaves the state that was kept or the next one: of the disk that is
-- spared whatever it left before, of the disk that is written what was left since.
pub record CrashInKeeping {D T : Type 0} (keeps_model : D → Bool) (image : D → List ℕ → Type 0)
    (clock : D → ℕ) (left : D → ℕ → List ℕ → Type 0) (next : List ℕ) (result : Result T KeepFault)
    (old new : Keeper D) : Type 0 where
  pub spared : spared_disk result new ≡ newest_of old
  pub any_moment : (state : List ℕ) → KeepsModel keeps_model old → Keeps image state old
      → (newest : List ℕ) → image (newest_of old) newest
      → LeavesOnly clock left (other_of old) (written_disk result new)
      (HoldEither (number_of old) state next newest)
  pub kept : (state : List ℕ) → KeepsModel keeps_model old → Keeps image state old
      → OnOk result (Keeps image next new)
