-- What the disk in memory has been through, and what follows from it.
-- This project's choice.
use Rattle.std.specs.Prelude.{◌+◌, ◌-◌, ◌^◌, ◌≤◌, ℕ, min, List, [], ◌∷◌, ◌++◌, length, take, Result}
use Rattle.ic_disk.specs.DiskCalls.{IsDiskSync, IsDiskWrite}
use Rattle.ic_disk.specs.Time.{LeftSince}
use Rattle.ic_disk.specs.Model.{Call, State, begun, after, IsImageIn}

-- how a disk began, the calls since that have changed it, and how many failed
pub record History : Type 0 where
  pub first : List ℕ
  pub calls : List Call
  pub failures : ℕ

-- the state that these calls leave, from this one on
abbrev pub replay : List Call → State → State
replay [] s = s
replay (call ∷ calls) s = replay calls (after call s)

-- the state after the first k calls
abbrev pub state_at : ℕ → History → State
state_at k h = replay (take k h.calls) (begun h.first)

-- the state after all of them
abbrev pub state : History → State
state h = replay h.calls (begun h.first)

-- what reads give
abbrev pub content_of : History → List ℕ
content_of h = (state h).content

-- what a crash now may leave
abbrev pub image_of : History → List ℕ → Type 0
image_of h = IsImageIn (state h)

-- What a crash may have left after the first k calls. In the midst of a write its range is pending,
-- as after it.
abbrev pub IsLeftAt : History → ℕ → List ℕ → Type 0
IsLeftAt h k file = (k ≤ length h.calls) × IsImageIn (state_at k h) file

-- and after some number of calls, from t on
abbrev pub IsLeftSince : History → ℕ → List ℕ → Type 0
IsLeftSince h = LeftSince (IsLeftAt h)

-- how many calls have changed it
abbrev pub clock_of : History → ℕ
clock_of h = length h.calls

-- a write of these bytes, and a sync, in the words of the trait `Disk`
abbrev pub IsWritten : {T E : Type 0} → ℕ → List ℕ → Result T E → (old new : History) → Type 0
IsWritten = IsDiskWrite content_of image_of clock_of IsLeftAt

abbrev pub IsSynced : {T E : Type 0} → Result T E → (old new : History) → Type 0
IsSynced = IsDiskSync content_of image_of clock_of IsLeftAt

-- a disk that has had no calls
abbrev pub fresh : List ℕ → History
fresh file = record { first = file; calls = []; failures = 0 }

-- with one more call
abbrev pub with_call : Call → History → History
with_call call h = record { first = h.first; calls = h.calls ++ call ∷ []; failures = h.failures }

-- with one more failure, up to 2^64 - 1
abbrev pub with_failure : History → History
with_failure h =
    record { first = h.first; calls = h.calls; failures = min (h.failures + 1) (2 ^ 64 - 1) }
