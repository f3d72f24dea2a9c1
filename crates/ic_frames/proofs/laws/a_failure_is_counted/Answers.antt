use Rattle.std.proofs.Common.{◌≡◌, ◌⊎◌, inl, inr, ⊎_elim, ◌+◌, ◌-◌, ◌^◌, ℕ, Result, Err, IsErrOf, refl}
use Rattle.ic_disk.specs.Time.{OneMore}
use Rattle.ic_frames.specs.declared.faults.KeepFault.{KeepFault}
use Rattle.ic_frames.specs.declared.faults.KeepFault.TheVariants.{Device as KeepDevice}
use Rattle.ic_frames.specs.declared.faults.OpenCause.{OpenCause}
use Rattle.ic_frames.specs.declared.faults.OpenCause.TheVariants.{Device as OpenDevice}
use Rattle.ic_frames.specs.Faults.{CountsKeep, CountsOpen}
use Rattle.ic_frames.proofs.laws.a_failure_is_counted.Goals as goal

one_more : (old new : ℕ) → OneMore old new → (new ≡ old + 1) ⊎ ((old ≡ 2 ^ 64 - 1) × (new ≡ old))
one_more old new counted = ⊎_elim (λ below. inl below.1) (λ end. inr end) counted

of_keep : (result : Result (Unit {0}) KeepFault) (old new : ℕ) → CountsKeep result old new → ¬ IsErrOf result KeepDevice → new ≡ old
of_keep (Err KeepDevice) old new counted other = absurd (other refl)
of_keep _ old new counted other = counted

of_open : (result : Result (Unit {0}) OpenCause) (old new : ℕ) → CountsOpen result old new → ¬ IsErrOf result OpenDevice → new ≡ old
of_open (Err OpenDevice) old new counted other = absurd (other refl)
of_open _ old new counted other = counted

pub returns-clause-keep_failed : goal.returns-clause-keep_failed
returns-clause-keep_failed c = one_more

pub returns-clause-keep_else : goal.returns-clause-keep_else
returns-clause-keep_else c = of_keep

pub returns-clause-open_failed : goal.returns-clause-open_failed
returns-clause-open_failed c = one_more

pub returns-clause-open_else : goal.returns-clause-open_else
returns-clause-open_else c = of_open
