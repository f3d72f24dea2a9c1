use Rattle.std.proofs.Common.{◌≡◌, ◌⊎◌, inl, inr, ⊎_elim, ◌+◌, ◌-◌, ◌^◌, ℕ, Result, Err, IsErrOf, refl}
use Rattle.ic_disk.specs.Time.{OneMore}
use Rattle.ic_slots.specs.declared.fault.CreateFault.{CreateFault}
use Rattle.ic_slots.specs.declared.fault.CreateFault.TheVariants.{Device as CreateDevice}
use Rattle.ic_slots.specs.Faults.{CountsCreate}
use Rattle.ic_slots.proofs.laws.a_failure_is_counted.Goals as goal

one_more : (old new : ℕ) → OneMore old new → (new ≡ old + 1) ⊎ ((old ≡ 2 ^ 64 - 1) × (new ≡ old))
one_more old new counted = ⊎_elim (λ below. inl below.1) (λ end. inr end) counted

of_create : (result : Result (Unit {0}) CreateFault) (old new : ℕ) → CountsCreate result old new → ¬ IsErrOf result CreateDevice → new ≡ old
of_create (Err CreateDevice) old new counted other = absurd (other refl)
of_create _ old new counted other = counted

pub returns-clause-create_failed : goal.returns-clause-create_failed
returns-clause-create_failed c = one_more

pub returns-clause-create_else : goal.returns-clause-create_else
returns-clause-create_else c = of_create
