use Rattle.std.proofs.Common.{◌≡◌, ◌⊎◌, inl, inr, ⊎_elim, ◌+◌, ◌-◌, ◌^◌, ℕ, Result, Err, IsErrOf, refl}
use Rattle.ic_disk.specs.Time.{OneMore}
use Rattle.ic_book.specs.declared.fault.BookFault.{BookFault}
use Rattle.ic_book.specs.declared.fault.BookFault.TheVariants.{Device}
use Rattle.ic_book.specs.Refusals.{CountsBook}
use Rattle.ic_book.proofs.laws.a_failure_is_counted.Goals as goal

one_more : (old new : ℕ) → OneMore old new → (new ≡ old + 1) ⊎ ((old ≡ 2 ^ 64 - 1) × (new ≡ old))
one_more old new counted = ⊎_elim (λ below. inl below.1) (λ end. inr end) counted

of_book : (result : Result (Unit {0}) BookFault) (old new : ℕ) → CountsBook result old new → ¬ IsErrOf result Device → new ≡ old
of_book (Err Device) old new counted other = absurd (other refl)
of_book _ old new counted other = counted

pub returns-clause-failed : goal.returns-clause-failed
returns-clause-failed c = one_more

pub returns-clause-others : goal.returns-clause-others
returns-clause-others c = of_book
