-- How the count of failures goes on.
use Rattle.std.proofs.Common.{◌≡◌, ⊎_elim, ℕ, ◌+◌, ◌-◌, ◌^◌, ◌<◌, arith, Result, Ok, Err, OnOk, OnErr}
use Rattle.ic_disk.specs.Time.{CountsFailure}

module _ {T E : Type 0} where
  pub stays_at_ok : (answer : Result T E) (old new : ℕ) → CountsFailure answer old new → OnOk answer (new ≡ old)
  stays_at_ok (Ok x) old new counts = counts
  stays_at_ok (Err e) old new counts = tt

  pub rises_at_err : (answer : Result T E) (old new : ℕ) → CountsFailure answer old new → old < 2 ^ 64 - 1 → OnErr answer (new ≡ old + 1)
  rises_at_err (Ok x) old new counts below = tt
  rises_at_err (Err e) old new counts below = ⊎_elim (λ rises. rises.1) (λ ends. omega (arith, ends.0, below)) counts

  pub ends_at_last : (answer : Result T E) (new : ℕ) → CountsFailure answer (2 ^ 64 - 1) new → new ≡ 2 ^ 64 - 1
  ends_at_last (Ok x) new counts = counts
  ends_at_last (Err e) new counts = ⊎_elim (λ rises. omega (arith, rises.0)) (λ ends. ends.1) counts
