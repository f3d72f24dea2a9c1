use Rattle.std.proofs.Common.{◌≡◌, false, nat_eq, refl, arith}
use Rattle.ic_pool.proofs.Refusals.{unequal_where}
use Rattle.ic_pool.proofs.laws.the_number_of_workers_makes_no_difference.Goals as goal

pub returns-clause-some : goal.returns-clause-some
returns-clause-some c = λ workers f some.
    let apart : nat_eq workers 0 ≡ false = (unequal_where workers 0).1 (λ e. absurd (omega (arith, e, some))) in rw apart refl
