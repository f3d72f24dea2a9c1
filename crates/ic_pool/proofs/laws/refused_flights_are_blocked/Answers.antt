use Rattle.ic_pool.proofs.Refusals.{refused_alone, refused_by, other_refusals}
use Rattle.ic_pool.proofs.laws.refused_flights_are_blocked.Goals as goal

pub returns : goal.returns
returns c = record { alone = refused_alone; workers = refused_by; others = other_refusals }
