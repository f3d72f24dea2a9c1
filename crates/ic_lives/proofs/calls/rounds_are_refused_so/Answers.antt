use Rattle.std.proofs.Common.{refl}
use Rattle.ic_lives.proofs.CallLemmas.{of_three}
use Rattle.ic_lives.proofs.calls.rounds_are_refused_so.Goals as goal

pub returns-clause-broken : goal.returns-clause-broken
returns-clause-broken g c result is = is.broken

pub returns-clause-full : goal.returns-clause-full
returns-clause-full g c result is = is.full

pub returns-clause-others : goal.returns-clause-others
returns-clause-others g c fault is = of_three fault is.memory

pub returns-clause-unchanged : goal.returns-clause-unchanged
returns-clause-unchanged g c fault is = is.refused refl
