use Rattle.std.proofs.Common.{refl}
use Rattle.ic_lives.proofs.calls.refusals_leave.Goals as goal

pub returns-clause-broken : goal.returns-clause-broken
returns-clause-broken g c result is = is.broken

pub returns-clause-device : goal.returns-clause-device
returns-clause-device g c is = (is.breaks refl, is.counted)

pub returns-clause-others : goal.returns-clause-others
returns-clause-others g c fault is other = is.refused refl (λ same. other cc)
