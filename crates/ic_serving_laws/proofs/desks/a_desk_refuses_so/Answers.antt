use Rattle.std.proofs.Common.{refl}
use Rattle.ic_serving_laws.proofs.desks.a_desk_refuses_so.Goals as goal

pub returns-clause-broken : goal.returns-clause-broken
returns-clause-broken g c who command call = call.fault.broken.0 refl

pub returns-clause-full : goal.returns-clause-full
returns-clause-full g c who command call = (call.full.0 refl).1

pub returns-clause-worn : goal.returns-clause-worn
returns-clause-worn g c who command call = (call.worn.0 refl).2

pub returns-clause-taken : goal.returns-clause-taken
returns-clause-taken g c after flight call = (call.due, λ broken. (let never = call.broken.1 broken in cc))

pub returns-clause-not_taken : goal.returns-clause-not_taken
returns-clause-not_taken g c after call = call.broken.0 refl

pub returns-clause-wanting : goal.returns-clause-wanting
returns-clause-wanting g c after fault call other = call.memory other
