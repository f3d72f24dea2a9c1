use Rattle.std.proofs.Common.{refl}
use Rattle.ic_serving_laws.proofs.desks.a_round_at_a_desk_lands_so.Goals as goal

pub returns-clause-moved : goal.returns-clause-moved
returns-clause-moved g c name rules config rounds reply call = (call.round.awaited refl, call.round.moved refl)

pub returns-clause-stale : goal.returns-clause-stale
returns-clause-stale g c name rules config rounds reply call = (call.round.stale refl, call.round.unchanged refl)

pub returns-clause-refused : goal.returns-clause-refused
returns-clause-refused g c name rules config rounds reply fault call = call.fault.refused refl

pub returns-clause-crash : goal.returns-clause-crash
returns-clause-crash g c name rules config rounds reply result call model made = call.crash.any_moment model made
