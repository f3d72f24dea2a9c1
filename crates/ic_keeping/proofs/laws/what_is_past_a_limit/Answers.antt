use Rattle.std.proofs.Common.{◌≡◌, ◌⊎◌, inl, inr}
use Rattle.ic_frames.specs.declared.faults.KeepFault.{KeepFault}
use Rattle.ic_state.specs.State.{Kept}
use Rattle.ic_rules.specs.System.{SystemParts}
use Rattle.ic_keeping.specs.declared.fault.KeepingFault.{KeepingFault}
use Rattle.ic_keeping.specs.declared.fault.KeepingFault.TheVariants.{Keep, Limit, Memory}
use Rattle.ic_keeping.specs.Life.{StopsARun}
use Rattle.ic_keeping.specs.Way.{ComesPastLimits}
use Rattle.ic_keeping.proofs.laws.what_is_past_a_limit.Goals as goal

pub returns-clause-net : goal.returns-clause-net
returns-clause-net c = λ s k comes. (comes.is, comes.is.next, comes.net, comes.more, comes.reached, comes.together, comes.past)

stopped_so : (s : SystemParts) (k : Kept) (fault : KeepingFault) → (fault ≡ Limit → ComesPastLimits s k) → StopsARun fault
    → (fault ≡ Memory) ⊎ ((fault ≡ Limit) × ComesPastLimits s k) ⊎ ((cause : KeepFault) × (fault ≡ Keep cause))
stopped_so s k fault limit (inl is) = inl is
stopped_so s k fault limit (inr (inl is)) = inr (inl (is, limit is))
stopped_so s k fault limit (inr (inr is)) = inr (inr is)

pub returns-clause-stopped : goal.returns-clause-stopped
returns-clause-stopped c = λ s k fault stops. stopped_so s k fault stops.limit stops.stops
