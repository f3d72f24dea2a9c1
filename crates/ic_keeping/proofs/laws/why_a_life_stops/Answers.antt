use Rattle.std.proofs.Common.{◌≡◌, ◌⊎◌, inl, inr}
use Rattle.ic_frames.specs.declared.faults.KeepFault.{KeepFault}
use Rattle.ic_kept.specs.declared.keeper.Keeper.{Keeper}
use Rattle.ic_rules.specs.System.{SystemParts}
use Rattle.ic_state.specs.State.{Kept}
use Rattle.ic_keeping.specs.declared.fault.KeepingFault.{KeepingFault}
use Rattle.ic_keeping.specs.declared.fault.KeepingFault.TheVariants.{Keep, Limit, Memory}
use Rattle.ic_keeping.specs.Life.{KeepFails, StopsARun}
use Rattle.ic_keeping.specs.Way.{ComesPastLimits}
use Rattle.ic_keeping.proofs.laws.why_a_life_stops.Goals as goal

stops_so : (D : Type 0) (s : SystemParts) (k : Kept) (old new : Keeper D) (fault : KeepingFault) → (fault ≡ Limit → ComesPastLimits s k)
    → ((cause : KeepFault) → fault ≡ Keep cause → KeepFails cause old new) → StopsARun fault
    → (fault ≡ Memory) ⊎ ((fault ≡ Limit) × ComesPastLimits s k) ⊎ ((cause : KeepFault) × (fault ≡ Keep cause) × KeepFails cause old new)
stops_so D s k old new fault limit failed (inl is) = inl is
stops_so D s k old new fault limit failed (inr (inl is)) = inr (inl (is, limit is))
stops_so D s k old new fault limit failed (inr (inr is)) = inr (inr (is.0, is.1, failed is.0 is.1))

pub returns : goal.returns
returns g c = λ s k new fault stops. stops_so _ s k c.args.keeper.now new fault.cause stops.why.limit stops.tells.failed stops.why.stops
