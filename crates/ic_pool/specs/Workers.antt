-- What the call that plays a flight by workers answers.
use Rattle.std.specs.Prelude.{◌≡◌, ℕ, List, Result, Ok, Err, IsTrue, is_ok, nat_eq, if◌then◌else◌}
use Rattle.ic_term.specs.Configuration.{Configuration}
use Rattle.ic_rules.specs.Rule.{Rule}
use Rattle.ic_round.specs.Rounds.{round, is_small, names_suffice}
use Rattle.ic_flights.specs.Flight.{FlightParts}
use Rattle.ic_flights.specs.Played.{PlayedParts}
use Rattle.ic_pool.specs.Played.{played}
use Rattle.ic_pool.specs.PoolFault.{asks_memory}
use Rattle.ic_pool.specs.declared.fault.PoolFault.{PoolFault}
use Rattle.ic_pool.specs.declared.fault.WorkerFault.{WorkerFault}
use Rattle.ic_pool.specs.declared.fault.WorkerFault.TheVariants as workers
use Rattle.ic_pool.specs.declared.fault.PoolFault.TheVariants.{NoWorkers, Overgrown, NamesOut, NoThread, Memory, Lost, Stranger, RoundsOut}

-- the round of a flight by so many workers, or the first refusal: it doesn't depend on their number
abbrev pub played_by : ℕ → FlightParts → Result PlayedParts PoolFault
played_by workers f = if nat_eq workers 0 then Err NoWorkers else played f

-- the round of a configuration, or the first refusal
abbrev pub round_or_refusal : List Rule → Configuration → Result Configuration PoolFault
round_or_refusal rs c =
    if is_small rs c then (if names_suffice rs c then Ok (round rs c) else Err NamesOut)
    else Err Overgrown

-- The result of workers is this answer, unless a growth was refused. Where there is a round to
-- answer, a thread may be refused too, or a result not come as it was asked for.
abbrev pub ByWorkers : {T : Type 0} → Result T PoolFault → Result T PoolFault → Type 0
ByWorkers (Ok value) answer = Ok value ≡ answer
ByWorkers (Err NoWorkers) answer = Err NoWorkers ≡ answer
ByWorkers (Err Overgrown) answer = Err Overgrown ≡ answer
ByWorkers (Err NamesOut) answer = Err NamesOut ≡ answer
ByWorkers (Err NoThread) answer = IsTrue (is_ok answer)
ByWorkers (Err Memory) answer = IsTrue (asks_memory answer)
ByWorkers (Err Lost) answer = IsTrue (is_ok answer)
ByWorkers (Err Stranger) answer = IsTrue (is_ok answer)
ByWorkers (Err RoundsOut) answer = Err RoundsOut ≡ answer

-- a fault of workers as one of a flight
abbrev pub worker_fault : WorkerFault → PoolFault
worker_fault workers.NoThread = NoThread
worker_fault workers.Memory = Memory
