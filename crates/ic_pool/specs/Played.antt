-- What is answered where a flight is played.
use Rattle.std.specs.Prelude.{Result, Ok, Err, nat_eq, if◌then◌else◌}
use Rattle.ic_round.specs.Rounds.{is_small, names_suffice}
use Rattle.ic_flights.specs.Flight.{FlightParts}
use Rattle.ic_flights.specs.Played.{PlayedParts, round_of}
use Rattle.ic_flights.specs.declared.limits.TheConstants.{MAX_ROUNDS}
use Rattle.ic_pool.specs.declared.fault.PoolFault.{PoolFault}
use Rattle.ic_pool.specs.declared.fault.PoolFault.TheVariants.{Overgrown, NamesOut, RoundsOut}

-- the round of a flight, or the first refusal: no rounds are left, too many nodes, no names are
-- left
abbrev pub played : FlightParts → Result PlayedParts PoolFault
played f =
    if nat_eq f.rounds MAX_ROUNDS then Err RoundsOut else
    (if is_small f.rules.rules f.config then
    (if names_suffice f.rules.rules f.config then Ok (round_of f) else Err NamesOut) else Err Overgrown)
