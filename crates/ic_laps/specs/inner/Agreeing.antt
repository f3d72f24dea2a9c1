-- Of which flight a round was made, told by what both name.
use Rattle.std.specs.Prelude.{Bool, ◌&&◌, ◌==◌}
use Rattle.std.specs.Str.{bytes_eq}
use Rattle.ic_term.specs.Configuration.{configuration_eq}
use Rattle.ic_rules.specs.RuleSet.{rules_eq}
use Rattle.ic_flights.specs.Flight.{FlightParts}
use Rattle.ic_flights.specs.Played.{PlayedParts}

-- they name the same rounds, job, configuration and rules
abbrev pub agrees : PlayedParts → FlightParts → Bool
agrees p f =
    p.rounds == f.rounds && bytes_eq p.name f.name && configuration_eq p.before f.config && rules_eq p.rules f.rules
