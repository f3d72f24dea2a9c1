-- Which jobs of a table run, by their places.
use Rattle.std.specs.Prelude.{◌≡◌, ℕ, List, Some, slice_get}
use Rattle.ic_term.specs.Configuration.{Configuration}
use Rattle.ic_rules.specs.RuleSet.{Rules}
use Rattle.ic_flights.specs.Flight.{FlightParts}
use Rattle.ic_jobs.specs.declared.state.State.TheVariants.{Running}
use Rattle.ic_jobs.specs.Job.{JobParts}
use Rattle.ic_jobs.specs.Landing.{flight_of}

-- A running job is at this place.
pub record RunsAt (t : List JobParts) (place : ℕ) : Type 0 where
  pub job : JobParts
  pub there : slice_get t place ≡ Some job
  pub running : job.state ≡ Running

-- A flight is that of the running job at its place.
pub record IsFlightOf (t : List JobParts) (f : FlightParts) : Type 0 where
  pub runs : RunsAt t f.place
  pub copied : f ≡ flight_of f.place runs.job

-- A running job at some place has this name, these rules, this configuration and these rounds.
pub record HasFlight (t : List JobParts) (name : List ℕ) (rules : Rules) (config : Configuration)
    (rounds : ℕ) : Type 0 where
  pub flight : FlightParts
  pub runs : IsFlightOf t flight
  pub same_name : flight.name ≡ name
  pub same_rules : flight.rules ≡ rules
  pub same_config : flight.config ≡ config
  pub same_rounds : flight.rounds ≡ rounds
