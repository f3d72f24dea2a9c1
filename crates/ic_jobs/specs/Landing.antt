-- Rounds that are due, and rounds that land.
use Rattle.std.specs.Prelude.{◌≡◌, ℕ, ◌==◌, ◌&&◌, Bool, List, Option, Some, drop, slice_get, option_and_then}
use Rattle.std.specs.List.{position_from}
use Rattle.std.specs.Option.{option_map, option_or}
use Rattle.ic_term.specs.Configuration.{Configuration, configuration_eq}
use Rattle.ic_rules.specs.RuleSet.{Rules, rules_eq}
use Rattle.ic_flights.specs.Flight.{FlightParts}
use Rattle.ic_jobs.specs.declared.state.State.TheVariants.{Running}
use Rattle.ic_jobs.specs.State.{is_running}
use Rattle.ic_jobs.specs.Job.{JobParts}
use Rattle.ic_jobs.specs.Table.{job_named}

-- a job at a place as a round that is to be made
abbrev pub flight_of : ℕ → JobParts → FlightParts
flight_of place j = record {
  place = place;
  name = j.name;
  rules = j.rules;
  config = j.config;
  rounds = j.rounds;
}

-- the place of the first running job at this place or after it
abbrev pub running_from : ℕ → List JobParts → Option ℕ
running_from place t = position_from (λ j. is_running j.state) place (drop place t)

-- the place of the first running job at this place or after it, or else of the first running job
abbrev pub due_place : List JobParts → ℕ → Option ℕ
due_place t after = option_or (running_from after t) (running_from 0 t)

-- the flight of the job at a place
abbrev pub flight_at : List JobParts → ℕ → Option FlightParts
flight_at t place = option_map (flight_of place) (slice_get t place)

abbrev pub due : List JobParts → ℕ → Option FlightParts
due t after = option_and_then (flight_at t) (due_place t after)

-- the place and the name of the job that is due
abbrev pub due_name : List JobParts → ℕ → Option (ℕ × List ℕ)
due_name t after = option_map (λ f. (f.place, f.name)) (due t after)

-- A running job of this name is there.
pub record RunsNamed (t : List JobParts) (name : List ℕ) : Type 0 where
  pub job : JobParts
  pub there : job_named name t ≡ Some job
  pub running : job.state ≡ Running

-- A job has these rules, this whole configuration and these rounds.
pub record Agrees (j : JobParts) (rules : Rules) (config : Configuration)
    (rounds : ℕ) : Type 0 where
  pub same_rules : j.rules ≡ rules
  pub same_config : j.config ≡ config
  pub same_rounds : j.rounds ≡ rounds

-- whether a job agrees so
abbrev pub agrees : JobParts → Rules → Configuration → ℕ → Bool
agrees j rules config rounds =
    j.rounds == rounds && configuration_eq j.config config && rules_eq j.rules rules

-- A running job of this name has these rules, this whole configuration and these rounds.
pub record Awaits (t : List JobParts) (name : List ℕ) (rules : Rules) (config : Configuration)
    (rounds : ℕ) : Type 0 where
  pub job : JobParts
  pub there : job_named name t ≡ Some job
  pub running : job.state ≡ Running
  pub agrees : Agrees job rules config rounds
