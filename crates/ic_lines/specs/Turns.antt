-- The events of a run.
use Rattle.std.specs.Prelude.{ℕ, zero, suc, ◌+◌, List, [], ◌∷◌}
use Rattle.std.specs.List.{fold}
use Rattle.std.specs.Option.{option_map_or}
use Rattle.ic_flights.specs.Flight.{FlightParts}
use Rattle.ic_jobs.specs.Job.{JobParts}
use Rattle.ic_jobs.specs.declared.event.Event.{Event}
use Rattle.ic_jobs.specs.declared.event.Event.TheVariants.{Round}
use Rattle.ic_jobs.specs.History.{table_after}
use Rattle.ic_jobs.specs.Landing.{due}

-- the table after some events
abbrev pub after_events : List JobParts → List Event → List JobParts
after_events t es = fold table_after t es

-- a round of a job that is due, and what comes after it
abbrev pub round_and : (ℕ → List JobParts → List Event) → List JobParts → FlightParts → List Event
round_and after t f = Round f.name ∷ after (f.place + 1) (table_after t (Round f.name))

-- At most so many rounds. The first is of the job that is due from a place on, and each further one
-- of the job that is due from above the place of the one before. They end where none is due.
abbrev pub turns : ℕ → ℕ → List JobParts → List Event
turns zero place t = []
turns (suc k) place t = option_map_or (round_and (turns k) t) (due t place) []
