-- What the entries of a log weigh: the most that each holds, in units of 1,024 bytes. This project's
-- choice.
use Rattle.std.specs.Prelude.{ℕ, List, map, sum_by}
use Rattle.ic_jobs.specs.declared.command.Command.TheVariants.{Submit, CopyJob, Pause, Resume, Cancel, Fetch, List as list_jobs}
use Rattle.ic_jobs.specs.declared.event.Event.{Event}
use Rattle.ic_jobs.specs.declared.event.Event.TheVariants.{Command as by_command, Round}
use Rattle.ic_jobs.specs.declared.event.Entry.{Entry}
use Rattle.ic_book.specs.declared.limits.TheConstants.{SYSTEM_WEIGHT, LIST_WEIGHT}

-- an entry of a submit holds a system, one of a fetch may hold one, and one of a list tells of jobs
abbrev pub weight : Event → ℕ
weight (by_command (Submit name system budget)) = SYSTEM_WEIGHT
weight (by_command (CopyJob old new)) = 1
weight (by_command (Pause name)) = 1
weight (by_command (Resume name)) = 1
weight (by_command (Cancel name)) = 1
weight (by_command (Fetch name)) = SYSTEM_WEIGHT
weight (by_command list_jobs) = LIST_WEIGHT
weight (Round name) = 1

-- of the entries of these events
abbrev pub weigh : List Event → ℕ
weigh es = sum_by weight es

-- of these entries
abbrev pub weight_of : List Entry → ℕ
weight_of log = weigh (map (λ (e : Entry). e.event) log)
