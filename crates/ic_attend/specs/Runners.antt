-- What a runner's end says of a table and its history.
use Rattle.std.specs.Prelude.{◌≡◌, ℕ, ◌≤◌, List, false}
use Rattle.std.specs.List.{All, count_by}
use Rattle.ic_jobs.specs.declared.event.Entry.{Entry}
use Rattle.ic_jobs.specs.Job.{JobParts}
use Rattle.ic_jobs.specs.State.{is_running}
use Rattle.ic_book.specs.Entries.{is_round}
use Rattle.ic_attend.specs.declared.attended.RunnerEnd.{RunnerEnd}
use Rattle.ic_attend.specs.declared.attended.RunnerEnd.TheVariants.{Idle, Turns, Book as by_book, Pool as by_pool}

-- no job of the table runs
abbrev pub NoneRuns : List JobParts → Type 0
NoneRuns table = All (λ j. is_running j.state ≡ false) table

-- how many rounds stand among these entries
abbrev pub rounds_among : List Entry → ℕ
rounds_among es = count_by (λ e. is_round e.event) es

-- An idle runner leaves no job that runs. One that used up its turns took so many rounds, and leaves
-- at least these.
abbrev pub EndHolds : (turns : ℕ) (table : List JobParts) (log : List Entry) → RunnerEnd → Type 0
EndHolds turns table log Idle = NoneRuns table
EndHolds turns table log (Turns taken) = (taken ≡ turns) × (taken ≤ rounds_among log)
EndHolds turns table log (by_book fault) = Unit {0}
EndHolds turns table log (by_pool fault) = Unit {0}
