-- What one server is asked to do with the same jobs (this project's choice).
use Rattle.std.specs.Prelude.{ℕ, List, Ok, codes, map}
use Rattle.ic_jobs.specs.declared.command.Command.TheVariants.{Fetch}
use Rattle.ic_jobs.specs.Job.{JobParts}
use Rattle.ic_commands.specs.declared.line.Line.TheVariants.{Command as Asks, Run}
use Rattle.ic_lines.specs.Answers.{Reading, after}
use Rattle.ic_lines.specs.Lines.{ended}
use Rattle.ic_batch.specs.declared.jobs.NewJob.{NewJob}
use Rattle.ic_batch.specs.Jobs.{begun_by}

-- a line that runs jobs, and one that fetches a job
abbrev pub runs_jobs : ℕ → Reading
runs_jobs k = Ok (Run k)

abbrev pub fetches : NewJob → Reading
fetches new = Ok (Asks (Fetch new.name))

-- what the line of a job is answered where it is served
abbrev pub accepted : NewJob → List ℕ
accepted new = ended (codes "accepted")

-- the table of a server that was given the jobs, and then these runs
abbrev pub run_together : List NewJob → (runs : List ℕ) → List JobParts
run_together jobs runs = after (map begun_by jobs) (map runs_jobs runs)
