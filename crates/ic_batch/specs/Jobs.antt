-- The jobs that lines submit (this project's choice).
use Rattle.std.specs.Prelude.{◌≤◌, ℕ, List, Ok, length, map}
use Rattle.std.specs.List.{IsDistinct}
use Rattle.std.specs.Str.{bytes_eq}
use Rattle.ic_jobs.specs.declared.command.Command.{Command}
use Rattle.ic_jobs.specs.declared.command.Command.TheVariants.{Submit}
use Rattle.ic_jobs.specs.declared.limits.TheConstants.{MAX_JOBS}
use Rattle.ic_jobs.specs.Job.{JobParts, begun}
use Rattle.ic_lines.specs.Script.{ReadsScript}
use Rattle.ic_batch.specs.declared.jobs.NewJob.{NewJob}

-- the job as it begins
abbrev pub begun_by : NewJob → JobParts
begun_by new = begun new.name new.system new.budget

-- the command that submits it
abbrev pub submit_of : NewJob → Command
submit_of new = Submit new.name new.system new.budget

abbrev pub names : List NewJob → List (List ℕ)
names jobs = map (λ new. new.name) jobs

-- These are the jobs of a text of lines: it is read as the script of the commands that submit them,
-- and a disk without a job takes all of them.
pub record AreJobsOf (text : List ℕ) (jobs : List NewJob) : Type 0 where
  pub read : ReadsScript text (Ok (map submit_of jobs))
  pub distinct : IsDistinct bytes_eq (names jobs)
  pub few : length jobs ≤ MAX_JOBS
