-- For private functions: the next job of lines.
use Rattle.std.specs.Prelude.{◌≡◌, ◌<◌, List, false, length}
use Rattle.std.specs.List.{list_any}
use Rattle.std.specs.Str.{bytes_eq}
use Rattle.ic_jobs.specs.declared.command.Command.{Command}
use Rattle.ic_jobs.specs.declared.limits.TheConstants.{MAX_JOBS}
use Rattle.ic_batch.specs.declared.jobs.NewJob.{NewJob}
use Rattle.ic_batch.specs.Jobs.{submit_of}

-- a command submits a job with a name that none of these has, and there is room for it
pub record IsNext (jobs : List NewJob) (command : Command) (new : NewJob) : Type 0 where
  pub submits : command ≡ submit_of new
  pub other : list_any (λ job. bytes_eq job.name new.name) jobs ≡ false
  pub room : length jobs < MAX_JOBS
