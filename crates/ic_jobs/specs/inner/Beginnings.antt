-- Why a job can't begin in a table.
use Rattle.std.specs.Prelude.{ℕ, List, Option, None, Some, is_some, length, nat_lt, if◌then◌else◌}
use Rattle.ic_jobs.specs.declared.limits.TheConstants.{MAX_JOBS}
use Rattle.ic_jobs.specs.declared.reply.Refusal.{Refusal}
use Rattle.ic_jobs.specs.declared.reply.Refusal.TheVariants.{Taken, Full}
use Rattle.ic_jobs.specs.Job.{JobParts}
use Rattle.ic_jobs.specs.Table.{job_named}

-- why no job of a name can begin: the name is taken, or else the table is full
abbrev pub refusal_to_begin : List ℕ → List JobParts → Option Refusal
refusal_to_begin name t =
    if is_some (job_named name t) then Some Taken else
    (if nat_lt (length t) MAX_JOBS then None else Some Full)
