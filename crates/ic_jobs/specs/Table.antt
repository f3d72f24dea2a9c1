-- The job table: a list of jobs. A new one goes last.
use Rattle.std.specs.Prelude.{◌≤◌, ℕ, List, Bool, not, Option, length, map, filter, find, if◌then◌else◌}
use Rattle.std.specs.List.{AllByRecursion, IsDistinct}
use Rattle.std.specs.Str.{bytes_eq}
use Rattle.ic_jobs.specs.Job.{JobParts, IsJob}
use Rattle.ic_jobs.specs.declared.limits.TheConstants.{MAX_JOBS}

abbrev pub job_names : List JobParts → List (List ℕ)
job_names t = map (λ j. j.name) t

-- What each table keeps: not too many jobs, no two of one name.
pub record IsTable (t : List JobParts) : Type 0 where
  pub few : length t ≤ MAX_JOBS
  pub each : AllByRecursion IsJob t
  pub distinct : IsDistinct bytes_eq (job_names t)

abbrev pub is_named : List ℕ → JobParts → Bool
is_named name j = bytes_eq name j.name

-- the job of a name
abbrev pub job_named : List ℕ → List JobParts → Option JobParts
job_named name t = find (is_named name) t

-- a table with the job of a name changed
abbrev pub with_changed : List ℕ → (JobParts → JobParts) → List JobParts → List JobParts
with_changed name change t = map (λ j. if is_named name j then change j else j) t

-- a table without the job of a name; the others keep their order
abbrev pub without : List ℕ → List JobParts → List JobParts
without name t = filter (λ j. not (is_named name j)) t
