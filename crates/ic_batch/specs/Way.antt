-- How far a batch takes a job, and what is on a disk meanwhile (this project's choice).
use Rattle.std.specs.Prelude.{◌≡◌, ◌⊎◌, ◌&&◌, ◌++◌, ℕ, zero, suc, List, Bool, false, not, is_some, nat_lt, if◌then◌else◌, filter, map, IfSome}
use Rattle.std.specs.List.{AllByRecursion, AllZip, flat_map}
use Rattle.ic_jobs.specs.declared.command.Command.TheVariants.{Fetch}
use Rattle.ic_jobs.specs.declared.state.State.TheVariants.{Halted}
use Rattle.ic_jobs.specs.Events.{after_command}
use Rattle.ic_jobs.specs.State.{is_running}
use Rattle.ic_jobs.specs.Job.{JobParts, can_move, moved, in_state}
use Rattle.ic_jobs.specs.Table.{job_named}
use Rattle.ic_jobs.specs.Shown.{shown}
use Rattle.ic_commands.specs.ReplyText.{reply_text, shown_text}
use Rattle.ic_lines.specs.Lines.{ended}
use Rattle.ic_batch.specs.declared.jobs.NewJob.{NewJob}
use Rattle.ic_batch.specs.Jobs.{begun_by}

-- a batch goes on with a job that runs and has made fewer rounds than it may
abbrev pub goes_on : ℕ → JobParts → Bool
goes_on most j = is_running j.state && nat_lt j.rounds most

-- a running job after its next event: a round where it can make one, and else its halt
abbrev pub after_event : JobParts → JobParts
after_event j = if can_move j then moved j else in_state Halted j

-- the same of a job with which a batch goes on; any other stays as it is
abbrev pub gone_on : ℕ → JobParts → JobParts
gone_on most j = if goes_on most j then after_event j else j

-- a round of a job is to be made: a batch goes on with it, and it can make one
abbrev pub has_round : ℕ → JobParts → Bool
has_round most j = goes_on most j && can_move j

-- a job after so many events
abbrev pub after : ℕ → ℕ → JobParts → JobParts
after most zero j = j
after most (suc n) j = gone_on most (after most n j)

-- a job is on the way that a batch takes another one
abbrev pub IsOnWay : (most : ℕ) (from : JobParts) → JobParts → Type 0
IsOnWay most from j = (n : ℕ) × (j ≡ after most n from)

-- a job is the end of the way
pub record ComesTo (most : ℕ) (from end : JobParts) : Type 0 where
  pub on_way : IsOnWay most from end
  pub ends : goes_on most end ≡ false

-- those of some jobs whose names no job of a table has, in their order
abbrev pub missing : (t : List JobParts) → List NewJob → List NewJob
missing t jobs = filter (λ new. not (is_some (job_named new.name t))) jobs

-- what a batch takes to its end: the jobs of a table, and after them those that are missing there
abbrev pub all_of : List NewJob → (t : List JobParts) → List JobParts
all_of jobs t = t ++ map begun_by (missing t jobs)

-- These jobs are on the ways of those, one by one.
abbrev pub AreWays : (most : ℕ) (from : List JobParts) → List JobParts → Type 0
AreWays most from t = AllZip (IsOnWay most) from t

-- A batch may take one table to another: each job is there still, on its way, and after these jobs
-- come the first of those that were missing, on theirs.
pub record IsUnderWay (most : ℕ) (jobs : List NewJob) (old t : List JobParts) : Type 0 where
  pub front : List NewJob
  pub rest : List NewJob
  pub parted : missing old jobs ≡ front ++ rest
  pub ways : AreWays most (old ++ map begun_by front) t

-- it takes the table to this one in the end: each job has come to its end
abbrev pub HaveEnded : (most : ℕ) → List NewJob → (old t : List JobParts) → Type 0
HaveEnded most jobs old t = AllZip (ComesTo most) (all_of jobs old) t

-- the table that was kept before, or one of these
abbrev pub IsKeptOr : (kept : List JobParts) → (List JobParts → Type 0) → List JobParts → Type 0
IsKeptOr kept such u = (u ≡ kept) ⊎ such u

-- Each of these jobs that is in a table is there as it was on its way. So it is in a table without
-- jobs, and in each that a batch leaves, wherever it is stopped.
abbrev pub AreOnWay : (most : ℕ) → List NewJob → (t : List JobParts) → Type 0
AreOnWay most jobs t =
    AllByRecursion (λ new. IfSome (job_named new.name t) (IsOnWay most (begun_by new))) jobs

-- what the fetch of a job is answered over a table, with its line feed
abbrev pub fetched : List JobParts → NewJob → List ℕ
fetched t new = ended (reply_text (after_command t (Fetch new.name)).reply)

-- what the fetches of these jobs are answered
abbrev pub fetched_all : List NewJob → (t : List JobParts) → List ℕ
fetched_all jobs t = flat_map (fetched t) jobs

-- the line of each job
abbrev pub lines_of : List JobParts → List ℕ
lines_of js = flat_map (λ j. ended (shown_text (shown j))) js

-- What a batch writes of jobs: the line of the end to which each comes, in their order.
abbrev pub IsTextOf : (most : ℕ) → List NewJob → List ℕ → Type 0
IsTextOf most jobs text = (ends : List JobParts)
    × AllZip (λ new end. ComesTo most (begun_by new) end) jobs ends × (text ≡ lines_of ends)
