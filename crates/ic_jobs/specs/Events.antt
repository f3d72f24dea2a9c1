-- The events of a job table: commands, and rounds of its jobs.
use Rattle.std.specs.Prelude.{◌≡◌, ℕ, List, [], ◌∷◌, ◌++◌, Option, None, Some, is_some, length, nat_lt, if◌then◌else◌}
use Rattle.ic_rules.specs.System.{SystemParts}
use Rattle.ic_jobs.specs.declared.limits.TheConstants.{MAX_JOBS}
use Rattle.ic_jobs.specs.declared.state.State.TheVariants as state
use Rattle.ic_jobs.specs.declared.command.Command.{Command}
use Rattle.ic_jobs.specs.declared.command.Command.TheVariants.{Submit, CopyJob, Pause, Resume, Cancel, Fetch, List as list_jobs}
use Rattle.ic_jobs.specs.declared.reply.Reply.{Reply}
use Rattle.ic_jobs.specs.declared.reply.Reply.TheVariants.{Accepted, Okay, Shown, Listed, Refused, Moved, Halted}
use Rattle.ic_jobs.specs.declared.reply.Refusal.{Refusal}
use Rattle.ic_jobs.specs.declared.reply.Refusal.TheVariants.{Taken, Full, NoJob, NotRunning, NotPaused}
use Rattle.ic_jobs.specs.declared.event.Event.{Event}
use Rattle.ic_jobs.specs.declared.event.Event.TheVariants.{Command as by_command, Round}
use Rattle.ic_jobs.specs.State.{is_running, is_paused}
use Rattle.ic_jobs.specs.Job.{JobParts, begun, system_of, can_move, moved, in_state}
use Rattle.ic_jobs.specs.Table.{job_named, with_changed, without}
use Rattle.ic_jobs.specs.Shown.{shown, listed}

-- What an event leaves: a table, and a reply.
pub record Outcome : Type 0 where
  pub table : List JobParts
  pub reply : Reply

abbrev pub outcome : List JobParts → Reply → Outcome
outcome t r = record { table = t; reply = r }

-- a refusal leaves the table as it is
abbrev pub refused : List JobParts → Refusal → Outcome
refused t r = outcome t (Refused r)

-- A new job goes last, unless its name is taken or the table is full.
abbrev pub submitted : List JobParts → List ℕ → SystemParts → Option ℕ → Outcome
submitted t name system budget =
    if is_some (job_named name t) then refused t Taken else
    (if nat_lt (length t) MAX_JOBS then outcome (t ++ begun name system budget ∷ []) Accepted
    else refused t Full)

-- what comes of a job; without one the answer is `NoJob`
abbrev pub unless_missing : List JobParts → (JobParts → Outcome) → Option JobParts → Outcome
unless_missing t what None = refused t NoJob
unless_missing t what (Some j) = what j

-- A copy of a job is a new job: it begins with the rules and the configuration that the job has, and
-- with no budget.
abbrev pub copied : List JobParts → List ℕ → JobParts → Outcome
copied t new j = submitted t new (system_of j) None

-- A running job is paused.
abbrev pub paused : List JobParts → List ℕ → JobParts → Outcome
paused t name j =
    if is_running j.state then outcome (with_changed name (in_state state.Paused) t) Okay
    else refused t NotRunning

-- A paused job runs again.
abbrev pub resumed : List JobParts → List ℕ → JobParts → Outcome
resumed t name j =
    if is_paused j.state then outcome (with_changed name (in_state state.Running) t) Okay
    else refused t NotPaused

-- A command, and what it leaves. Cancel removes a job in any state.
abbrev pub after_command : List JobParts → Command → Outcome
after_command t (Submit name system budget) = submitted t name system budget
after_command t (CopyJob old new) = unless_missing t (copied t new) (job_named old t)
after_command t (Pause name) = unless_missing t (paused t name) (job_named name t)
after_command t (Resume name) = unless_missing t (resumed t name) (job_named name t)
after_command t (Cancel name) =
    unless_missing t (λ j. outcome (without name t) Okay) (job_named name t)
after_command t (Fetch name) =
    unless_missing t (λ j. outcome t (Shown (shown j))) (job_named name t)
after_command t list_jobs = outcome t (Listed (listed t))

-- A running job makes a round where it can, and is halted where it can't.
abbrev pub after_round : List JobParts → List ℕ → JobParts → Outcome
after_round t name j =
    if can_move j then outcome (with_changed name moved t) Moved else
    outcome (with_changed name (in_state state.Halted) t) Halted

-- a round is an event only of a job that is there and runs
abbrev pub where_running : (JobParts → Outcome) → Option JobParts → Option Outcome
where_running what None = None
where_running what (Some j) = if is_running j.state then Some (what j) else None

-- an event, and what it leaves where it is defined
abbrev pub apply : List JobParts → Event → Option Outcome
apply t (by_command c) = Some (after_command t c)
apply t (Round name) = where_running (after_round t name) (job_named name t)

-- An event is defined here, and this is the reply to it.
pub record IsAnswered (t : List JobParts) (e : Event) (r : Reply) : Type 0 where
  pub outcome : Outcome
  pub defined : apply t e ≡ Some outcome
  pub replied : outcome.reply ≡ r
