-- What an event answers, and the state of the job of its name before and after it.
use Rattle.std.specs.Prelude.{◌≡◌, ℕ, ◌+◌, List, [], ◌∷◌, map, Bool, true, false, Option, None, Some, length, nat_lt, if◌then◌else◌}
use Rattle.std.specs.Option.{option_map}
use Rattle.ic_round.specs.Rounds.{round}
use Rattle.ic_jobs.specs.declared.limits.TheConstants.{MAX_JOBS}
use Rattle.ic_jobs.specs.declared.state.State.{State}
use Rattle.ic_jobs.specs.declared.state.State.TheVariants as state
use Rattle.ic_jobs.specs.declared.command.Command.{Command}
use Rattle.ic_jobs.specs.declared.command.Command.TheVariants.{Submit, CopyJob, Pause, Resume, Cancel, Fetch, List as list_jobs}
use Rattle.ic_jobs.specs.declared.event.Event.{Event}
use Rattle.ic_jobs.specs.declared.event.Event.TheVariants.{Command as by_command, Round}
use Rattle.ic_jobs.specs.declared.reply.Reply.{Reply}
use Rattle.ic_jobs.specs.declared.reply.Reply.TheVariants.{Accepted, Okay, Shown, Listed, Refused, Moved, Halted}
use Rattle.ic_jobs.specs.declared.reply.Refusal.TheVariants.{Taken, Full, NoJob, NotRunning, NotPaused}
use Rattle.ic_jobs.specs.Job.{JobParts, state_after, open_state, can_move}
use Rattle.ic_jobs.specs.Table.{job_named}
use Rattle.ic_jobs.specs.Shown.{shown, listed}
use Rattle.ic_jobs.specs.Events.{Outcome, outcome, apply}
use Rattle.ic_jobs.specs.Names.{command_names}

-- the state of the job of a name, where there is one
abbrev pub state_of : List ℕ → List JobParts → Option State
state_of name t = option_map (λ j. j.state) (job_named name t)

-- An event is defined here and has this reply, and it leaves the job of a name in this state (or no
-- such job).
pub record Leads (t : List JobParts) (e : Event) (r : Reply) (name : List ℕ)
    (after : Option State) : Type 0 where
  pub outcome : Outcome
  pub defined : apply t e ≡ Some outcome
  pub replied : outcome.reply ≡ r
  pub left : state_of name outcome.table ≡ after

-- A row of the tables below: a reply, and the state that the job is left in, where there is one.
pub record Row : Type 0 where
  pub reply : Reply
  pub after : Option State

abbrev pub row : Reply → Option State → Row
row r s = record { reply = r; after = s }

-- a submit of a job that begins in this state, by the state before and whether the table has room
abbrev pub submit_row : State → Option State → Bool → Row
submit_row begins (Some was) room = row (Refused Taken) (Some was)
submit_row begins None true = row Accepted (Some begins)
submit_row begins None false = row (Refused Full) None

-- a copy, by the job that is copied and the state of the new one before
abbrev pub copy_row : Option JobParts → Option State → Bool → Row
copy_row None was room = row (Refused NoJob) was
copy_row (Some j) was room = submit_row (open_state j.rules j.config) was room

-- a pause, by the state before
abbrev pub pause_row : Option State → Row
pause_row None = row (Refused NoJob) None
pause_row (Some state.Running) = row Okay (Some state.Paused)
pause_row (Some state.Paused) = row (Refused NotRunning) (Some state.Paused)
pause_row (Some state.Done) = row (Refused NotRunning) (Some state.Done)
pause_row (Some state.Halted) = row (Refused NotRunning) (Some state.Halted)
pause_row (Some state.Spent) = row (Refused NotRunning) (Some state.Spent)

-- a resume, by the state before
abbrev pub resume_row : Option State → Row
resume_row None = row (Refused NoJob) None
resume_row (Some state.Running) = row (Refused NotPaused) (Some state.Running)
resume_row (Some state.Paused) = row Okay (Some state.Running)
resume_row (Some state.Done) = row (Refused NotPaused) (Some state.Done)
resume_row (Some state.Halted) = row (Refused NotPaused) (Some state.Halted)
resume_row (Some state.Spent) = row (Refused NotPaused) (Some state.Spent)

-- a cancel, by the state before
abbrev pub cancel_row : Option State → Row
cancel_row None = row (Refused NoJob) None
cancel_row (Some was) = row Okay None

-- what a fetch answers, by the job
abbrev pub fetch_reply : Option JobParts → Reply
fetch_reply None = Refused NoJob
fetch_reply (Some j) = Shown (shown j)

-- a round of a job in this state; none is defined of one that doesn't run
abbrev pub round_row_in : State → JobParts → Option Row
round_row_in state.Running j =
    if can_move j
    then Some (row Moved
    (Some (state_after j.rules (round j.rules.rules j.config) (j.rounds + 1) j.budget)))
    else Some (row Halted (Some state.Halted))
round_row_in state.Paused j = None
round_row_in state.Done j = None
round_row_in state.Halted j = None
round_row_in state.Spent j = None

-- a round, by its job
abbrev pub round_row : Option JobParts → Option Row
round_row None = None
round_row (Some j) = round_row_in j.state j

-- an event goes as a row says of the job of a name
abbrev pub LeadsBy : List JobParts → Event → List ℕ → Row → Type 0
LeadsBy t e name w = Leads t e w.reply name w.after

-- an event goes as a row says, or isn't defined where there is no row
abbrev pub LeadsWhere : List JobParts → Event → List ℕ → Option Row → Type 0
LeadsWhere t e name None = apply t e ≡ None
LeadsWhere t e name (Some w) = LeadsBy t e name w

-- What a command leads to: it only tells, and leaves the whole table as it was; or it is answered
-- and leaves the jobs that it names, in their order, in these states.
pub data CommandRow : Type 0 where
  tells : Reply → CommandRow
  leaves : Reply → List (Option State) → CommandRow

-- one that names one job goes by a row
abbrev pub leaves_one : Row → CommandRow
leaves_one w = leaves w.reply (w.after ∷ [])

-- one that names two jobs leaves the first in this state, and the second goes by a row
abbrev pub leaves_two : Option State → Row → CommandRow
leaves_two first w = leaves w.reply (first ∷ w.after ∷ [])

-- the table of the commands
abbrev pub command_row : List JobParts → Command → CommandRow
command_row t (Submit n s budget) = leaves_one
    (submit_row (open_state s.rules s.config) (state_of n t) (nat_lt (length t) MAX_JOBS))
command_row t (CopyJob old new) = leaves_two (state_of old t)
    (copy_row (job_named old t) (state_of new t) (nat_lt (length t) MAX_JOBS))
command_row t (Pause n) = leaves_one (pause_row (state_of n t))
command_row t (Resume n) = leaves_one (resume_row (state_of n t))
command_row t (Cancel n) = leaves_one (cancel_row (state_of n t))
command_row t (Fetch n) = tells (fetch_reply (job_named n t))
command_row t list_jobs = tells (Listed (listed t))

-- A command has this reply, and it leaves the jobs of these names in these states (or none of that
-- name).
pub record LeadsEach (t : List JobParts) (c : Command) (r : Reply) (names : List (List ℕ))
    (after : List (Option State)) : Type 0 where
  pub outcome : Outcome
  pub defined : apply t (by_command c) ≡ Some outcome
  pub replied : outcome.reply ≡ r
  pub left : map (λ name. state_of name outcome.table) names ≡ after

-- a command goes as a row says
abbrev pub CommandLeadsBy : List JobParts → Command → CommandRow → Type 0
CommandLeadsBy t c (tells r) = apply t (by_command c) ≡ Some (outcome t r)
CommandLeadsBy t c (leaves r after) = LeadsEach t c r (command_names c) after

-- what is said of each command
abbrev pub CommandLeads : List JobParts → Command → Type 0
CommandLeads t c = CommandLeadsBy t c (command_row t c)

-- what is said of each event
abbrev pub EventLeads : List JobParts → Event → Type 0
EventLeads t (by_command c) = CommandLeads t c
EventLeads t (Round n) = LeadsWhere t (Round n) n (round_row (job_named n t))
