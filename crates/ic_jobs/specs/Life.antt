-- The life of a job as a history tells it.
use Rattle.std.specs.Prelude.{◌≡◌, ℕ, List, [], ◌∷◌, Bool, false, Option, None, Some, count_by, option_and_then, if◌then◌else◌}
use Rattle.std.specs.List.{list_any}
use Rattle.std.specs.Option.{option_map, option_or}
use Rattle.std.specs.Str.{bytes_eq}
use Rattle.ic_term.specs.Configuration.{Configuration}
use Rattle.ic_rules.specs.RuleSet.{Rules}
use Rattle.ic_rules.specs.System.{SystemParts}
use Rattle.ic_round.specs.Rounds.{iterate}
use Rattle.ic_jobs.specs.declared.command.Command.{Command}
use Rattle.ic_jobs.specs.declared.command.Command.TheVariants.{Submit, CopyJob, Pause, Resume, Cancel, Fetch, List as list_jobs}
use Rattle.ic_jobs.specs.declared.reply.Reply.{Reply}
use Rattle.ic_jobs.specs.declared.event.Event.{Event}
use Rattle.ic_jobs.specs.declared.event.Event.TheVariants.{Command as by_command, Round}
use Rattle.ic_jobs.specs.declared.event.Entry.{Entry}
use Rattle.ic_jobs.specs.Job.{JobParts, system_of}
use Rattle.ic_jobs.specs.Table.{job_named}
use Rattle.ic_jobs.specs.History.{table_after}
use Rattle.ic_jobs.specs.Replies.{is_accepted, is_okay, is_moved}

-- A job's rules, the configuration that it began with, and how many rounds it has made.
pub record Life : Type 0 where
  pub rules : Rules
  pub first : Configuration
  pub rounds : ℕ

-- The system that a command begins the job of a name with, in a table: that which it submits, or that
-- which the job that it copies has there.
abbrev pub command_begins : List ℕ → List JobParts → Command → Option SystemParts
command_begins name t (Submit n system budget) = if bytes_eq name n then Some system else None
command_begins name t (CopyJob old new) =
    if bytes_eq name new then option_map system_of (job_named old t) else None
command_begins name t (Pause n) = None
command_begins name t (Resume n) = None
command_begins name t (Cancel n) = None
command_begins name t (Fetch n) = None
command_begins name t list_jobs = None

abbrev pub event_begins : List ℕ → List JobParts → Event → Option SystemParts
event_begins name t (by_command c) = command_begins name t c
event_begins name t (Round n) = None

-- the system of an accepted beginning of a name
abbrev pub begins : List ℕ → List JobParts → Event → Reply → Option SystemParts
begins name t e r = if is_accepted r then event_begins name t e else None

-- a command takes out the job of a name
abbrev pub command_ends : List ℕ → Command → Bool
command_ends name (Submit n system budget) = false
command_ends name (CopyJob old new) = false
command_ends name (Pause n) = false
command_ends name (Resume n) = false
command_ends name (Cancel n) = bytes_eq name n
command_ends name (Fetch n) = false
command_ends name list_jobs = false

abbrev pub event_ends : List ℕ → Event → Bool
event_ends name (by_command c) = command_ends name c
event_ends name (Round n) = false

-- the job of a name is cancelled
abbrev pub ends : List ℕ → Event → Reply → Bool
ends name e r = if is_okay r then event_ends name e else false

-- an event is a round of the job of a name
abbrev pub event_moves : List ℕ → Event → Bool
event_moves name (by_command c) = false
event_moves name (Round n) = bytes_eq name n

-- the job of a name makes a round
abbrev pub moves : List ℕ → Event → Reply → Bool
moves name e r = if is_moved r then event_moves name e else false

-- The last beginning of a job: its system, and the entries since.
pub record Beginning : Type 0 where
  pub system : SystemParts
  pub since : List Entry

-- the last beginning of a name among the entries that came to a table
abbrev pub last_beginning : List ℕ → List JobParts → List Entry → Option Beginning
last_beginning name t [] = None
last_beginning name t (e ∷ es) =
    option_or (last_beginning name (table_after t e.event) es)
    (option_map (λ s. record { system = s; since = es }) (begins name t e.event e.reply))

-- The life of a job since it began: none if it was cancelled, else its system and the number of its
-- rounds.
abbrev pub life_since : List ℕ → Beginning → Option Life
life_since name b =
    if list_any (λ e. ends name e.event e.reply) b.since then None else
    Some (record {
      rules = b.system.rules;
      first = b.system.config;
      rounds = count_by (λ e. moves name e.event e.reply) b.since;
    })

-- the life of a name, told from the entries that came to the empty table
abbrev pub life : List ℕ → List Entry → Option Life
life name h = option_and_then (life_since name) (last_beginning name [] h)

-- A job is as its life says: it has the life's rules and its number r of rounds, and its
-- configuration is the r-th iterate of the round on the life's first configuration.
pub record HasLived (j : JobParts) (l : Life) : Type 0 where
  pub rules : j.rules ≡ l.rules
  pub rounds : j.rounds ≡ l.rounds
  pub config : j.config ≡ iterate l.rules.rules l.rounds l.first

-- there is a job exactly where there is a life, and it is as its life says
abbrev pub IsAsLived : Option JobParts → Option Life → Type 0
IsAsLived None None = Unit {0}
IsAsLived None (Some l) = ⊥
IsAsLived (Some j) None = ⊥
IsAsLived (Some j) (Some l) = HasLived j l
