-- The names that events mention, and those of a table after an event.
use Rattle.std.specs.Prelude.{ℕ, List, [], ◌∷◌, ◌++◌, Bool, false, ◌||◌, not, filter, if◌then◌else◌}
use Rattle.std.specs.Str.{bytes_eq}
use Rattle.ic_jobs.specs.declared.command.Command.{Command}
use Rattle.ic_jobs.specs.declared.command.Command.TheVariants.{Submit, CopyJob, Pause, Resume, Cancel, Fetch, List as list_jobs}
use Rattle.ic_jobs.specs.declared.event.Event.{Event}
use Rattle.ic_jobs.specs.declared.event.Event.TheVariants.{Command as by_command, Round}
use Rattle.ic_jobs.specs.declared.reply.Reply.{Reply}
use Rattle.ic_jobs.specs.Replies.{is_accepted, is_okay}

-- a command is about the job of a name
abbrev pub command_mentions : List ℕ → Command → Bool
command_mentions name (Submit n system budget) = bytes_eq name n
command_mentions name (CopyJob old new) = bytes_eq name old || bytes_eq name new
command_mentions name (Pause n) = bytes_eq name n
command_mentions name (Resume n) = bytes_eq name n
command_mentions name (Cancel n) = bytes_eq name n
command_mentions name (Fetch n) = bytes_eq name n
command_mentions name list_jobs = false

-- an event is about the job of a name
abbrev pub mentions : List ℕ → Event → Bool
mentions name (by_command c) = command_mentions name c
mentions name (Round n) = bytes_eq name n

-- the names of a command
abbrev pub command_names : Command → List (List ℕ)
command_names (Submit n system budget) = n ∷ []
command_names (CopyJob old new) = old ∷ new ∷ []
command_names (Pause n) = n ∷ []
command_names (Resume n) = n ∷ []
command_names (Cancel n) = n ∷ []
command_names (Fetch n) = n ∷ []
command_names list_jobs = []

-- the names of an event
abbrev pub event_names : Event → List (List ℕ)
event_names (by_command c) = command_names c
event_names (Round n) = n ∷ []

-- names with one more after them
abbrev pub with_name : List ℕ → List (List ℕ) → List (List ℕ)
with_name n names = names ++ n ∷ []

-- names but this one, in their order
abbrev pub but : List ℕ → List (List ℕ) → List (List ℕ)
but n names = filter (λ m. not (bytes_eq n m)) names

-- the names of a table after a command that was answered so
abbrev pub names_after_command : List (List ℕ) → Command → Reply → List (List ℕ)
names_after_command names (Submit n s budget) r = if is_accepted r then with_name n names else names
names_after_command names (CopyJob old new) r =
    if is_accepted r then with_name new names else names
names_after_command names (Pause n) r = names
names_after_command names (Resume n) r = names
names_after_command names (Cancel n) r = if is_okay r then but n names else names
names_after_command names (Fetch n) r = names
names_after_command names list_jobs r = names

-- the names of a table after an event that was answered so
abbrev pub names_after : List (List ℕ) → Event → Reply → List (List ℕ)
names_after names (by_command c) r = names_after_command names c r
names_after names (Round n) r = names
