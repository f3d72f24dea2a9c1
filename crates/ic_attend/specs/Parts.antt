-- A client's part of a history: its commands in order, each with its reply. This project's choice.
use Rattle.std.specs.Prelude.{◌≡◌, ℕ, ◌<◌, ◌==◌, List, map, false, Option, None, Some, if◌then◌else◌}
use Rattle.std.specs.List.{All, filter_map}
use Rattle.ic_jobs.specs.declared.command.Command.{Command}
use Rattle.ic_jobs.specs.declared.event.Event.{Event}
use Rattle.ic_jobs.specs.declared.event.Event.TheVariants.{Command as by_command, Round}
use Rattle.ic_jobs.specs.declared.event.Entry.{Entry}
use Rattle.ic_jobs.specs.declared.reply.Reply.{Reply}
use Rattle.ic_book.specs.Entries.{is_round}

-- a command with its reply; a round is no command
abbrev pub answered : Event → Reply → Option (Command × Reply)
answered (by_command command) reply = Some (command, reply)
answered (Round name) reply = None

-- what an entry answers this client: nothing where it is a round, or another client's
abbrev pub answer_to : ℕ → Entry → Option (Command × Reply)
answer_to who e = if e.who == who then answered e.event e.reply else None

-- this client's commands in order, each with its reply
abbrev pub part : ℕ → List Entry → List (Command × Reply)
part who es = filter_map (answer_to who) es

-- this client's commands in order
abbrev pub commands_in : ℕ → List Entry → List Command
commands_in who es = map (λ (a : Command × Reply). a.0) (part who es)

-- each entry is a round, or a command of one of so many clients, which are numbered from 0
abbrev pub AreOfClients : ℕ → List Entry → Type 0
AreOfClients clients es = All (λ e. is_round e.event ≡ false → e.who < clients) es
