-- Entries of a history: what a command and a round add to it. This project's choice.
use Rattle.std.specs.Prelude.{◌≡◌, ◌⊎◌, ℕ, List, [], ◌∷◌, ◌++◌, Bool, true, false, Some, IsTrue}
use Rattle.std.specs.List.{AllByRecursion}
use Rattle.ic_jobs.specs.declared.command.Command.{Command}
use Rattle.ic_jobs.specs.declared.event.Event.{Event}
use Rattle.ic_jobs.specs.declared.event.Event.TheVariants.{Command as by_command, Round}
use Rattle.ic_jobs.specs.declared.event.Entry.{Entry}
use Rattle.ic_jobs.specs.declared.reply.Reply.{Reply}
use Rattle.ic_jobs.specs.declared.reply.Reply.TheVariants.{Accepted, Okay, Shown, Listed, Refused, Moved, Halted}
use Rattle.ic_jobs.specs.Job.{JobParts}
use Rattle.ic_jobs.specs.Events.{apply, outcome}

abbrev pub is_round : Event → Bool
is_round (by_command c) = false
is_round (Round name) = true

-- each of these entries is a round
abbrev pub AreRounds : List Entry → Type 0
AreRounds es = AllByRecursion (λ e. IsTrue (is_round e.event)) es

-- an entry of a round has the sender 0
abbrev pub RoundHasSenderZero : Entry → Type 0
RoundHasSenderZero e = IsTrue (is_round e.event) → e.who ≡ 0

abbrev pub command_entry : ℕ → Command → Reply → Entry
command_entry who command reply = record { who = who; event = by_command command; reply = reply }

abbrev pub round_entry : List ℕ → Reply → Entry
round_entry name reply = record { who = 0; event = Round name; reply = reply }

-- A round's entry: its sender is 0, and its reply is what became of its job.
pub record IsRoundEntry (e : Entry) : Type 0 where
  pub name : List ℕ
  pub event : e.event ≡ Round name
  pub who : e.who ≡ 0
  pub reply : (e.reply ≡ Moved) ⊎ (e.reply ≡ Halted)

-- One entry more, whose event leaves the new table and is answered by the entry's reply.
pub record Adds (e : Entry) (old_log new_log : List Entry) (old new : List JobParts) : Type 0 where
  pub entry : new_log ≡ old_log ++ e ∷ []
  pub event : apply old e.event ≡ Some (outcome new e.reply)

abbrev pub AddsCommand : (who : ℕ) (command : Command) (reply : Reply)
    (old_log new_log : List Entry) (old new : List JobParts) → Type 0
AddsCommand who command reply old_log new_log old new =
    Adds (command_entry who command reply) old_log new_log old new

abbrev pub AddsRound : (name : List ℕ) (reply : Reply)
    (old_log new_log : List Entry) (old new : List JobParts) → Type 0
AddsRound name reply old_log new_log old new =
    Adds (round_entry name reply) old_log new_log old new

-- a reply to a command that leaves the table as it is
abbrev pub leaves_table : Reply → Bool
leaves_table Accepted = false
leaves_table Okay = false
leaves_table (Shown job) = true
leaves_table (Listed jobs) = true
leaves_table (Refused refusal) = true
leaves_table Moved = false
leaves_table Halted = false
