-- What a client gathers, and what it says of a history.
use Rattle.std.specs.Prelude.{◌≡◌, ◌⊎◌, ℕ, List, [], ◌∷◌, ◌++◌, None, Some, IfSome, IsSomeAnd, is_some, length, map, take, slice_get}
use Rattle.ic_jobs.specs.declared.command.Command.{Command}
use Rattle.ic_jobs.specs.declared.event.Entry.{Entry}
use Rattle.ic_jobs.specs.declared.event.Event.TheVariants.{Command as by_command}
use Rattle.ic_jobs.specs.declared.reply.Reply.{Reply}
use Rattle.ic_book.specs.declared.fault.BookFault.TheVariants.{Device}
use Rattle.ic_book.specs.Entries.{AreRounds}
use Rattle.ic_attend.specs.declared.attended.ClientRun.{ClientRun}
use Rattle.ic_attend.specs.Parts.{part}

-- the commands that a client was answered
abbrev pub asked : ClientRun → List Command
asked run = map (λ (a : Command × Reply). a.0) run.answers.items

-- A client is answered the first commands of its script in order.
abbrev pub Begins : (script : List Command) (run : ClientRun) → Type 0
Begins script run = asked run ≡ take (length (asked run)) script

-- Where it was refused a command, that is the next one of its script.
abbrev pub IsNext : (script : List Command) (run : ClientRun) → Type 0
IsNext script run =
    IfSome run.refused (λ c. (rest : List Command) × (script ≡ asked run ++ c ∷ rest))

-- A client is answered the first commands of its script in order. It has an end exactly where it was
-- refused a command, and that is the next.
pub record Follows (script : List Command) (run : ClientRun) : Type 0 where
  pub first : Begins script run
  pub next : IsNext script run
  pub ended : is_some run.end ≡ is_some run.refused

-- A client follows its script, and is answered all of it where it has no end.
pub record KeepsTo (script : List Command) (run : ClientRun) : Type 0 where
  pub follows : Follows script run
  pub finished : run.end ≡ None → asked run ≡ script

-- The answers of each client, numbered from 0, are its part of these entries.
abbrev pub AreParts : List Entry → List ClientRun → Type 0
AreParts es runs =
    (who : ℕ) (run : ClientRun) → slice_get runs who ≡ Some run → run.answers.items ≡ part who es

-- Rounds, and after them the one command at which a failing disk has ended its client.
pub record EndsUnanswered (runs : List ClientRun) (es : List Entry) : Type 0 where
  pub front : List Entry
  pub last : Entry
  pub client : ClientRun
  pub entries : es ≡ front ++ last ∷ []
  pub rounds : AreRounds front
  pub sender : slice_get runs last.who ≡ Some client
  pub failed : client.end ≡ Some Device
  pub refused : IsSomeAnd client.refused (λ c. last.event ≡ by_command c)

-- The command that this client was refused stands last among these entries.
pub record StandsLast (es : List Entry) (who : ℕ) (run : ClientRun) : Type 0 where
  pub front : List Entry
  pub last : Entry
  pub entries : es ≡ front ++ last ∷ []
  pub sender : last.who ≡ who
  pub refused : IsSomeAnd run.refused (λ c. last.event ≡ by_command c)

-- A client that a failing disk has ended is the one whose command stands last.
abbrev pub FailureStandsLast : List Entry → ℕ → ClientRun → Type 0
FailureStandsLast es who run = run.end ≡ Some Device → StandsLast es who run

abbrev pub FailuresStandLast : List ClientRun → List Entry → Type 0
FailuresStandLast runs es =
    (who : ℕ) (run : ClientRun) → slice_get runs who ≡ Some run → FailureStandsLast es who run

-- What may follow the kept entries: rounds alone, or one last command that wasn't answered.
abbrev pub MayStandAfter : List ClientRun → List Entry → Type 0
MayStandAfter runs es = AreRounds es ⊎ EndsUnanswered runs es
