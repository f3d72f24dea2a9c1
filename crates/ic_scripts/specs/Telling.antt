-- What clients are told, and which of several faults is told (this project's choice).
use Rattle.std.specs.Prelude.{ℕ, ◌+◌, List, [], ◌∷◌, ◌++◌, Option, None, Some, codes, ◌≡◌, Result, Ok, Err, option_map, slice_get}
use Rattle.std.specs.List.{flat_map, filter_map}
use Rattle.std.specs.Fmt.{decimal}
use Rattle.ic_jobs.specs.declared.command.Command.{Command}
use Rattle.ic_jobs.specs.declared.reply.Reply.{Reply}
use Rattle.ic_commands.specs.ReplyText.{reply_text}
use Rattle.ic_book.specs.declared.fault.BookFault.{BookFault}
use Rattle.ic_book.specs.declared.fault.BookFault.TheVariants.{Broken, LogFull, Worn, Memory, Device}
use Rattle.ic_attend.specs.declared.attended.ClientRun.{ClientRun}
use Rattle.ic_attend.specs.declared.attended.RunnerEnd.{RunnerEnd}
use Rattle.ic_attend.specs.declared.attended.RunnerEnd.TheVariants as runner
use Rattle.ic_scripts.specs.declared.fault.ScriptsFault.{ScriptsFault}
use Rattle.ic_scripts.specs.declared.fault.ScriptsFault.TheVariants.{Book, Pool}

-- why a call on a book was refused
abbrev pub book_word : BookFault → List ℕ
book_word Broken = codes "broken"
book_word LogFull = codes "log full"
book_word Worn = codes "worn"
book_word Memory = codes "memory"
book_word Device = codes "device"

-- the line before what a client is told: its number
abbrev pub client_line : ℕ → List ℕ
client_line number = codes "client " ++ decimal number ++ 10 ∷ []

-- the line of an answer
abbrev pub answer_line : Command × Reply → List ℕ
answer_line answer = reply_text answer.1 ++ 10 ∷ []

-- the line that says why a client stopped, nothing where it finished its script
abbrev pub stop_line : Option BookFault → List ℕ
stop_line None = []
stop_line (Some fault) = codes "stopped " ++ book_word fault ++ 10 ∷ []

-- what the client of this number is told
abbrev pub told_client : ℕ → ClientRun → List ℕ
told_client number run =
    client_line number ++ flat_map answer_line run.answers.items ++ stop_line run.end

-- what the clients from this number on are told
abbrev pub told_from : ℕ → List ClientRun → List ℕ
told_from number [] = []
told_from number (run ∷ runs) = told_client number run ++ told_from (number + 1) runs

-- what clients are told, one after the other
abbrev pub told : List ClientRun → List ℕ
told runs = told_from 0 runs

-- why a client stopped, if it did
abbrev pub client_fault : ClientRun → Option ScriptsFault
client_fault run = option_map Book run.end

-- the fault by which a runner ended, if it did
abbrev pub runner_fault : RunnerEnd → Option ScriptsFault
runner_fault runner.Idle = None
runner_fault (runner.Turns taken) = None
runner_fault (runner.Book fault) = Some (Book fault)
runner_fault (runner.Pool fault) = Some (Pool fault)

-- the fault of a keep
abbrev pub keep_faults : {T : Type 0} → Result T BookFault → List ScriptsFault
keep_faults (Ok done) = []
keep_faults (Err fault) = Book fault ∷ []

-- the faults of an attendance: of its clients in order, of its runners, and of the keep after them
abbrev pub faults_of : {T : Type 0} → List ClientRun → List RunnerEnd → Result T BookFault
    → List ScriptsFault
faults_of runs ends kept =
    filter_map client_fault runs ++ filter_map runner_fault ends ++ keep_faults kept

-- there is no fault, or this is the first one
abbrev pub IsFirstOf : {T : Type 0} → List ScriptsFault → Result T ScriptsFault → Type 0
IsFirstOf faults (Ok done) = faults ≡ []
IsFirstOf faults (Err fault) = slice_get faults 0 ≡ Some fault
