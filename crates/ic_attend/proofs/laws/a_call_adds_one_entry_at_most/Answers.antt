use Rattle.std.proofs.Common.{ℕ, List, inl, inr, refl}
use Rattle.std.specs.Prelude.{Result, Ok, Err}
use Rattle.ic_disk.specs.declared.disk.Disk.{Ghosts}
use Rattle.ic_jobs.specs.declared.command.Command.{Command}
use Rattle.ic_jobs.specs.declared.landed.Landed.{Landed}
use Rattle.ic_jobs.specs.declared.landed.Landed.TheVariants.{Moved}
use Rattle.ic_jobs.specs.declared.reply.Reply.{Reply}
use Rattle.ic_book.specs.declared.book.Book.{Book}
use Rattle.ic_book.specs.declared.fault.BookFault.{BookFault}
use Rattle.ic_book.specs.declared.fault.BookFault.TheVariants.{Device}
use Rattle.ic_book.specs.Book.{log_of}
use Rattle.ic_book.specs.Entries.{command_entry, round_entry}
use Rattle.ic_book.specs.Moves.{round_move}
use Rattle.ic_book.specs.Server.{Step, StepsByCommand, up}
use Rattle.ic_attend.specs.Desk.{AddsOneAtMost}
use Rattle.ic_attend.proofs.laws.a_call_adds_one_entry_at_most.Goals as goal

by_command : {D : Type 0} {ghosts : Ghosts D} (who : ℕ) (command : Command) (result : Result Reply BookFault) (old new : Book D ghosts)
    → StepsByCommand who command result old new → AddsOneAtMost (log_of old) (log_of new)
by_command who command (Ok reply) old new step = inr (command_entry who command reply, step.answered.page.0.adds.entry)
by_command who command (Err Device) old new step = let failed = step.failed refl in inr (command_entry who command failed.0, failed.1.page.0.adds.entry)
by_command who command _ old new step = inl (step.refused refl (λ e. cc)).page.0.log

by_round : {D : Type 0} {ghosts : Ghosts D} (name : List ℕ) (reply : Reply) (result : Result Landed BookFault) (old new : Book D ghosts)
    → Step (round_move name reply result) (up old) (up new) → AddsOneAtMost (log_of old) (log_of new)
by_round name reply (Ok Moved) old new step = inr (round_entry name reply, step.page.0.adds.entry)
by_round name reply _ old new step = inl step.page.0.log

pub returns-clause-commanded : goal.returns-clause-commanded
returns-clause-commanded g c = λ who command result call. by_command who command result call.old call.new call.step

pub returns-clause-landed : goal.returns-clause-landed
returns-clause-landed g c = λ name rules config rounds reply result call. by_round name reply result call.old call.new call.step
