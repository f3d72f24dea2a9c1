-- Which values may cross threads. Each step is proved by itself: all at once is too much for one search.
use denote.RattleType.{RattleType}
use denote.Param.Send.{IsSend, IsSync, sendable}
use Rattle.std.proofs.Crossing.{crosses}
use Rattle.ic_flat.proofs.word.Word.TheSendSync as word
use Rattle.ic_rules.proofs.job_name.JobName.TheSendSync as name
use Rattle.ic_jobs.proofs.budget.Budget.TheSendSync as budget
use Rattle.ic_jobs.proofs.shown.JobList.TheSendSync as list
use Rattle.ic_jobs.proofs.state.State.TheSendSync as state
use Rattle.ic_jobs.proofs.reply.Refusal.TheSendSync as refusal
use Rattle.ic_crew.specs.contracts.posts.Line as Line
use Rattle.ic_crew.specs.contracts.crews.Crew as Crew
use Rattle.ic_crew.specs.lemmas.Crossings.{RuleSet_send, RuleSet_sync, Parcel_send, Returned_send}
use Rattle.ic_flat.specs.contracts.flat.Flat as Flat
use Rattle.ic_flat.specs.contracts.wide.WideFlat as WideFlat
use Rattle.ic_flat.specs.contracts.system.FlatSystem as FlatSystem
use Rattle.ic_flat_rules.specs.contracts.flat_rules.FlatRules as FlatRules
use Rattle.ic_jobs.specs.contracts.command.Command as Command
use Rattle.ic_jobs.specs.contracts.event.Event as Event
use Rattle.ic_jobs.specs.contracts.event.Entry as Entry
use Rattle.ic_jobs.specs.contracts.reply.Reply as Reply
use Rattle.ic_jobs.specs.contracts.shown.ShownJob as ShownJob
use Rattle.ic_jobs.specs.contracts.job.Job as Job
use Rattle.ic_jobs.specs.contracts.table.Table as Table
use Rattle.ic_disk.specs.declared.disk.Disk.{Ghosts}
use Rattle.ic_slots.proofs.keeper.Keeper.TheSendSync as keeper
use Rattle.ic_book.specs.contracts.book.Book as Book
use Rattle.ic_attend.specs.contracts.desk.Desk as Desk
use Rattle.ic_attend.specs.contracts.attended.ClientRun as ClientRun
use Rattle.ic_attend.specs.contracts.client.Speech as Speech

WideFlat_send : IsSend WideFlat.the_field.row
WideFlat_send = search (word.the_field_send, sendable, crosses) depth 40

WideFlat_sync : IsSync WideFlat.the_field.row
WideFlat_sync = search (word.the_field_sync, sendable, crosses) depth 40

Flat_send : IsSend Flat.the_field.row
Flat_send = search (WideFlat_send, sendable, crosses) depth 40

Flat_sync : IsSync Flat.the_field.row
Flat_sync = search (WideFlat_sync, sendable, crosses) depth 40

FlatRules_send : IsSend FlatRules.the_field.row
FlatRules_send = search (RuleSet_send, RuleSet_sync, word.the_field_send, sendable, crosses) depth 40

FlatRules_sync : IsSync FlatRules.the_field.row
FlatRules_sync = search (RuleSet_send, RuleSet_sync, word.the_field_sync, sendable, crosses) depth 40

FlatSystem_send : IsSend FlatSystem.the_field.row
FlatSystem_send = search (Flat_send, RuleSet_send, RuleSet_sync, sendable, crosses) depth 40

pub Command_send : IsSend Command.the_field.row
Command_send = search (FlatSystem_send, name.the_send, budget.the_send, sendable, crosses) depth 40

ShownJob_send : IsSend ShownJob.the_field.row
ShownJob_send = search (Flat_send, Flat_sync, FlatRules_send, FlatRules_sync, name.the_send, state.the_field_send, sendable, crosses) depth 40

pub Reply_send : IsSend Reply.the_field.row
Reply_send = search (ShownJob_send, list.the_send, refusal.the_field_send, sendable, crosses) depth 40

Event_send : IsSend Event.the_field.row
Event_send = search (Command_send, name.the_send, sendable, crosses) depth 40

pub Entry_send : IsSend Entry.the_field.row
Entry_send = search (Event_send, Reply_send, sendable, crosses) depth 40

Job_send : IsSend Job.the_field.row
Job_send = search (Flat_send, Flat_sync, FlatRules_send, FlatRules_sync, name.the_send, state.the_field_send, budget.the_send, sendable, crosses) depth 40

pub Table_send : IsSend Table.the_field.row
Table_send = search (Job_send, sendable, crosses) depth 40

ClientRun_send : IsSend ClientRun.the_field.row
ClientRun_send = search (Command_send, Reply_send, sendable, crosses) depth 40

pub Speech_send : IsSend Speech.the_field.row
Speech_send = search (ClientRun_send, sendable, crosses) depth 40

Book_send : (D : RattleType) (g : Ghosts D.Denot) → IsSend D → IsSend (Book.the_field D g).row
Book_send D g s = let k = keeper.the_field_send D g s in search (Table_send, Entry_send, sendable, crosses) depth 40

pub Command_row_send : IsSend Command.the_row
Command_row_send = search (FlatSystem_send, name.the_send, budget.the_send, sendable, crosses) depth 40

pub Desk_row_sync : (D : RattleType) (g : Ghosts D.Denot) → IsSend D → IsSync (Desk.the_row D g)
Desk_row_sync D g s = let b = Book_send D g s in search (sendable, crosses) depth 40

-- ---- crews

Line_send : IsSend Line.the_field.row
Line_send = search (Parcel_send, Returned_send, sendable, crosses) depth 80 fits 100000

pub Crew_send : IsSend Crew.the_field.row
Crew_send = search (Line_send, sendable, crosses) depth 40
