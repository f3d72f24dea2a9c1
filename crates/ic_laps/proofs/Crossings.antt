-- A post may go to another thread. Each step is proved by itself: all at once is too much for one search.
use denote.Param.Send.{IsSend, IsSync, sendable}
use Rattle.std.proofs.Crossing.{crosses}
use Rattle.ic_flat.proofs.word.Word.TheSendSync as word
use Rattle.ic_rules.proofs.job_name.JobName.TheSendSync as name
use Rattle.ic_crew.specs.lemmas.Crossings.{RuleSet_send, RuleSet_sync}
use Rattle.ic_flat.specs.contracts.flat.Flat as Flat
use Rattle.ic_flat.specs.contracts.wide.WideFlat as WideFlat
use Rattle.ic_flat_rules.specs.contracts.flat_rules.FlatRules as FlatRules
use Rattle.ic_flights.specs.contracts.flight.Flight as Flight
use Rattle.ic_flights.specs.contracts.played.Played as Played
use Rattle.ic_laps.specs.contracts.tasks.Task as Task
use Rattle.ic_laps.specs.contracts.tasks.Done as Done
use Rattle.ic_laps.specs.contracts.tasks.Post as Post

WideFlat_send : IsSend WideFlat.the_field.row
WideFlat_send = search (word.the_field_send, sendable, crosses) depth 40

WideFlat_sync : IsSync WideFlat.the_field.row
WideFlat_sync = search (word.the_field_sync, sendable, crosses) depth 40

Flat_send : IsSend Flat.the_field.row
Flat_send = search (WideFlat_send, sendable, crosses) depth 40

Flat_sync : IsSync Flat.the_field.row
Flat_sync = search (WideFlat_sync, sendable, crosses) depth 40

FlatRules_send : IsSend FlatRules.the_field.row
FlatRules_send = search (RuleSet_send, RuleSet_sync, word.the_field_send, sendable, crosses) depth 40

FlatRules_sync : IsSync FlatRules.the_field.row
FlatRules_sync = search (RuleSet_send, RuleSet_sync, word.the_field_sync, sendable, crosses) depth 40

Flight_send : IsSend Flight.the_field.row
Flight_send = search (Flat_send, Flat_sync, FlatRules_send, FlatRules_sync, name.the_send, sendable, crosses) depth 40

Played_send : IsSend Played.the_field.row
Played_send = search (Flat_send, Flat_sync, FlatRules_send, FlatRules_sync, name.the_send, sendable, crosses) depth 40

Task_send : IsSend Task.the_field.row
Task_send = search (Flight_send, sendable, crosses) depth 40

Done_send : IsSend Done.the_field.row
Done_send = search (Played_send, Flight_send, sendable, crosses) depth 40

pub Post_send : IsSend Post.the_field.row
Post_send = search (Task_send, Done_send, sendable, crosses) depth 80 fits 100000
