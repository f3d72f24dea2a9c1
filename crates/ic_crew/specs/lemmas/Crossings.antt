-- A post may go to another thread. Each step is proved by itself: all at once is too much for one search.
use denote.Param.Send.{IsSend, IsSync, sendable}
use Rattle.std.proofs.Crossing.{crosses}
use Rattle.std.proofs.MapsCrossing.{crosses as maps}
use Rattle.ic_term.proofs.term.Term.TheLaws.TheKnot.{crosses as terms}
use Rattle.ic_term.proofs.symbols.Symbols.TheSendSync as symbols
use Rattle.ic_rules.proofs.rule_set.SymbolPair.TheSendSync as pair
use Rattle.ic_rules.specs.contracts.rule.Rule as Rule
use Rattle.ic_rules.specs.contracts.rule_set.RuleSet as RuleSet
use Rattle.ic_round.specs.contracts.work.Work as Work
use Rattle.ic_round.specs.contracts.work.Fired as Fired
use Rattle.ic_crew.specs.contracts.answers.Answer as Answer
use Rattle.ic_crew.specs.contracts.parcels.Parcel as Parcel
use Rattle.ic_crew.specs.contracts.parcels.Returned as Returned
use Rattle.ic_crew.specs.contracts.posts.Post as Post

Rule_send : IsSend Rule.the_field.row
Rule_send = search (sendable, crosses, terms) depth 40

Rule_sync : IsSync Rule.the_field.row
Rule_sync = search (sendable, crosses, terms) depth 40

pub RuleSet_send : IsSend RuleSet.the_field.row
RuleSet_send = search (Rule_send, symbols.the_send, pair.the_field_send, sendable, crosses, maps) depth 40

pub RuleSet_sync : IsSync RuleSet.the_field.row
RuleSet_sync = search (Rule_sync, symbols.the_sync, pair.the_field_sync, sendable, crosses, maps) depth 40

Work_send : IsSend Work.the_field.row
Work_send = search (sendable, crosses, terms) depth 40

Fired_send : IsSend Fired.the_field.row
Fired_send = search (sendable, crosses, terms) depth 40

Answer_send : IsSend Answer.the_field.row
Answer_send = search (RuleSet_send, RuleSet_sync, Work_send, Fired_send, sendable, crosses) depth 40

pub Parcel_send : IsSend Parcel.the_field.row
Parcel_send = search (RuleSet_send, RuleSet_sync, Work_send, sendable, crosses) depth 40

pub Returned_send : IsSend Returned.the_field.row
Returned_send = search (Answer_send, sendable, crosses) depth 40

pub Post_send : IsSend Post.the_field.row
Post_send = search (Parcel_send, Returned_send, sendable, crosses) depth 80 fits 100000
