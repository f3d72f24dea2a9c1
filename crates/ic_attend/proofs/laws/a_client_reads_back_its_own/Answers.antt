use Rattle.std.proofs.Common.{◌≡◌, ◌∙◌, ◌++◌, ◌∷◌, [], List, ap}
use Rattle.std.specs.Option.{option_map_or}
use Rattle.ic_jobs.specs.declared.command.Command.TheVariants.{Submit}
use Rattle.ic_jobs.specs.declared.reply.Reply.TheVariants.{Accepted}
use Rattle.ic_jobs.specs.Events.{Outcome, after_command}
use Rattle.ic_jobs.specs.History.{replay}
use Rattle.ic_jobs.specs.Job.{JobParts}
use Rattle.ic_jobs.specs.Table.{job_named}
use Rattle.ic_jobs.specs.Transitions.{fetch_reply}
use Rattle.ic_book.specs.Entries.{command_entry}
use Rattle.ic_attend.proofs.HistoryLemmas.{accepted_begins, stays}
use Rattle.ic_attend.proofs.laws.a_client_reads_back_its_own.Goals as goal

pub returns-clause-left : goal.returns-clause-left
returns-clause-left c = λ start front mid back who name r legal none.
    c.a_client_reads_what_came_before.ensures.fetched start (front ++ mid) back who name r legal
    ∙ ap (λ (t : List JobParts). fetch_reply (job_named name t)) (c.histories_split_and_join.ensures.table start front mid)
    ∙ ap fetch_reply (stays c.other_jobs_stay.ensures (replay start front) name mid none)

pub returns-clause-submitted : goal.returns-clause-submitted
returns-clause-submitted c = λ start front who name system budget legal.
    let t = replay start front in
    let e = command_entry who (Submit name system budget) Accepted in
    let answered = c.a_client_reads_what_came_before.ensures.answered start front [] e legal in
    let same : after_command t (Submit name system budget) ≡ answered.outcome = ap (λ o. option_map_or (λ (x : Outcome). x) o answered.outcome) answered.defined in
    let told : (after_command t (Submit name system budget)).reply ≡ Accepted = ap (λ (o : Outcome). o.reply) same ∙ answered.replied in
    ap (job_named name) (c.histories_split_and_join.ensures.table start front (e ∷ []))
    ∙ accepted_begins t name system budget told
