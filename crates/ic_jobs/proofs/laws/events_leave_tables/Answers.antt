use Rattle.ic_jobs.proofs.EventLemmas.{event_keeps}
use Rattle.ic_jobs.proofs.laws.events_leave_tables.Goals as goal

pub returns : goal.returns
returns c = event_keeps
