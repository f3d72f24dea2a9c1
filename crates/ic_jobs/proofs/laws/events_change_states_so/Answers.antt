use Rattle.ic_jobs.proofs.TransitionLemmas.{event_leads, open_where_quiet, open_where_not, done_after, spent_after, running_after}
use Rattle.ic_jobs.proofs.laws.events_change_states_so.Goals as goal

pub returns : goal.returns
returns c = record {
  events = event_leads;
  done = open_where_quiet;
  running = open_where_not;
  done_after = done_after;
  spent_after = spent_after;
  running_after = running_after;
}
