use Rattle.ic_jobs.proofs.NameOrder.{event_names_so, refused_stays}
use Rattle.ic_jobs.proofs.laws.names_keep_their_order.Goals as goal

pub returns : goal.returns
returns c = record { names = event_names_so; refused = refused_stays }
