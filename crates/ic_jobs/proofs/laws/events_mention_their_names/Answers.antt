use Rattle.ic_jobs.proofs.MentionLemmas.{mentions_names}
use Rattle.ic_jobs.proofs.laws.events_mention_their_names.Goals as goal

pub returns : goal.returns
returns c = record { names = mentions_names; rounds = λ n. tt }
