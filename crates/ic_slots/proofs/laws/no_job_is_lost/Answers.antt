use Rattle.ic_slots.proofs.UnusedLemmas.{unused_table}
use Rattle.ic_slots.proofs.laws.no_job_is_lost.Goals as goal

pub returns-clause-lost : goal.returns-clause-lost
returns-clause-lost c file t unused held =
    unused_table c.one_is_held.ensures c.what_is_begun_is_shut.ensures file t held unused
