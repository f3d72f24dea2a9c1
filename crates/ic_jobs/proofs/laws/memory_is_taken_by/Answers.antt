use Rattle.ic_jobs.proofs.MemoryLemmas.{submitting, telling, changing, is_submit_exact, tells_jobs_exact}
use Rattle.ic_jobs.proofs.laws.memory_is_taken_by.Goals as goal

pub returns : goal.returns
returns c = record {
  submitting = submitting;
  telling = telling;
  changing = changing;
  copies = is_submit_exact;
  replies = tells_jobs_exact;
}
