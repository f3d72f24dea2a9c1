use Rattle.std.specs.Prelude.{vec_len}
use Rattle.ic_pool.proofs.workers.+start_workers.Given as goal

abbrev pub decreases-start_workers : goal.decreases-start_workers
decreases-start_workers g l = vec_len l.batches
