use Rattle.std.specs.Prelude.{vec_len}
use Rattle.ic_attend.proofs.threads.+start_clients.Given as goal

abbrev pub decreases-start_clients : goal.decreases-start_clients
decreases-start_clients g l = vec_len l.scripts
