use Rattle.std.proofs.Common.{refl}
use Rattle.ic_jobs.proofs.LifeLemmas.{life_submitted, life_copied, life_moved, life_ended, life_unmentioned}
use Rattle.ic_jobs.proofs.laws.lives_go_so.Goals as goal

pub returns : goal.returns
returns c = record {
  none = λ name. refl;
  submitted = life_submitted;
  copied = life_copied;
  moved = life_moved;
  ended = life_ended;
  other = life_unmentioned;
}
