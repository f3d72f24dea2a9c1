use Rattle.ic_lives.proofs.LifeLemmas.{life_copied_from, life_paused, life_resumed, life_refused, life_shown, life_halted}
use Rattle.ic_lives.proofs.laws.a_life_stays.Goals as goal

pub returns : goal.returns
returns c = record {
  copied_from = life_copied_from;
  paused = life_paused;
  resumed = life_resumed;
  refused = life_refused;
  shown = life_shown;
  halted = life_halted;
}
