use Rattle.ic_state.specs.State.{state_bytes}
use Rattle.ic_kept.specs.Lives.{none_yet, one_more}
use Rattle.ic_keeping.proofs.LivesLemmas.{life_holds}
use Rattle.ic_keeping.proofs.Resuming.{first_held}
use Rattle.ic_keeping.proofs.laws.a_first_life_is_one_of_them.Goals as goal

pub returns-clause-begun : goal.returns-clause-begun
returns-clause-begun g c s begun n life = (life.first, life.second, life.keeper, life.model, life.newest, life.shut, life.life)

pub returns-clause-stopped : goal.returns-clause-stopped
returns-clause-stopped g c = λ s begun last next n life left. record {
  is_kept = life.life.is_kept;
  state = life.life.state;
  lives = one_more (state_bytes begun) (state_bytes begun) (state_bytes begun) last next life.first life.second c.args.first.now c.args.second.now life.keeper n
      (none_yet life.first life.second (record {
        keeps = life.model.0;
        keeps_too = life.model.1;
        images = λ one other left left_too. first_held (state_bytes begun) one other (life.newest one left) (life.shut other left_too);
      }))
      life.life.opened life.life.way left;
}

pub returns-clause-again : goal.returns-clause-again
returns-clause-again g c = λ s begun n life.
    life_holds g.D.Disk (λ d t file. g.met.D.Disk.image_is_left d t file) (λ d. g.met.D.Disk.content_is_image d) c.each_state_has_its_own_bytes.ensures s begun life.first life.second life.keeper n life.life
