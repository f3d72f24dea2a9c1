use Rattle.std.proofs.Common.{arith}
use Rattle.ic_kept.specs.Keeper.{newest_of, other_of}
use Rattle.ic_keeping.proofs.LivesLemmas.{there, one_is_held, life_holds, holds_back, holds_less}
use Rattle.ic_keeping.proofs.laws.another_life_may_follow.Goals as goal

pub returns-clause-lives : goal.returns-clause-lives
returns-clause-lives g c = λ s begun kept coming lived. (lived.is_kept, lived.state, lived.lives)

pub returns-clause-holds : goal.returns-clause-holds
returns-clause-holds g c = λ s begun kept coming lived.
    let disk = g.D.Disk in
    let both = there disk.keeps disk.content disk.image disk.clock disk.left (λ d. g.met.D.Disk.content_is_image d) c.one_state_is_held.ensures c.each_state_has_its_own_bytes.ensures
    s begun kept coming c.args.first.now c.args.second.now lived.lives in
    record {
      model = (both.keeps, both.keeps_too);
      held = one_is_held disk.keeps disk.content disk.image disk.clock disk.left (λ d. g.met.D.Disk.content_is_image d) c.one_state_is_held.ensures c.each_state_has_its_own_bytes.ensures
          s begun kept coming c.args.first.now c.args.second.now lived.lives lived.is_kept lived.state;
    }

pub returns-clause-again : goal.returns-clause-again
returns-clause-again g c = λ s found k n life.
    life_holds g.D.Disk (λ d t file. g.met.D.Disk.image_is_left d t file) (λ d. g.met.D.Disk.content_is_image d) c.each_state_has_its_own_bytes.ensures s found c.args.first.now c.args.second.now k n life

pub returns-clause-ended : goal.returns-clause-ended
returns-clause-ended g c = λ s bounds most asked from run n end.
    let holds = life_holds g.D.Disk (λ d t file. g.met.D.Disk.image_is_left d t file) (λ d. g.met.D.Disk.content_is_image d) c.each_state_has_its_own_bytes.ensures
    s end.found c.args.first.now c.args.second.now end.keeper n end.life in
    (holds_less g.D.Disk s end.found from (newest_of n) (other_of n) end.no_less holds, omega (arith, end.no_less.interactions, end.on.later))

pub returns-clause-stopped : goal.returns-clause-stopped
returns-clause-stopped g c = λ s found k n fault life stop.
    holds_back g.D.Disk s found n fault stop.back
    (life_holds g.D.Disk (λ d t file. g.met.D.Disk.image_is_left d t file) (λ d. g.met.D.Disk.content_is_image d) c.each_state_has_its_own_bytes.ensures
    s found c.args.first.now c.args.second.now k n life)

pub returns-clause-stopped_first : goal.returns-clause-stopped_first
returns-clause-stopped_first g c = λ s begun n fault first stop.
    holds_back g.D.Disk s begun n fault stop.back
    (life_holds g.D.Disk (λ d t file. g.met.D.Disk.image_is_left d t file) (λ d. g.met.D.Disk.content_is_image d) c.each_state_has_its_own_bytes.ensures
    s begun first.first first.second first.keeper n first.life)

pub returns-clause-kept : goal.returns-clause-kept
returns-clause-kept g c = λ s k n far. (far.kept, far.onward.was, far.as_far, far.has)
